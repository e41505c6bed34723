-- One step of the box walk: what stands at a place of the modifiers, and where the next box is. Assumes nothing.
use Rattle.std.specs.Prelude.{ℕ, ◌+◌, ◌-◌, ◌≤◌, ◌≡◌, List, [], length, Some, None, Ok, Err}
use Rattle.laws.specs.Rows.{◌⇒◌⁏◌, ◌<?◌, ◌=?◌}
use Rattle.laws.specs.Region.{part}
use Rattle.octets.specs.Be.{u32_at}
use Rattle.paper.specs.declared.Refusal.TheVariants as R
use Rattle.boxes.specs.Found.{Found}
use Rattle.boxes.specs.declared.Stepped.{Stepped}

-- a box's header: its size, which counts the header too, and its type, four bytes each
abbrev pub header_size : ℕ
header_size = 8

abbrev pub size_at : List ℕ → ℕ → ℕ
size_at m at = u32_at m at

abbrev pub type_at : List ℕ → ℕ → ℕ
type_at m at = u32_at m (at + 4)

abbrev pub finds : Found → ℕ → Stepped
finds f next = record { found = f; next = next }

-- refusal 15, which leaves the place
abbrev pub refused_at : ℕ → Stepped
refused_at at = finds (Err R.Box) at

-- a place beyond the end; the end; 1 to 7 bytes left; a size below 8; a size beyond the end; a box. Only a box moves the place
unfoldable pub step_of : List ℕ → ℕ → Stepped
step_of m at =
    length m <? at ⇒ refused_at at
    ⁏ at =? length m ⇒ finds (Ok None) at
    ⁏ length m <? at + header_size ⇒ refused_at at
    ⁏ size_at m at <? header_size ⇒ refused_at at
    ⁏ length m <? at + size_at m at ⇒ refused_at at
    ⁏ finds (Ok (Some (type_at m at))) (at + size_at m at)

-- a box shows its contents; the end and a refusal show nothing
abbrev pub shows : Found → List ℕ → List ℕ
shows (Ok None) contents = []
shows (Ok (Some t)) contents = contents
shows (Err r) contents = []

-- what stands behind the header of the box at a place
unfoldable pub contents_of : List ℕ → ℕ → List ℕ
contents_of m at = shows (step_of m at).found (part (at + header_size) (size_at m at - header_size) m)

-- ---- what each finding says of the place and the next one
abbrev pub Says : List ℕ → ℕ → Found → ℕ → Type 0
Says m at (Ok None) next = at ≡ length m
Says m at (Ok (Some t)) next = (next ≡ at + size_at m at) × ((header_size ≤ size_at m at) × (next ≤ length m))
Says m at (Err r) next = r ≡ R.Box
