-- A desk's finished times, the last sixteen: they stand at the front of its row in order of finishing, the oldest first.
-- Assumes nothing.
use Rattle.std.specs.Prelude.{ℕ, ◌+◌, ◌-◌, min, Bool, false, take, drop, set}
use mathlib.Core.List.{List, [], ◌∷◌, ◌++◌}
use Rattle.std.proofs.lemmas.List.Edits.{sets}
use Rattle.laws.specs.Rows.{◌⇒◌⁏◌, ◌or◌, ◌<?◌, ◌=?◌}
use Rattle.laws.specs.Region.{part}
use Rattle.paper.specs.Limits.{finished_most}

-- of a count the first sixteen are in use, whatever it says
abbrev pub times_of : List ℕ → ℕ → List ℕ
times_of row used = take (min used finished_most) row

unfoldable pub among : List ℕ → ℕ → Bool
among [] time = false
among (x ∷ xs) time = x =? time or among xs time

-- a unit is late if its time is a finished one
abbrev pub late : List ℕ → ℕ → ℕ → Bool
late row used time = among (times_of row used) time

-- of sixteen the oldest goes, the others move down, and the time is the last; in a shorter row, of as many as there are
abbrev pub down : List ℕ → ℕ → List ℕ
down row time = part 1 (finished_most - 1) row ++ (time ∷ [])

unfoldable pub moved_row : List ℕ → ℕ → List ℕ
moved_row row time = sets row 0 (down row time)

-- a time that finishes goes behind those in use, while there are fewer than sixteen
unfoldable pub marked_row : List ℕ → ℕ → ℕ → List ℕ
marked_row row used time =
    used <? finished_most ⇒ set row used time
    ⁏ moved_row row time

unfoldable pub marked_used : ℕ → ℕ
marked_used used =
    used <? finished_most ⇒ used + 1
    ⁏ finished_most

-- ---- the search: what is still ahead decides
abbrev pub ahead : List ℕ → ℕ → ℕ → List ℕ
ahead row used i = drop i (times_of row used)
