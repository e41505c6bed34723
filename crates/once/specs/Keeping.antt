-- The place of a sample that was cut, when some of its parts came: how many are missing, and that all of them make the sample.
-- Assumes nothing.
use Prim.Native.Nat.{ℕ, ◌-◌, ◌≤◌}
use Rattle.std.specs.Prelude.{◌≡◌, Bool, List, [], length, get_or}
use Rattle.std.proofs.Math.Bool.{true}
use Rattle.std.proofs.Math.Option.{none, some}
use Rattle.laws.specs.Rows.{◌⇒◌⁏◌}
use Rattle.joining.specs.Joining.{Piece, piece}
use Rattle.unit.specs.declared.Part as P
use Rattle.writer.specs.Write.{Caption, sample, parts, count}
use Rattle.again.specs.Again as A
use Rattle.sample.specs.declared.Place.{Place}
use Rattle.sample.specs.Place.{kept_at}
use Rattle.sample.specs.Kept.{Made}

-- part number k
abbrev pub part_of : Caption → (M k : ℕ) → Piece
part_of c M k = get_or (parts c M) (k - 1) (piece 2 [])

-- the part x with the data d is part number k
pub record Bears (c : Caption) (M k : ℕ) (x : P.Part) (d : List ℕ) : Type 0 where
  pub from : 1 ≤ k
  pub to : k ≤ count c M
  pub agrees : A.Agrees c M k x
  pub is : piece x.kind d ≡ part_of c M k

-- the place has those that came, and what they tell
pub record Gathered (c : Caption) (M : ℕ) (came : ℕ → Bool) (p : Place) : Type 0 where
  pub made : Made p
  pub used : p.used ≡ true
  pub total : p.total ≡ count c M
  pub sdur : p.sdur ≡ c.SDUR
  pub word : p.told ≡ true → (p.u ≡ c.U) × (p.sidx ≡ c.SIDX) × (p.slen ≡ length (sample c))
  pub pieces : (k : ℕ) → kept_at p k ≡ (came k ⇒ some (part_of c M k) ⁏ none)

-- only payloads come
abbrev pub Only : (N : ℕ) → (ℕ → Bool) → Type 0
Only N came = (k : ℕ) → came k ≡ true → (1 ≤ k) × (k ≤ N)
