-- What a store leaves: place i, where it is one of the first m, is what was stored. A store and a clear leave the table as long as it was.
-- Assumes nothing.
use Rattle.std.specs.Prelude.{ℕ, ◌<◌, ◌≤◌, ◌≡◌, Bool, List, ◌⊎◌, length, replicate}
use Rattle.std.proofs.Math.Path.{refl, sym}
use Rattle.std.proofs.Math.Bool.{true, false}
use Rattle.std.proofs.Common.{inl, inr, length-set}
use Rattle.std.proofs.Math.ListN.{set}
use Rattle.std.proofs.Math.Seq.{length-sets, set_out}
use Rattle.laws.specs.Rows.{◌⇒◌⁏◌, ◌<?◌, yes, no, lt, ge, each}
use Rattle.sample.specs.declared.Place.{Place}
use Rattle.sample.specs.Place.{closed}
use Rattle.table.specs.Table.{stored, cleared}

module _ (ys : List Place) (m i : ℕ) where
  pub stored-in : (p : Place) → (i < m) × (i < length ys) → set ys i p ≡ stored m i p ys
  stored-in p h = yes (i <? m) ys (lt i m h.0) refl

  pub stored-out : (p : Place) → (m ≤ i) ⊎ (length ys ≤ i) → ys ≡ stored m i p ys
  unfolding ◌⇒◌⁏◌
  stored-out p (inl k) = no (i <? m) (set ys i p) (ge i m k) refl
  stored-out p (inr k) = past (i <? m)
    where
      past : (b : Bool) → ys ≡ (b ⇒ set ys i p ⁏ ys)
      past true = sym (set_out ys i p k)
      past false = refl

pub length-stored : (m i : ℕ) (p : Place) (l : List Place) → length (stored m i p l) ≡ length l
length-stored m i p l = each (λ (k : List Place). length k ≡ length l) (i <? m) (set l i p) l (λ _. length-set l i p) (λ _. refl)

pub length-cleared : (m : ℕ) (l : List Place) → length (cleared m l) ≡ length l
length-cleared m l = length-sets l 0 (replicate m closed)
