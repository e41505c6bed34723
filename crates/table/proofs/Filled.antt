-- The front of a list filled with one value. Assumes nothing.
use Rattle.std.proofs.Common.{ℕ, zero, suc, ◌+◌, ◌-◌, ◌≤◌, min, arith, ◌≡◌, refl, sym, ap, ◌∙◌, List, [], ◌∷◌, ◌++◌, length, take, drop, length-take}
use Rattle.std.proofs.Math.ListN.{replicate, set}
use Rattle.std.proofs.Math.Seq.{set_out}
use Rattle.std.proofs.lemmas.List.{length-replicate}
use Rattle.std.proofs.lemmas.List.Edits.{sets}
use Rattle.laws.specs.Region.{take_min, drop_min}

module _ {A : Type 0} (x : A) where
  -- a store behind the front leaves it
  behind : (vs l : List A) (y : A) (i : ℕ) → sets (y ∷ l) (suc i) vs ≡ y ∷ sets l i vs
  behind [] l y i = refl
  behind (v ∷ vs) l y i = behind vs (set l i v) y (suc i)

  none : (m i : ℕ) → sets [] i (replicate m x) ≡ []
  none zero i = refl
  none (suc m) i = none m (suc i)

  pub filled : (m : ℕ) (l : List A) → replicate (length (take m l)) x ++ drop m l ≡ sets l 0 (replicate m x)
  filled zero l = refl
  filled (suc m) [] = sym (none m 1)
  filled (suc m) (y ∷ l) = ap (λ (r : List A). x ∷ r) (filled m l) ∙ sym (behind (replicate m x) l x 0)

  -- of the first n, which are as many of the first m as there are
  pub front-filled : (n m : ℕ) (l : List A) → n ≡ min (length l) m → replicate (length (take n l)) x ++ drop n l ≡ sets l 0 (replicate m x)
  front-filled n m l e =
      let back : n ≡ min m (length l) = omega (arith, e) in
      let t : take n l ≡ take m l = ap (λ (k : ℕ). take k l) e ∙ take_min l m in
      let d : drop n l ≡ drop m l = ap (λ (k : ℕ). drop k l) back ∙ drop_min l m in
      rw (t, d) (filled m l)
