-- Regions of a list after a run of stores: one that the run does not meet, one that it starts in, and the front. Assumes nothing.
use Rattle.std.specs.Prelude.{ℕ, zero, suc, ◌+◌, ◌-◌, ◌≤◌, ◌<◌, Bool, true, false, ◌≡◌, refl, ◌⊎◌, List, [], ◌∷◌, ◌++◌, length, take, drop, set, get_or, replicate}
use Rattle.std.proofs.Common.{arith, add-zero, ap, sym, ◌∙◌, inl, inr, ⊎_elim, drop-set-lt}
use Rattle.std.proofs.lemmas.List.Edits.{sets}
use Rattle.std.proofs.Math.Seq.{take-nil, take-set-lt}
use Rattle.std.proofs.lemmas.List.{take-set-le, drop-set-add}
use Rattle.laws.specs.Region.{part, sets-full}

pub either : (b : Bool) → (b ≡ true) ⊎ (b ≡ false)
either true = inl refl
either false = inr refl

module _ {A : Type 0} where
  part-set-other : (l : List A) (k : ℕ) (v : A) (b m : ℕ) → (b + m ≤ k) ⊎ (k < b) → part b m (set l k v) ≡ part b m l
  part-set-other l k v b m h =
      ⊎_elim
      (λ w.
      let q : k ≡ b + (k - b) = omega arith in
      ap (λ (n : ℕ). part b m (set l n v)) q ∙ ap (take m) (drop-set-add b l (k - b) v) ∙ take-set-le m (drop b l) (k - b) v (omega arith))
      (λ w. ap (take m) (drop-set-lt b l k v w)) h

  -- a region that the stores do not meet is as it was
  pub part-sets-other : (vs l : List A) (k b m : ℕ) → (b + m ≤ k) ⊎ (k + length vs ≤ b) → part b m (sets l k vs) ≡ part b m l
  part-sets-other [] l k b m h = refl
  part-sets-other (v ∷ vs) l k b m h =
      part-sets-other vs (set l k v) (suc k) b m (⊎_elim (λ w. inl (omega arith)) (λ w. inr (omega arith)) h)
      ∙ part-set-other l k v b m (⊎_elim (λ w. inl w) (λ w. inr (omega arith)) h)

  drop-sets : (vs l : List A) (n i : ℕ) → drop n (sets l (n + i) vs) ≡ sets (drop n l) i vs
  drop-sets [] l n i = refl
  drop-sets (v ∷ vs) l n i =
      let q : suc (n + i) ≡ n + suc i = omega arith in
      ap (λ (k : ℕ). drop n (sets (set l (n + i) v) k vs)) q
      ∙ drop-sets vs (set l (n + i) v) n (suc i)
      ∙ ap (λ (u : List A). sets u (suc i) vs) (drop-set-add n l i v)

  take-sets : (vs l : List A) (n i : ℕ) → i + length vs ≤ n → take n (sets l i vs) ≡ sets (take n l) i vs
  take-sets [] l n i h = refl
  take-sets (v ∷ vs) l n i h =
      take-sets vs (set l i v) n (suc i) (omega arith) ∙ ap (λ (u : List A). sets u (suc i) vs) (take-set-lt n l i v (omega arith))

  -- a region that the stores start in and stay in has them at its front
  pub part-sets-same : (vs l : List A) (a k : ℕ) → length vs ≤ k → part a k (sets l a vs) ≡ sets (part a k l) 0 vs
  part-sets-same vs l a k h =
      ap (λ (n : ℕ). part a k (sets l n vs)) (sym (add-zero a)) ∙ ap (take k) (drop-sets vs l a 0) ∙ take-sets vs (drop a l) k 0 (omega arith)

  sets-cons : (vs : List A) (x : A) (xs : List A) (i : ℕ) → sets (x ∷ xs) (suc i) vs ≡ x ∷ sets xs i vs
  sets-cons [] x xs i = refl
  sets-cons (v ∷ vs) x xs i = sets-cons vs x (set xs i v) (suc i)

  -- stores at the front: what there is room for, and then what was there
  pub sets-front : (vs l : List A) → sets l 0 vs ≡ take (length l) vs ++ drop (length vs) l
  sets-front [] l = rw (take-nil (length l))
  sets-front (v ∷ vs) [] = sets-full (v ∷ vs) [] 0 (omega arith)
  sets-front (v ∷ vs) (x ∷ xs) = sets-cons vs v xs 0 ∙ ap (λ (l : List A). v ∷ l) (sets-front vs xs)

-- zeros over all of a list
pub zeros-at : (n : ℕ) (r : List ℕ) (i : ℕ) → length r ≤ n → get_or (sets r 0 (replicate n 0)) i 0 ≡ 0
zeros-at zero [] i h = refl
zeros-at zero (x ∷ xs) i h = absurd (omega arith)
zeros-at (suc n) [] i h = rw (sets-full {A = ℕ} (replicate (suc n) 0) [] 0 (omega arith))
zeros-at (suc n) (x ∷ xs) zero h = rw (sets-cons (replicate n 0) 0 xs 0)
zeros-at (suc n) (x ∷ xs) (suc i) h = rw (sets-cons (replicate n 0) 0 xs 0) (zeros-at n xs i (omega arith))
