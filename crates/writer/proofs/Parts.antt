-- Laws of cutting: one part at a time, all of them, and the blocks of one length. Assumes nothing.
use Prim.Native.Nat.{ℕ, zero, suc, ◌+◌, ◌-◌, ◌*◌, ◌/◌, ◌%◌, ◌≤◌, ◌<◌, min}
use Rattle.std.proofs.Common.{arith, ◌∙◌, drop-drop}
use Rattle.std.proofs.Math.Nat.{div-eq-sub-div, div-eq_of_lt, mod-lt}
use Rattle.std.proofs.lemmas.Nat.{div-add-mod', div-mul-add}
use Rattle.std.specs.Int.{div_ceil}
use Rattle.std.specs.Prelude.{◌≡◌, Bool, true, drop, get_or}
use Rattle.std.proofs.Math.Path.{refl, sym, ap}
use Rattle.std.proofs.Math.Bool.{false}
use mathlib.Core.List.{List, [], ◌∷◌, ◌++◌, flatten}
use Rattle.std.proofs.Math.ListN.{length, take, length-drop, take-append-drop}
use Rattle.laws.specs.Rows.{◌⇒◌⁏◌, ◌=?◌, eq, ne, ne_of}
use Rattle.laws.specs.Rows as Rows
use Rattle.std.proofs.Math.Decide.{ℕ_discrete, dec_lt}
use Rattle.laws.specs.Lists.{by_length}
use Rattle.laws.specs.Region.{part, take_min, drop_min}
use Rattle.writer.specs.Cut.{cuts_within, cuts, blocks}

-- ---- cuts, one part at a time. `size` never says more than there is
module _ (size : List ℕ → ℕ) (within : (s : List ℕ) → size s ≤ length s) where
  fuel : (n m : ℕ) (s : List ℕ) → length s ≤ n → length s ≤ m → cuts_within size n s ≡ cuts_within size m s
  unfolding cuts_within ◌⇒◌⁏◌
  fuel zero zero s h k = refl
  fuel zero (suc m) s h k = let z : size s ≡ 0 = omega (arith, within s) in rw (eq _ _ z)
  fuel (suc n) zero s h k = let z : size s ≡ 0 = omega (arith, within s) in rw (eq _ _ z)
  fuel (suc n) (suc m) s h k = go (size s =? 0) refl (λ q. fuel n m (drop (size s) s) (shorter n h q) (shorter m k q))
    where
      shorter : (a : ℕ) → length s ≤ suc a → (size s =? 0) ≡ false → length (drop (size s) s) ≤ a
      shorter a h q = let z = ne_of _ _ q in simp length-drop (omega arith)

      go : (b : Bool) → (size s =? 0) ≡ b → ((size s =? 0) ≡ false → cuts_within size n (drop (size s) s) ≡ cuts_within size m (drop (size s) s))
          → (b ⇒ [] ⁏ take (size s) s ∷ cuts_within size n (drop (size s) s)) ≡ (b ⇒ [] ⁏ take (size s) s ∷ cuts_within size m (drop (size s) s))
      go true e ih = refl
      go false e ih = rw (ih e)

  pub cuts-end : (s : List ℕ) → size s ≡ 0 → cuts size s ≡ []
  unfolding cuts cuts_within
  cuts-end s h = fuel (length s) (suc (length s)) s (omega arith) (omega arith) ∙ sym (Rows.yes _ _ (eq _ _ h) refl)

  pub cuts-turn : (s : List ℕ) → (size s ≡ 0 → ⊥) → cuts size s ≡ take (size s) s ∷ cuts size (drop (size s) s)
  unfolding cuts cuts_within
  cuts-turn s h =
      fuel (length s) (suc (length s)) s (omega arith) (omega arith)
      ∙ sym (Rows.no _ _ (ne _ _ h) refl)
      ∙ ap (λ (r : List (List ℕ)). take (size s) s ∷ r) (fuel (length s) (length (drop (size s) s)) (drop (size s) s) (simp length-drop (omega arith)) (omega arith))

  -- what holds of the list, as long as it goes on, holds of what is left; and as long as something is left, something is cut off: then
  -- the parts one after the other are the list again
  module _ (P : List ℕ → Type 0) (keeps : (s : List ℕ) → P s → P (drop (size s) s)) (moves : (s : List ℕ) → P s → 0 < length s → 0 < size s) where
    pub cuts-all : (s : List ℕ) → P s → flatten (cuts size s) ≡ s
    unfolding flatten
    cuts-all = by_length (λ (s : List ℕ). P s → flatten (cuts size s) ≡ s) (λ s ih p. go s ih p (ℕ_discrete (length s) 0))
      where
        go : (s : List ℕ) → ((t : List ℕ) → length t < length s → P t → flatten (cuts size t) ≡ t) → P s → Dec (length s ≡ 0) → flatten (cuts size s) ≡ s
        go [] ih p (yes z) = ap (flatten {A = ℕ}) (cuts-end [] (omega (arith, within [])))
        go (a ∷ s) ih p (yes z) = absurd (omega arith)
        go s ih p (no z) =
            let m = moves s p (omega arith) in
            ap (flatten {A = ℕ}) (cuts-turn s (λ q. omega arith))
            ∙ ap (λ (r : List ℕ). take (size s) s ++ r) (ih (drop (size s) s) (simp length-drop (omega arith)) (keeps s p))
            ∙ take-append-drop (size s) s

  -- where there is a part, something is cut off
  left : (s : List ℕ) → 0 < length (cuts size s) → 0 < size s
  left s h = go (dec_lt 0 (size s))
    where
      go : Dec (0 < size s) → 0 < size s
      go (yes l) = l
      go (no l) = absurd (omega (arith, ap (length {A = List ℕ}) (cuts-end s (omega arith))))

  -- what holds of each part that can be cut off holds of all the parts
  module _ (P : List ℕ → Type 0) (keeps : (s : List ℕ) → P s → P (drop (size s) s)) (Q : List ℕ → Type 0)
      (first : (s : List ℕ) → P s → 0 < size s → Q (take (size s) s)) where
    pub cuts-each : (i : ℕ) (s : List ℕ) → P s → i < length (cuts size s) → Q (get_or (cuts size s) i [])
    cuts-each zero s p h =
        let n = left s h in
        rw (cuts-turn s (λ z. omega arith)) (first s p n)
    cuts-each (suc i) s p h =
        let n = left s (omega arith) in
        let t = cuts-turn s (λ z. omega arith) in
        rw t (cuts-each i (drop (size s) s) (keeps s p) (omega (arith, ap (length {A = List ℕ}) t)))

-- ---- blocks of k bytes: how many, and which bytes the one numbered j from 0 has
module _ (k : ℕ) (some : 0 < k) where
  least : (s : List ℕ) → min k (length s) ≤ length s
  least s = omega arith

  blocks_end : (s : List ℕ) → length s ≡ 0 → blocks k s ≡ []
  blocks_end s h = cuts-end (λ s. min k (length s)) least s (omega arith)

  blocks-turn : (s : List ℕ) → 0 < length s → blocks k s ≡ take k s ∷ blocks k (drop k s)
  blocks-turn s h =
      let q : min k (length s) ≡ min (length s) k = omega arith in
      let t : take (min k (length s)) s ≡ take k s = rw q (take_min s k) in
      cuts-turn (λ s. min k (length s)) least s (λ z. omega arith) ∙ rw (t, drop_min s k)

  pub blocks-count : (s : List ℕ) → length (blocks k s) ≡ (length s + (k - 1)) / k
  blocks-count = by_length (λ (s : List ℕ). length (blocks k s) ≡ (length s + (k - 1)) / k) (λ s ih. go s ih (dec_lt 0 (length s)) (dec_lt (length s) k))
    where
      next : (s : List ℕ) → Dec (length s < k) → 0 < length s → (length (drop k s) + (k - 1)) / k ≡ (length s + (k - 1) - k) / k
      next s (yes l) h =
          let d = length-drop k s in
          div-eq_of_lt (omega arith) ∙ sym (div-eq_of_lt {n = length s + (k - 1) - k} (omega arith))
      next s (no l) h =
          let d = length-drop k s in
          let e : length (drop k s) + (k - 1) ≡ length s + (k - 1) - k = omega arith in
          ap (λ (n : ℕ). n / k) e

      go : (s : List ℕ) → ((t : List ℕ) → length t < length s → length (blocks k t) ≡ (length t + (k - 1)) / k) → Dec (0 < length s) → Dec (length s < k)
          → length (blocks k s) ≡ (length s + (k - 1)) / k
      go s ih (no z) d = ap (length {A = List ℕ}) (blocks_end s (omega arith)) ∙ sym (div-eq_of_lt (omega arith))
      go s ih (yes h) d =
          omega (
            arith,
            ap (length {A = List ℕ}) (blocks-turn s h),
            ih (drop k s) (simp length-drop (omega arith)),
            next s d h,
            div-eq-sub-div {m = k} {n = length s + (k - 1)} some (omega arith),
          )

  some_left : (s : List ℕ) → 0 < length (blocks k s) → 0 < length s
  some_left s h = go (dec_lt 0 (length s))
    where
      go : Dec (0 < length s) → 0 < length s
      go (yes l) = l
      go (no l) = absurd (omega (arith, ap (length {A = List ℕ}) (blocks_end s (omega arith))))

  pub block_at : (j : ℕ) (s : List ℕ) → j < length (blocks k s) → get_or (blocks k s) j [] ≡ part (j * k) k s
  block_at zero s h =
      let z : 0 * k ≡ 0 = omega arith in
      ap (λ (l : List (List ℕ)). get_or l 0 []) (blocks-turn s (some_left s h)) ∙ rw z
  block_at (suc j) s h =
      let t = blocks-turn s (some_left s (omega arith)) in
      let q : k + j * k ≡ suc j * k = omega arith in
      ap (λ (l : List (List ℕ)). get_or l (suc j) []) t
      ∙ block_at j (drop k s) (omega (arith, ap (length {A = List ℕ}) t))
      ∙ ap (take k) (drop-drop (j * k) k s ∙ ap (λ (n : ℕ). drop n s) q)

-- n divided by k and rounded up
pub ceil-is : (n k : ℕ) → 0 < k → div_ceil n k ≡ (n + (k - 1)) / k
ceil-is n k some = go (dec_lt 0 (n % k))
  where
    go : Dec (0 < n % k) → div_ceil n k ≡ (n + (k - 1)) / k
    go (no z) =
        let q : n + (k - 1) ≡ n / k * k + (k - 1) = omega (arith, div-add-mod' n k) in
        rw (q, div-mul-add (n / k) k (k - 1) (omega arith)) (omega arith)
    go (yes h) =
        let l = mod-lt n some in
        let q : n + (k - 1) ≡ (n / k + 1) * k + (n % k - 1) = omega (arith, div-add-mod' n k) in
        rw (q, div-mul-add (n / k + 1) k (n % k - 1) (omega arith)) (omega arith)
