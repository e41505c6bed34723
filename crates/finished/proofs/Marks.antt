-- What marking does to a desk's row and, where that has its sixteen numbers, to its finished times. Assumes nothing.
use Prim.Native.Nat.{ℕ, suc, ◌+◌, ◌-◌, ◌≤◌, ◌<◌, min}
use native.Mathlib.Omega.{arith}
use Rattle.std.specs.Prelude.{◌≡◌, refl, Bool, true, false, take}
use Rattle.std.proofs.Math.Path.{ap, sym}
use Rattle.std.proofs.Common.{◌∙◌, length-append, length-drop, take-suc-set, drop-drop}
use mathlib.Core.List.{List, [], ◌∷◌, ◌++◌, append_assoc, append-nil}
use Rattle.std.proofs.Math.ListN.{length, drop, set, length-take, length-set}
use Rattle.std.proofs.Math.Seq.{sets, length-sets, take-nil, take_at, drop-set-lt}
use Rattle.std.proofs.lemmas.List.Edits.{sets-eq}
use Rattle.std.proofs.lemmas.List.{drop-append-le}
use Rattle.laws.specs.Rows.{◌<?◌, each, yes, no, lt_of, ge-of}
use Rattle.paper.specs.Limits.{finished_most}
use Rattle.finished.specs.Times.{times_of, down, moved_row, marked_row, marked_used}
use Rattle.finished.specs.Marks.{last_sixteen, row_after, used_after}

-- ---- the last sixteen of a list
few : (xs : List ℕ) → length xs ≤ finished_most → last_sixteen xs ≡ xs
few xs h = let q : length xs - finished_most ≡ 0 = omega arith in rw q

-- what goes before more is added would go afterwards too
last-again : (xs ys : List ℕ) → last_sixteen (last_sixteen xs ++ ys) ≡ last_sixteen (xs ++ ys)
last-again xs ys =
    let k = length xs - finished_most in
    let e : drop k xs ++ ys ≡ drop k (xs ++ ys) = sym (drop-append-le k xs ys (omega arith)) in
    let q : k + (length (xs ++ ys) - k - finished_most) ≡ length (xs ++ ys) - finished_most = simp length-append (omega arith) in
    ap last_sixteen e
    ∙ ap (λ (n : ℕ). drop (n - finished_most) (drop k (xs ++ ys))) (length-drop k (xs ++ ys))
    ∙ drop-drop (length (xs ++ ys) - k - finished_most) k (xs ++ ys)
    ∙ ap (λ (n : ℕ). drop n (xs ++ ys)) q

-- ---- laws of lists and conditions
decided : {P : Type 0} (b : Bool) → (b ≡ true → P) → (b ≡ false → P) → P
decided true h k = h refl
decided false h k = k refl

drop-take : (n : ℕ) (xs : List ℕ) → drop 1 (take (suc n) xs) ≡ take n (drop 1 xs)
drop-take n [] = sym (take-nil n)
drop-take n (x ∷ xs) = refl

drop-sets : (vs l : List ℕ) (i n : ℕ) → i + length vs ≤ n → drop n (sets l i vs) ≡ drop n l
drop-sets [] l i n h = refl
drop-sets (v ∷ vs) l i n h = drop-sets vs (set l i v) (suc i) n (omega arith) ∙ drop-set-lt n l i v (omega arith)

-- ---- one time
pub used-most : (used : ℕ) → marked_used used ≤ finished_most
unfolding marked_used
used-most used = each (λ (n : ℕ). n ≤ finished_most) _ _ _ (λ h. omega (arith, lt_of _ _ h)) (λ h. omega arith)

module _ (row : List ℕ) (used time : ℕ) where
  pub length-kept : length (marked_row row used time) ≡ length row
  unfolding marked_row moved_row
  length-kept =
      each (λ (l : List ℕ). length l ≡ length row) _ _ _
      (λ h. length-set row used time)
      (λ h. length-sets row 0 (down row time))

  -- what lies beyond the sixteen is never touched
  pub beyond-kept : drop finished_most (marked_row row used time) ≡ drop finished_most row
  unfolding marked_row moved_row
  beyond-kept =
      each (λ (l : List ℕ). drop finished_most l ≡ drop finished_most row) _ _ _
      (λ h. drop-set-lt finished_most row used time (lt_of _ _ h))
      (λ h. drop-sets (down row time) row 0 finished_most (simp (length-append, length-take) (omega arith)))

  module _ (long : finished_most ≤ length row) where
    marked-few : (used <? finished_most) ≡ true → times_of (marked_row row used time) (marked_used used) ≡ last_sixteen (times_of row used ++ (time ∷ []))
    unfolding marked_row marked_used
    marked-few h =
        let l : used < finished_most = lt_of _ _ h in
        let u : marked_used used ≡ used + 1 = sym (yes _ _ h refl) in
        let r : marked_row row used time ≡ set row used time = sym (yes _ _ h refl) in
        let a : min (used + 1) finished_most ≡ suc used = omega arith in
        let b : min used finished_most ≡ used = omega arith in
        rw (u, r, a, b)
        (take-suc-set row used time (omega arith)
        ∙ sym (few (take used row ++ (time ∷ [])) (simp (length-append, length-take) (omega arith))))

    marked-full : (used <? finished_most) ≡ false → times_of (marked_row row used time) (marked_used used) ≡ last_sixteen (times_of row used ++ (time ∷ []))
    unfolding marked_row marked_used moved_row
    marked-full h =
        let g : finished_most ≤ used = ge-of _ _ h in
        let u : marked_used used ≡ finished_most = sym (no _ _ h refl) in
        let r : marked_row row used time ≡ sets row 0 (down row time) = sym (no _ _ h refl) in
        let b : min used finished_most ≡ finished_most = omega arith in
        let n : length (down row time) ≡ finished_most = simp (length-append, length-take, length-drop) (omega arith) in
        let q : length (take finished_most row ++ (time ∷ [])) - finished_most ≡ 1 = simp (length-append, length-take) (omega arith) in
        rw (u, r, b, q)
        (ap (take finished_most) (sets-eq (down row time) row 0 (omega arith))
        ∙ take_at (down row time) (drop (0 + length (down row time)) row) finished_most n
        ∙ ap (λ (l : List ℕ). l ++ (time ∷ [])) (sym (drop-take (finished_most - 1) row))
        ∙ sym (drop-append-le 1 (take finished_most row) (time ∷ []) (simp length-take (omega arith))))

    -- the time is behind the others, and of sixteen the oldest is gone
    pub marked-times : times_of (marked_row row used time) (marked_used used) ≡ last_sixteen (times_of row used ++ (time ∷ []))
    marked-times = decided (used <? finished_most) marked-few marked-full

-- ---- times one after the other
pub marked_all : (ts row : List ℕ) (used : ℕ) → finished_most ≤ length row
    → times_of (row_after row used ts) (used_after used ts) ≡ last_sixteen (times_of row used ++ ts)
unfolding row_after used_after
marked_all [] row used long = rw append-nil (sym (few (times_of row used) (simp length-take (omega arith))))
marked_all (time ∷ ts) row used long =
    marked_all ts (marked_row row used time) (marked_used used) (rw length-kept long)
    ∙ ap (λ (l : List ℕ). last_sixteen (l ++ ts)) (marked-times row used time long)
    ∙ last-again (times_of row used ++ (time ∷ [])) ts
    ∙ ap last_sixteen (append_assoc (times_of row used) (time ∷ []) ts)
