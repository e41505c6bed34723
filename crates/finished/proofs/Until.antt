-- How long a time that was marked is late: until sixteen more are marked; and no other time becomes late. Assumes nothing.
use Rattle.std.specs.Prelude.{ℕ, zero, suc, ◌-◌, ◌≤◌, ◌<◌, ◌≡◌, refl, ◌⊎◌, Bool, true, false, length, drop}
use Rattle.std.proofs.Common.{arith, sym, ◌∙◌, inl, inr, ⊎_elim, length-append, drop_at}
use mathlib.Core.List.{List, [], ◌∷◌, ◌++◌}
use Rattle.std.proofs.lemmas.List.{drop-append-le}
use Rattle.laws.specs.Rows.{each, yes, eq, eq_of, or-of}
use Rattle.paper.specs.Limits.{finished_most}
use Rattle.finished.specs.Times.{times_of, among, late, marked_row, marked_used}
use Rattle.finished.specs.Marks.{row_after, used_after}
use Rattle.finished.proofs.Marks.{marked-times, marked_all}

-- ---- a number among others
among_in : (xs : List ℕ) (time : ℕ) (ys : List ℕ) → among (xs ++ (time ∷ ys)) time ≡ true
unfolding among
among_in [] time ys = sym (yes _ _ (eq _ _ refl) refl)
among_in (x ∷ xs) time ys = each (λ (b : Bool). b ≡ true) _ _ _ (λ h. refl) (λ h. among_in xs time ys)

among-drop : (n : ℕ) (xs : List ℕ) (time : ℕ) → among (drop n xs) time ≡ true → among xs time ≡ true
unfolding among
among-drop zero xs time h = h
among-drop (suc n) [] time h = h
among-drop (suc n) (x ∷ xs) time h = each (λ (b : Bool). b ≡ true) _ _ _ (λ e. refl) (λ e. among-drop n xs time h)

among-append : (xs ys : List ℕ) (time : ℕ) → among (xs ++ ys) time ≡ true → (among xs time ≡ true) ⊎ (among ys time ≡ true)
unfolding among
among-append [] ys time h = inr h
among-append (x ∷ xs) ys time h =
    ⊎_elim (λ e. inl (sym (yes _ _ e refl)))
    (λ k. ⊎_elim (λ e. inl (each (λ (b : Bool). b ≡ true) _ _ _ (λ q. refl) (λ q. e))) (λ e. inr e) (among-append xs ys time k))
    (or-of _ _ h)

among_one : (x time : ℕ) → among (x ∷ []) time ≡ true → time ≡ x
unfolding among
among_one x time h = ⊎_elim (λ e. sym (eq_of x time e)) (λ k. let z : ◌≡◌ {A = ℕ} 0 1 = cc in absurd (omega arith)) (or-of _ _ h)

-- ---- how long a time is late
-- after set-up none is
pub none-late : (row : List ℕ) (time : ℕ) → late row 0 time ≡ false
unfolding among
none-late row time = refl

module _ (row : List ℕ) (used time : ℕ) (long : finished_most ≤ length row) where
  -- up to fifteen further times later it is still late
  pub found-until : (more : List ℕ) → length more < finished_most → late (row_after row used (time ∷ more)) (used_after used (time ∷ more)) time ≡ true
  found-until more few =
      let xs = times_of row used in
      let q : length (xs ++ (time ∷ more)) - finished_most ≤ length xs = simp length-append (omega arith) in
      rw (marked_all (time ∷ more) row used long, drop-append-le (length (xs ++ (time ∷ more)) - finished_most) xs (time ∷ more) q)
      (among_in (drop (length (xs ++ (time ∷ more)) - finished_most) xs) time more)

  pub mark-found : late (marked_row row used time) (marked_used used) time ≡ true
  unfolding row_after used_after
  mark-found = found-until [] (omega arith)

  -- nothing else becomes late
  pub no_other : (t : ℕ) → late (marked_row row used time) (marked_used used) t ≡ true → (t ≡ time) ⊎ (late row used t ≡ true)
  no_other t h =
      let xs = times_of row used ++ (time ∷ []) in
      ⊎_elim (λ e. inr e) (λ e. inl (among_one time t e))
      (among-append (times_of row used) (time ∷ []) t (among-drop (length xs - finished_most) xs t (rw (marked-times row used time long) at h)))

-- after sixteen more, these are all
pub sixteen-more : (more row : List ℕ) (used : ℕ) → finished_most ≤ length row → length more ≡ finished_most
    → times_of (row_after row used more) (used_after used more) ≡ more
sixteen-more more row used long n =
    let xs = times_of row used in
    marked_all more row used long ∙ drop_at xs more (length (xs ++ more) - finished_most) (simp length-append (omega arith))
