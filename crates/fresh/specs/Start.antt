-- The act of set-up as the code carries it out: k desks are made, where k is n, or 0 where set-up is refused. Assumes nothing.
use Rattle.memory.specs.Started.{Ready}
use Rattle.std.specs.Prelude.{ℕ, suc, ◌+◌, ◌-◌, ◌*◌, ◌<◌, ◌≤◌, ◌≡◌, Bool, List, [], ◌∷◌, length, set, replicate, Err}
use Rattle.std.proofs.Common.{arith, ap, sym, ◌∙◌}
use Rattle.std.proofs.Math.Path.{refl}
use Rattle.std.proofs.Math.Bool.{true, false}
use Rattle.std.proofs.lemmas.List.Edits.{sets}
use Rattle.laws.specs.Rows.{◌⇒◌⁏◌, ◌or◌, ◌<?◌, ◌=?◌, each, yes, no, eq, ge-of, or-none}
use Rattle.laws.specs.Region.{sets-append}
use Rattle.paper.specs.Limits.{desks_most, in_band, head_size, marks_each, places, rows_need, stores_need}
use Rattle.paper.specs.declared.Refusal.{Refusal}
use Rattle.paper.specs.declared.Refusal.TheVariants as R
use Rattle.table.specs.Table.{cleared}
use Rattle.memory.specs.Relay.{Tables, tables, improper, lacks, lacking, Prepared, prepared, head, own_marks, fresh_marks, fresh_tables, set_up}
use Rattle.fresh.specs.Fresh.{fitting, started_of, made_marks}

-- ---- the head: zeros, and then the number of desks
pub head-put : (n : ℕ) (l : List ℕ) → set (sets l 0 (replicate head_size 0)) 0 n ≡ sets l 0 (head n)
head-put n [] = refl
head-put n (x ∷ l) = refl

-- ---- the desks' own marks, made desk by desk
pub own-none : (n : ℕ) (l : List ℕ) → sets l head_size (own_marks n) ≡ sets l head_size (own_marks (n - 0))
own-none n l = let e : n - 0 ≡ n = omega arith in rw e

pub own_turn : (n i : ℕ) (l : List ℕ) → i < n
    → sets l (head_size + marks_each * i) (own_marks (n - i))
    ≡ sets (set (set l (head_size + marks_each * i) 0) (head_size + marks_each * i + 1) in_band) (head_size + marks_each * (i + 1))
    (own_marks (n - (i + 1)))
unfolding own_marks
own_turn n i l h =
    let at = head_size + marks_each * i in
    let e : n - i ≡ suc (n - (i + 1)) = omega arith in
    let a : suc at ≡ at + 1 = omega arith in
    let b : suc (suc at) ≡ head_size + marks_each * (i + 1) = omega arith in
    ap (λ (m : ℕ). sets l at (own_marks m)) e
    ∙ ap (λ (j : ℕ). sets (set (set l at 0) j in_band) (suc (suc at)) (own_marks (n - (i + 1)))) a
    ∙ ap (λ (j : ℕ). sets (set (set l at 0) (at + 1) in_band) j (own_marks (n - (i + 1)))) b

pub own-end : (n i : ℕ) (l : List ℕ) → n ≤ i → sets l (head_size + marks_each * i) (own_marks (n - i)) ≡ l
unfolding own_marks
own-end n i l h = let e : n - i ≡ 0 = omega arith in rw e

-- the head, and then these
pub marks-made : (n : ℕ) (l : List ℕ) → sets (sets l 0 (head n)) head_size (own_marks n) ≡ sets l 0 (fresh_marks n)
marks-made n l = sym (sets-append (head n) (own_marks n) l 0)

-- ---- all of it
module _ (n : ℕ) (s : Tables) where
  abbrev pub made_of : ℕ → Prepared
  made_of k =
      prepared (tables (cleared (places k) s.places) (sets s.rows 0 (replicate (rows_need k) 0)) (made_marks k s.marks)
      (sets s.stores 0 (replicate (stores_need k) 0))) (started_of k)

  made_none : made_of 0 ≡ prepared s (Err R.Desk)
  unfolding started_of made_marks ◌⇒◌⁏◌
  made_none = rw (eq 0 0 refl)

  made_all : improper n ≡ false → made_of n ≡ prepared (fresh_tables n s) Ready
  unfolding started_of made_marks improper ◌⇒◌⁏◌
  made_all h = let p = or-none (n =? 0) (desks_most <? n) h in rw p.0

  pub set-up-is : made_of (fitting n (length s.places) (length s.rows) (length s.marks) (length s.stores)) ≡ set_up n s
  unfolding set_up fitting ◌⇒◌⁏◌
  set-up-is = go (improper n or lacking n s) refl
    where
      go : (one : Bool) → (improper n or lacking n s) ≡ one
          → made_of (one ⇒ 0 ⁏ n) ≡ (one ⇒ prepared s (Err R.Desk) ⁏ prepared (fresh_tables n s) Ready)
      go true e = made_none
      go false e = made_all (or-none _ _ e).0

-- set-up never makes more than eight desks
pub fitting-most : (n table rows marks stores : ℕ) → fitting n table rows marks stores ≤ desks_most
unfolding fitting improper
fitting-most n table rows marks stores =
    each (λ (k : ℕ). k ≤ desks_most) _ _ _ (λ e. omega arith) (λ e. ge-of _ _ (or-none _ _ (or-none _ _ e).0).1)

-- what set-up answers tells how many desks it makes: n, or none
module _ (n table rows marks stores : ℕ) where
  abbrev fits : ℕ
  fits = fitting n table rows marks stores

  abbrev one : Bool
  one = improper n or lacks n table rows marks stores

  pub fit-refused : one ≡ true → Err R.Desk ≡ started_of fits
  unfolding fitting started_of
  fit-refused e = yes (0 =? 0) Ready (eq 0 0 refl) refl ∙ ap started_of (yes one n e refl)

  pub fit-ready : one ≡ false → Ready ≡ started_of fits
  unfolding fitting started_of improper
  fit-ready e =
      let p = or-none _ _ (or-none _ _ e).0 in no (n =? 0) (Err R.Desk) p.0 refl ∙ ap started_of (no one 0 e refl)

  pub fit_none : (r : Refusal) → Err r ≡ started_of fits → fits ≡ 0
  unfolding fitting
  fit_none r e = go one refl
    where
      go : (b : Bool) → one ≡ b → fits ≡ 0
      go true f = sym (yes one n f refl)
      go false f = let k = fit-ready f in cc

  pub fit_all : Ready ≡ started_of fits → fits ≡ n
  unfolding fitting
  fit_all e = go one refl
    where
      go : (b : Bool) → one ≡ b → fits ≡ n
      go true f = let k = fit-refused f in cc
      go false f = sym (no one 0 f refl)

-- what it leaves where it is refused, and where all that n desks need is there
module _ (n : ℕ) (s : Tables) where
  abbrev fits_in : ℕ
  fits_in = fits n (length s.places) (length s.rows) (length s.marks) (length s.stores)

  pub set-up-refused : (r : Refusal) → Err r ≡ started_of fits_in → prepared s (Err r) ≡ set_up n s
  unfolding started_of
  set-up-refused r e =
      let none = fit_none n (length s.places) (length s.rows) (length s.marks) (length s.stores) r e in
      let told : started_of 0 ≡ Err R.Desk = sym (yes (0 =? 0) Ready (eq 0 0 refl) refl) in
      ap (prepared s) (e ∙ ap started_of none ∙ told) ∙ sym (made_none n s) ∙ ap (made_of n s) (sym none) ∙ set-up-is n s

  pub set-up-made : Ready ≡ started_of fits_in
      → prepared (made_of n s n).tables Ready ≡ set_up n s
  set-up-made e =
      let all = fit_all n (length s.places) (length s.rows) (length s.marks) (length s.stores) e in
      ap (prepared (made_of n s n).tables) (e ∙ ap started_of all) ∙ ap (made_of n s) (sym all) ∙ set-up-is n s
