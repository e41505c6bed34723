-- What set-up leaves to each desk: the same view, whatever the lent memory was. Assumes nothing.
use Rattle.memory.specs.Started.{Ready}
use Rattle.std.specs.Prelude.{ℕ, zero, suc, ◌+◌, ◌-◌, ◌*◌, ◌≤◌, ◌<◌, ◌≡◌, refl, true, false, List, [], ◌∷◌, ◌++◌, length, drop, take, replicate, Some}
use Rattle.std.proofs.Common.{mul-le-mul_left, zero-add, arith, sym, ap, subst, ◌∙◌, append-nil, drop_of_length-le, length-drop, take_at, drop_at}
use Rattle.std.proofs.lemmas.List.{length-replicate, replicate-append-replicate, take-append-le, drop-append-le}
use Rattle.std.proofs.lemmas.List.Edits.{sets, sets-eq}
use Rattle.std.proofs.Math.Seq.{drop-append-add}
use Rattle.laws.specs.Rows.{◌or◌, no, ge, or-none, ge-of}
use Rattle.laws.specs.Region.{part}
use Rattle.laws.specs.Table.{seek}
use Rattle.paper.specs.Limits.{head_size, finished_most, in_band, marks_each, store_size, places, rows_need, marks_need, stores_need}
use Rattle.sample.specs.Place.{closed}
use Rattle.memory.specs.Table.{is_at}
use Rattle.memory.specs.Relay.{Tables, tables, improper, short, lacking, Prepared, head, own_marks, fresh_marks, set_up}
use Rattle.good.specs.Fair.{none-mine}
use Rattle.good.specs.Good.{ready-exactly, all_closed, none_open, fresh-length}
use Rattle.good.specs.View.{View, view, same_view}

-- no sample open, no time finished, no newest value, no description held
abbrev pub fresh_view : View
fresh_view = record {
  at = λ time. closed;
  opens = 0;
  row = replicate finished_most 0;
  marks = 0 ∷ in_band ∷ [];
  store = replicate store_size 0;
}

-- ---- cell d of n cells, each w long, that were stored at the front; b elements were stored before the cells
inside : (w n d : ℕ) → d < n → w * d + w ≤ w * n
inside w n d h = let k : w * suc d ≤ w * n = mul-le-mul_left w h in omega arith

module _ {A : Type 0} (w n d : ℕ) (h : d < n) where
  cell-stored : (b : ℕ) (vs l : List A) → length vs ≡ b + w * n → b + w * n ≤ length l
      → part (b + w * d) w (sets l 0 vs) ≡ part (b + w * d) w vs
  cell-stored b vs l long fits =
      ap (part (b + w * d) w) (sets-eq vs l 0 (omega arith))
      ∙ ap (take w) (drop-append-le (b + w * d) vs _ (omega (arith, inside w n d h)))
      ∙ take-append-le w (drop (b + w * d) vs) _ (simp length-drop (omega (arith, inside w n d h)))

  cell-alike : (x : A) → part (w * d) w (replicate (w * n) x) ≡ replicate w x
  cell-alike x =
      let q : w * n ≡ w * d + (w + (w * n - w * d - w)) = omega (arith, inside w n d h) in
      let r = replicate-append-replicate w (w * n - w * d - w) x in
      ap (λ (k : ℕ). part (w * d) w (replicate k x)) q
      ∙ ap (part (w * d) w) (sym (replicate-append-replicate (w * d) (w + (w * n - w * d - w)) x))
      ∙ ap (take w) (drop_at (replicate (w * d) x) _ (w * d) (length-replicate (w * d) x) ∙ sym r)
      ∙ take_at (replicate w x) _ w (length-replicate w x)

  cell-fresh : (x : A) (l : List A) → w * n ≤ length l → part (w * d) w (sets l 0 (replicate (w * n) x)) ≡ replicate w x
  cell-fresh x l fits =
      simp zero-add at (cell-stored 0 (replicate (w * n) x) l (omega (arith, length-replicate (w * n) x)) (omega arith)) ∙ cell-alike x

own-alike : (n d : ℕ) → d < n → part (marks_each * d) marks_each (own_marks n) ≡ 0 ∷ in_band ∷ []
unfolding own_marks
own-alike zero d h = absurd (omega arith)
own-alike (suc n) zero h = refl
own-alike (suc n) (suc d) h =
    let q : marks_each * suc d ≡ suc (suc (marks_each * d)) = omega arith in rw q (own-alike n d (omega arith))

marks-alike : (n d : ℕ) → d < n → part (head_size + marks_each * d) marks_each (fresh_marks n) ≡ 0 ∷ in_band ∷ []
marks-alike n d h = ap (take marks_each) (drop-append-add (head n) (own_marks n) (marks_each * d)) ∙ own-alike n d h

pub set-up-view : (n d : ℕ) (s : Tables) → (set_up n s).answer ≡ Ready → d < n → view n d (set_up n s).tables ≡ fresh_view
unfolding set_up short
set-up-view n d s q h =
    let e = (ready-exactly n s).0 q in
    let c = or-none _ _ (or-none _ _ e).1 in
    let three = or-none _ _ c.0 in
    let two = or-none _ _ three.1 in
    let f = all_closed (places n) s.places (ge-of _ _ three.0) in
    subst (λ (m : Prepared). view n d m.tables ≡ fresh_view) (no _ _ e refl)
    (same_view _ _ (λ time. rw f (none_open (places n) (seek (is_at d (Some time)) (replicate (places n) closed))))
    (rw f (none-mine d (places n))) (cell-fresh finished_most n d h 0 s.rows (ge-of _ _ two.0))
    (cell-stored marks_each n d h head_size (fresh_marks n) s.marks (fresh-length n) (ge-of _ _ two.1) ∙ marks-alike n d h)
    (cell-fresh store_size n d h 0 s.stores (ge-of _ _ c.1)))

-- ---- in lent memory exactly as long as n desks need, set-up leaves these tables
abbrev pub exact_tables : (n : ℕ) → Tables
exact_tables n = tables (replicate (places n) closed) (replicate (rows_need n) 0) (fresh_marks n) (replicate (stores_need n) 0)

pub record Exact (n : ℕ) (s : Tables) : Type 0 where
  pub places : length s.places ≡ places n
  pub rows : length s.rows ≡ rows_need n
  pub marks : length s.marks ≡ marks_need n
  pub stores : length s.stores ≡ stores_need n

all-stored : {A : Type 0} (vs l : List A) → length l ≡ length vs → sets l 0 vs ≡ vs
all-stored {A = A} vs l e =
    sets-eq vs l 0 (omega arith) ∙ ap (λ (r : List A). vs ++ r) (drop_of_length-le l {i = 0 + length vs} (omega arith)) ∙ append-nil vs

exact-long : (n : ℕ) (s : Tables) → improper n ≡ false → Exact n s → (improper n or lacking n s) ≡ false
unfolding short
exact-long n s p x =
    sym (no _ true p
    (no _ true
    (sym (no _ true (ge _ _ (omega (arith, x.places)))
    (no _ true (ge _ _ (omega (arith, x.rows))) (sym (ge _ _ (omega (arith, x.marks)))))))
    (sym (ge _ _ (omega (arith, x.stores))))))

pub set-up-exact : (n : ℕ) (s : Tables) → improper n ≡ false → Exact n s → (set_up n s).tables ≡ exact_tables n
unfolding set_up short
set-up-exact n s p x =
    let e = exact-long n s p x in
    subst (λ (m : Prepared). m.tables ≡ exact_tables n) (no _ _ e refl)
    (λ i.
    tables (all-stored (replicate (places n) closed) s.places (x.places ∙ sym (length-replicate (places n) closed)) i)
    (all-stored (replicate (rows_need n) 0) s.rows (x.rows ∙ sym (length-replicate {A = ℕ} (rows_need n) 0)) i)
    (all-stored (fresh_marks n) s.marks (x.marks ∙ sym (fresh-length n)) i)
    (all-stored (replicate (stores_need n) 0) s.stores (x.stores ∙ sym (length-replicate {A = ℕ} (stores_need n) 0)) i))
