-- One law for each way that a unit of TYPE 1 or 5 is answered, in the code's own values. Assumes nothing.
use Rattle.std.specs.Prelude.{ℕ, ◌<◌, ◌%◌, ◌≤◌, ◌≡◌, Bool, true, false, List, set}
use Rattle.std.proofs.Common.{sym, ap, ◌∙◌, arith}
use Rattle.laws.specs.Rows.{yes, lt, each, no, ge, ge-of, or-none}
use Rattle.paper.specs.Limits.{sample_most}
use Rattle.paper.specs.declared.Refusal.TheVariants as R
use Rattle.paper.specs.Time.{Time}
use Rattle.paper.specs.declared.Outcome.TheVariants as O
use Rattle.paper.specs.declared.Answer.{Answer}
use Rattle.desk.specs.Desk.{Own, After, turn, left, is_late, says, in_use, newest_of, later, facts, whole_taken, description_taken}
use Rattle.std.proofs.lemmas.List.Edits.{sets}
use Rattle.unit.specs.declared.Whole as W
use Rattle.unit.specs.declared.Description as D
use Rattle.finished.specs.Times.{marked_row, marked_used}
use Rattle.style.specs.declared.Noted.{Noted}
use Rattle.style.specs.Store.{moved, improper, noted}
use Rattle.style.specs.Store as S

-- ---- TYPE 1
module _ (s : Own) (time used : ℕ) (next : Time) (w : W.Whole) (d : List ℕ) (n : next ≡ later time w.sdur) (b : Bool)
    (l : b ≡ is_late s time) where
  -- taken at this time
  abbrev Taken : After
  Taken = whole_taken s time used (later time w.sdur) w d

  pub whole-late : b ≡ true → (r : Answer) → r ≡ says used next (O.Refused R.Late)
      → left (turn s.place r) s.row s.marks s.store s.out ≡ Taken
  unfolding whole_taken
  whole-late h r e = yes _ _ (sym l ∙ h) (rw (e, n))

  module _ (early : b ≡ false) where
    pub whole_open : s.place.used ≡ true → (r : Answer) → r ≡ says used next (O.Refused R.Conflict)
        → left (turn s.place r) s.row s.marks s.store s.out ≡ Taken
    unfolding whole_taken
    whole_open h r e = no _ _ (sym l ∙ early) (yes _ _ h (rw (e, n)))

    module _ (none : s.place.used ≡ false) where
      pub whole-size : sample_most < w.len → (r : Answer) → r ≡ says used next (O.Refused R.Size)
          → left (turn s.place r) s.row s.marks s.store s.out ≡ Taken
      unfolding whole_taken
      whole-size h r e = no _ _ (sym l ∙ early) (no _ _ none (yes _ _ (lt _ _ h) (rw (e, n))))

      pub whole_out : w.len ≤ sample_most → (row marks out : List ℕ) → row ≡ marked_row s.row (in_use s.marks) time
          → marks ≡ set s.marks 0 (marked_used (in_use s.marks)) → out ≡ sets s.out 0 d
          → (r : Answer) → r ≡ says used next (O.Whole (facts time w.u w.sidx w.sdur w.tlen w.len))
          → left (turn s.place r) row marks s.store out ≡ Taken
      unfolding whole_taken
      whole_out h row marks out a m o r e = no _ _ (sym l ∙ early) (no _ _ none (no _ _ (ge _ _ h) (rw (e, a, m, o, n))))

-- ---- TYPE 5: a newest value is a value or was the newest before, so it fits its mark
newest-fits : (store : List ℕ) (newest sidx : ℕ) (d : List ℕ) → newest < 4294967296 → (noted store newest sidx d).answer.newest < 4294967296
unfolding noted improper moved
newest-fits store newest sidx d h =
    each Fit _ _ _ (λ q. h)
    (λ i. each Fit _ _ _ (λ q. h)
    (λ q1. each Fit _ _ _ (λ q. h)
    (λ q2. each Fit _ _ _ (λ q. h)
    (λ q3.
    let z : sidx < 4294967296 = omega (arith, ge-of _ _ (or-none _ _ i).0) in
    each (λ (n : ℕ). n < 4294967296) _ _ _ (λ q. z)
    (λ q. each (λ (n : ℕ). n < 4294967296) _ _ _ (λ q. h) (λ q. each (λ (n : ℕ). n < 4294967296) _ _ _ (λ q. h) (λ q. z)))))))
  where
    Fit : S.After → Type 0
    Fit a = a.answer.newest < 4294967296

pub description-taken : (s : Own) (t : Time) (used : ℕ) (w : D.Description) (d : List ℕ) (newest : ℕ) → newest ≡ newest_of s.marks
    → newest < 4294967296
    → (n : Noted) (store : List ℕ) → S.left n store ≡ noted s.store newest w.sidx d
    → (marks : List ℕ) → marks ≡ set s.marks 1 (n.newest % 4294967296) → (r : Answer) → r ≡ says used t n.outcome
    → left (turn s.place r) s.row marks store s.out ≡ description_taken s t used w d
unfolding description_taken
description-taken s t used w d newest a h n store e marks m r g =
    let f = newest-fits s.store newest w.sidx d h in
    let i : n ≡ (noted s.store newest w.sidx d).answer = ap (λ (x : S.After). x.answer) e in
    let j : store ≡ (noted s.store newest w.sidx d).store = ap (λ (x : S.After). x.store) e in
    let z : n.newest % 4294967296 ≡ n.newest = omega (arith, ap (λ (x : Noted). x.newest) i) in
    rw (← a, g, m, z, i, j)
