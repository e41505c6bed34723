-- A part of a sample that is not open: what bars it, and what stands in the free place. In the code's own values. Assumes nothing.
use Rattle.asks.specs.Bar.{Free}
use Rattle.std.specs.Prelude.{ℕ, ◌<◌, ◌≡◌, Bool, List, length, replicate, Ok, Err}
use Rattle.std.proofs.Math.Path.{refl, ap}
use Rattle.std.proofs.Common.{sym, ◌∙◌, true≢false}
use Rattle.std.proofs.Math.Bool.{true, false}
use Rattle.laws.specs.Rows.{◌⇒◌⁏◌, yes, lt}
use Rattle.paper.specs.Limits.{sample_most, parts_most}
use Rattle.paper.specs.declared.Refusal.{Refusal}
use Rattle.paper.specs.declared.Refusal.TheVariants as R
use Rattle.paper.specs.Time.{Time}
use Rattle.paper.specs.declared.Outcome.TheVariants as O
use Rattle.paper.specs.declared.Answer.{Answer}
use Rattle.unit.specs.declared.Part.{Part}
use Rattle.sample.specs.declared.Place.{Place}
use Rattle.sample.specs.Head.{Head, head_of, whole, alone, missing-any}
use Rattle.sample.specs.Place.{bare, closed, opened, agrees, stands, repeats, oversize, kept, missing}
use Rattle.sample.specs.Kept.{opened-has}
use Rattle.sample.specs.Repeat.{agrees-is}
use Rattle.sample.specs.Told.{Name, keep-named}
use Rattle.sample.specs.Missing.{opened-missing}
use Rattle.desk.specs.declared.Shares.{Shares}
use Rattle.desk.specs.Desk.{Own, After, own, answering, turn, left, refuse, is_late, conflicts, six, used_up, completed, joining}
use Rattle.asks.specs.Bar.{Bar}
use Rattle.asks.specs.Settled.{laid, laid_in, barred}

-- ---- a new place, from its numbers and arrays
pub new-cleared : (desk time : ℕ) (x : Part) (h : Head) (kinds starts lens bytes : List ℕ) → h ≡ head_of (opened desk time x)
    → kinds ≡ replicate parts_most 0 → starts ≡ replicate parts_most 0 → lens ≡ replicate parts_most 0 → bytes ≡ replicate sample_most 0
    → whole h kinds starts lens bytes ≡ opened desk time x
unfolding bare
new-cleared desk time x h kinds starts lens bytes e a b c d = rw (e, a, b, c, d)

-- ---- what is left where the sample stands
module _ (before : Place) (free : before.used ≡ false) (r : Answer) (row marks store out : List ℕ) (a : After) where
  -- none was opened
  pub laid_none : left (turn closed r) row marks store out ≡ a → left (turn before r) row marks store out ≡ laid_in before a
  unfolding laid bare ◌⇒◌⁏◌
  laid_none e = rw (← e, free)

  pub laid-new : (p : Place) → p.used ≡ true → left (turn p r) row marks store out ≡ a
      → left (turn p r) row marks store out ≡ laid_in before a
  unfolding laid ◌⇒◌⁏◌
  laid-new p u e = rw (← e, free, u)

-- ---- a part that opens a sample
module _ (desk time : ℕ) (x : Part) where
  -- it is no repeat, and conflicts with nothing
  new-repeats : (d : List ℕ) → repeats (opened desk time x) x d ≡ false
  unfolding repeats stands ◌⇒◌⁏◌
  new-repeats d = rw (opened-has desk time x x.this)

  new-agrees : agrees (opened desk time x) x ≡ true
  unfolding bare
  new-agrees = agrees-is (opened desk time x) x (record { total = refl; sdur = refl; strings = λ k t. absurd (true≢false (sym t)) })

  new-conflicts : conflicts (opened desk time x) x ≡ false
  unfolding conflicts ◌⇒◌⁏◌
  new-conflicts = rw (opened-has desk time x x.this, new-agrees)

  over-alone : (n : Head) → n ≡ head_of (opened desk time x) → (m : ℕ) → oversize (alone n) x m ≡ oversize (opened desk time x) x m
  unfolding oversize bare
  over-alone n e m = rw e

  -- what is not complete with one part is kept
  kept_new : (s : Own) (used : ℕ) (next : Time) (d : List ℕ) → 1 < x.total
      → left (answering (kept (opened desk time x) x d) used next (O.Kept (missing (kept (opened desk time x) x d))))
      s.row s.marks s.store s.out
      ≡ completed s time used next (kept (opened desk time x) x d)
  unfolding completed
  kept_new s used next d more = yes _ _ (lt _ _ (opened-missing desk time x d more)) refl

  pub used-new : (d : List ℕ) → (kept (opened desk time x) x d).used ≡ true
  unfolding bare
  used-new d = ap (λ (n : Name). n.used) (keep-named (opened desk time x) x d)

module _ (h : Shares) (row marks store out : List ℕ) (desk time used : ℕ) (next : Time) (x : Part) (d : List ℕ) where
  abbrev s : Own
  s = own closed row marks store out

  abbrev new : Place
  new = opened desk time x

  abbrev unbarred : Bar → After
  unbarred (Err r) = refuse s used next r
  unbarred (Ok u) = completed s time used next (kept new x d)

  opens : unbarred (barred (is_late s time) (oversize new x (length d)) h) ≡ joining h s time used next new x d
  unfolding barred joining ◌⇒◌⁏◌
  opens =
      rw (new-repeats desk time x d, new-conflicts desk time x)
      (go (is_late s time) (oversize new x (length d)) (six closed h) (used_up closed h))
    where
      go : (a b c e : Bool)
          → unbarred (a ⇒ Err R.Late ⁏ b ⇒ Err R.Size ⁏ c ⇒ Err R.Six ⁏ e ⇒ Err R.Common ⁏ Free)
          ≡ (a ⇒ refuse s used next R.Late ⁏ b ⇒ refuse s used next R.Size ⁏ c ⇒ refuse s used next R.Six
          ⁏ e ⇒ refuse s used next R.Common ⁏ completed s time used next (kept new x d))
      go true b c e = refl
      go false true c e = refl
      go false false true e = refl
      go false false false true = refl
      go false false false false = refl

  -- a and b are what was asked, g what was found
  module _ (a b : Bool) (late : a ≡ is_late s time) (over : b ≡ oversize new x (length d)) (g : Bar) (found : g ≡ barred a b h) where
    found-in : unbarred g ≡ joining h s time used next new x d
    found-in =
        let e : g ≡ barred (is_late s time) (oversize new x (length d)) h = found ∙ rw (late, over) in
        ap unbarred e ∙ opens

    pub new_not : (r : Refusal) → g ≡ Err r → refuse s used next r ≡ joining h s time used next new x d
    new_not r e = ap unbarred (sym e) ∙ found-in

    pub new-now : g ≡ Free → completed s time used next (kept new x d) ≡ joining h s time used next new x d
    new-now e = ap unbarred (sym e) ∙ found-in

    pub new_kept : g ≡ Free → 1 < x.total
        → left (answering (kept new x d) used next (O.Kept (missing (kept new x d)))) row marks store out
        ≡ joining h s time used next new x d
    new_kept e more = kept_new desk time x s used next d more ∙ new-now e

  -- the same, told of the new place's numbers: n is the head that is opened
  module _ (n : Head) (New-is : n ≡ head_of new) (a b : Bool) (late : a ≡ is_late s time) (over : b ≡ oversize (alone n) x (length d))
      (g : Bar) (found : g ≡ barred a b h) where
    whole-over : b ≡ oversize new x (length d)
    whole-over = over ∙ over-alone desk time x n New-is (length d)

    found-is : unbarred g ≡ joining h s time used next new x d
    found-is = found-in a b late whole-over g found

    pub opens_not : (r : Refusal) → g ≡ Err r → refuse s used next r ≡ joining h s time used next new x d
    opens_not = new_not a b late whole-over g found

    pub opens-now : g ≡ Free → completed s time used next (kept new x d) ≡ joining h s time used next new x d
    opens-now = new-now a b late whole-over g found

    pub opens_kept : g ≡ Free → 1 < x.total → (k : Head) (kinds starts lens bytes : List ℕ)
        → whole k kinds starts lens bytes ≡ kept new x d → (m : ℕ) → m ≡ missing (alone k)
        → left (answering (whole k kinds starts lens bytes) used next (O.Kept m)) row marks store out ≡ joining h s time used next new x d
    opens_kept e more k kinds starts lens bytes is m are =
        let all : m ≡ missing (whole k kinds starts lens bytes) = are ∙ missing-any k kinds starts lens bytes in
        rw (all, is) (new_kept a b late whole-over g found e more)
