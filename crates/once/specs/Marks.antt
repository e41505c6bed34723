-- What a desk's call does to its finished times: a call that finishes a sample marks its time, and no other call does. And a unit that is
-- not of TYPE 1 to 4 leaves the sample of its time as it was. Assumes nothing.
use Rattle.std.specs.Prelude.{ℕ, ◌≡◌, Bool, true, false, length, Some}
use Rattle.laws.specs.Rows.{◌⇒◌⁏◌}
use Rattle.paper.specs.Time.{Time}
use Rattle.paper.specs.declared.Outcome.{Outcome}
use Rattle.finished.specs.Times.{marked_row, marked_used}
use Rattle.desk.specs.Desk.{Own, After, in_use}
use Rattle.once.specs.Due.{hands_out, finishing}

-- ---- the row and the marks after a call at t: one time more if b, which is then t's; else as they were
pub record Marks (s : Own) (t : Time) (b : Bool) (o : Own) : Type 0 where
  pub at : ℕ
  pub known : b ≡ true → t ≡ Some at
  pub row : o.row ≡ (b ⇒ marked_row s.row (in_use s.marks) at ⁏ s.row)
  pub used : in_use o.marks ≡ (b ⇒ marked_used (in_use s.marks) ⁏ in_use s.marks)
  pub long : length o.marks ≡ length s.marks

abbrev pub Marked : Own → Time → After → Type 0
Marked s t a = Marks s t (finishing a.answer.outcome) a.own

-- a description neither finishes a sample nor hands one out
abbrev pub Idle : Outcome → Type 0
Idle x = (finishing x ≡ false) × (hands_out x ≡ false)

-- what a call leaves of the sample of its time, where its first unit has no TYPE 1 to 4
pub record Idles (s : Own) (a : After) : Type 0 where
  pub idle : Idle a.answer.outcome
  pub place : a.own.place ≡ s.place
