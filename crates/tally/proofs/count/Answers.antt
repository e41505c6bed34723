-- `tally::count` meets its contract: a place that stays open, or free, leaves the numbers, and else they are changed. Assumes nothing.
use Rattle.std.proofs.Common.{◌≡◌, refl, sym, ap, ◌∙◌, Bool, true, false, not, true≢false}
use mathlib.Core.Bool.{beq}
use Rattle.memory.specs.Relay.{recounted}
use Rattle.memory.proofs.Counted.{recounted-same}
use Rattle.tally.proofs.count.Goals as goal

same : (was is : Bool) → not (beq was is) ≡ false → was ≡ is
same true true e = refl
same true false e = absurd (true≢false e)
same false true e = absurd (true≢false e)
same false false e = refl

changed : (was is : Bool) → not (beq was is) ≡ true → was ≡ not is
changed true true e = absurd (true≢false (sym e))
changed true false e = refl
changed false true e = refl
changed false false e = absurd (true≢false (sym e))

pub returns-then-was-is : goal.returns-then-was-is
returns-then-was-is c =
    let a = c.args in
    c.change.ensures ∙ sym (ap (λ (b : Bool). recounted a.desk b a.is a.marks.now) (changed a.was a.is c.if-was-is.true))

pub returns-else-was-is : goal.returns-else-was-is
returns-else-was-is c =
    let a = c.args in
    sym (ap (λ (b : Bool). recounted a.desk b a.is a.marks.now) (same a.was a.is c.if-was-is.false) ∙ recounted-same a.desk a.is a.marks.now)
