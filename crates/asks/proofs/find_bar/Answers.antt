-- `asks::find_bar` meets its contract: each return is the first that bars. Assumes nothing.
use Rattle.std.proofs.Common.{refl}
use Rattle.laws.specs.Rows.{yes, no, branched}
use Rattle.asks.specs.Settled.{barred}
use Rattle.asks.proofs.find_bar.Goals as goal

pub returns-then-late : goal.returns-then-late
unfolding barred
returns-then-late c = yes _ _ c.if-late.true refl

pub returns-then-over : goal.returns-then-over
unfolding barred
returns-then-over c = no _ _ c.if-late.false (yes _ _ c.if-over.true refl)

pub returns-then-has_six : goal.returns-then-has_six
unfolding barred
returns-then-has_six c = no _ _ c.if-late.false
    (no _ _ c.if-over.false (yes _ _ (branched _ _ _ c.has_six.ensures c.if-has_six.true) refl))

pub returns-then-is_used_up : goal.returns-then-is_used_up
unfolding barred
returns-then-is_used_up c = no _ _ c.if-late.false
    (no _ _ c.if-over.false
    (no _ _ (branched _ _ _ c.has_six.ensures c.if-has_six.false)
    (yes _ _ (branched _ _ _ c.is_used_up.ensures c.if-is_used_up.true) refl)))

pub returns : goal.returns
unfolding barred
returns c = no _ _ c.if-late.false
    (no _ _ c.if-over.false
    (no _ _ (branched _ _ _ c.has_six.ensures c.if-has_six.false)
    (no _ _ (branched _ _ _ c.is_used_up.ensures c.if-is_used_up.false) refl)))
