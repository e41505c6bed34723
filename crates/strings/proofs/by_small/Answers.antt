-- `strings::by_small` meets its contract. The invariant: to go on from here is to go from the start. Assumes nothing.
use native.Mathlib.Omega.{arith}
use mathlib.Core.Path.{refl, sym, ap, ◌∙◌}
use Rattle.text.specs.Runs.{walked_to}
use Rattle.text.proofs.Runs.{walk_end}
use Rattle.strings.specs.Steps.{led, led_there, led_nowhere, small_none, small_some}
use Rattle.strings.proofs.by_small.Goals as goal

pub loop-i-init : goal.loop-i-init
unfolding walked_to
loop-i-init c = (omega arith, refl)

pub returns-in_err-i : goal.returns-in_err-i
returns-in_err-i c =
    let a = c.args in
    let l = c.loop-i in
    let w = small_none a.s.now a.at l.i a.to _ (omega arith) c.small.ensures c.in_err-i.was ∙ sym l.invariant.1 in
    c.from_residual.ensures ∙ led_nowhere a.at a.to _ (omega arith) (sym w)

pub loop-i-smaller : goal.loop-i-smaller
loop-i-smaller c =
    let a = c.args in
    let l = c.loop-i in
    omega (arith, (small_some a.s.now a.at l.i a.to _ (omega arith) c.small.ensures _ c.in_ok-i.was).0)

pub loop-i-preserved : goal.loop-i-preserved
loop-i-preserved c =
    let a = c.args in
    let l = c.loop-i in
    let t = small_some a.s.now a.at l.i a.to _ (omega arith) c.small.ensures _ c.in_ok-i.was in
    (omega (arith, t.0), l.invariant.1 ∙ t.1)

pub returns : goal.returns
returns c =
    let a = c.args in
    let l = c.loop-i in
    led_there a.at a.to l.i (λ h. omega arith)
    ∙ ap (led a.at a.to) (walk_end 0 a.s.now a.at a.to l.i (omega arith) ∙ sym l.invariant.1)
