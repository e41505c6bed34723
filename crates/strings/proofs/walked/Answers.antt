-- `strings::walked` meets its contract. The invariant: to go on from here is to go from the start. Assumes nothing.
use native.Mathlib.Omega.{arith}
use mathlib.Core.Path.{refl, sym, ap, ◌∙◌}
use lib.ListN.{drop, length-drop}
use Rattle.text.specs.Found.{found_some, found_none}
use Rattle.text.proofs.Finder.{character-within}
use Rattle.text.specs.Runs.{walked_to}
use Rattle.text.proofs.Runs.{walk-on, walk-not, walk_end}
use Rattle.strings.specs.Steps.{led, led_there, led_nowhere}
use Rattle.strings.proofs.walked.Goals as goal

pub loop-i-init : goal.loop-i-init
unfolding walked_to
loop-i-init c = (omega arith, refl)

pub returns-in_err-i : goal.returns-in_err-i
returns-in_err-i c =
    let a = c.args in
    let l = c.loop-i in
    let z = found_none _ (sym c.character.ensures ∙ c.in_err-i.was) in
    let w = walk-not a.u a.s.now a.at a.to l.i _ refl (omega arith) z ∙ sym l.invariant.1 in
    c.from_residual.ensures ∙ led_nowhere a.at a.to _ (omega arith) (sym w)

pub overflow_add-i : goal.overflow_add-i
overflow_add-i c =
    let a = c.args in
    let l = c.loop-i in
    let f = found_some _ _ (sym c.character.ensures ∙ c.in_ok-i.was) in
    omega (arith, character-within a.u (drop l.i a.s.now), length-drop l.i a.s.now)

pub loop-i-preserved : goal.loop-i-preserved
loop-i-preserved c =
    let a = c.args in
    let l = c.loop-i in
    let f = found_some _ _ (sym c.character.ensures ∙ c.in_ok-i.was) in
    (omega arith, l.invariant.1 ∙ walk-on a.u a.s.now a.at a.to l.i _ f.0 (omega arith) (omega arith))

pub loop-i-smaller : goal.loop-i-smaller
loop-i-smaller c =
    let f = found_some _ _ (sym c.character.ensures ∙ c.in_ok-i.was) in
    omega arith

pub returns : goal.returns
returns c =
    let a = c.args in
    let l = c.loop-i in
    led_there a.at a.to l.i (λ h. omega arith)
    ∙ ap (led a.at a.to) (walk_end a.u a.s.now a.at a.to l.i (omega arith) ∙ sym l.invariant.1)
