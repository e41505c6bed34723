-- `strings::by_blocks` meets its contract. The invariant: to look at what is left is to look at all. Assumes nothing.
use native.Mathlib.Omega.{arith}
use mathlib.Core.Path.{refl, sym, ◌∙◌}
use Rattle.text.proofs.Walk.{well-end}
use Rattle.text.proofs.Runs.{block-there, block_on, block-not}
use Rattle.strings.specs.Steps.{led-block, led_none}
use Rattle.strings.proofs.by_blocks.Goals as goal

pub loop-i-init : goal.loop-i-init
loop-i-init c = (omega arith, refl)

pub returns-in_default : goal.returns-in_default
returns-in_default c =
    let l = c.loop-i in
    let f = led_none _ _ _ (sym c.passed.ensures ∙ c.in_default.is) in
    sym (l.invariant.1 ∙ block-not _ l.i _ (omega arith) refl f.1)

pub loop-i-smaller : goal.loop-i-smaller
loop-i-smaller c =
    let l = c.loop-i in
    let f = led-block _ l.i _ _ (omega arith) c.passed.ensures c.in-Some.is in
    omega (arith, (block_on _ l.i _ (omega arith) f.0 f.1).0)

pub loop-i-preserved : goal.loop-i-preserved
loop-i-preserved c =
    let l = c.loop-i in
    let f = led-block _ l.i _ _ (omega arith) c.passed.ensures c.in-Some.is in
    (block-there _ l.i _ (omega arith) f.0, l.invariant.1 ∙ (block_on _ l.i _ (omega arith) f.0 f.1).1)

pub returns : goal.returns
returns c =
    let a = c.args in
    let l = c.loop-i in
    well-end 0 a.s.now l.i (omega arith) ∙ sym l.invariant.1
