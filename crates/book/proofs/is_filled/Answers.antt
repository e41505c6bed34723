-- `book::is_filled` meets its contract. The invariant: what is left decides. Assumes nothing.
use Rattle.std.proofs.Common.{arith, sym, ◌∙◌}
use Rattle.style.specs.Turns.{filled-here, filled_next, filled-end}
use Rattle.book.proofs.is_filled.Goals as goal

pub returns-then-s-i-gt0 : goal.returns-then-s-i-gt0
returns-then-s-i-gt0 c =
    let l = c.loop-i in
    let a = c.args in
    sym (l.invariant ∙ filled-here a.s.now l.i (omega arith) c.if-s-i-gt0.true)

pub loop-i-preserved : goal.loop-i-preserved
loop-i-preserved c =
    let l = c.loop-i in
    let a = c.args in
    l.invariant ∙ filled_next a.s.now l.i (omega arith) c.if-s-i-gt0.false

pub returns : goal.returns
returns c =
    let l = c.loop-i in
    let a = c.args in
    sym (l.invariant ∙ filled-end a.s.now l.i (omega arith))
