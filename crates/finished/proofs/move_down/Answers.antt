-- `finished::move_down` meets its contract: turn by turn one more number stands where it goes. Assumes nothing.
use Rattle.std.proofs.Common.{arith, ◌∙◌, length-set}
use Rattle.finished.proofs.Times.{one-moved, next-moved, all-moved}
use Rattle.finished.proofs.move_down.Goals as goal

pub loop-k-preserved : goal.loop-k-preserved
loop-k-preserved c =
    let l = c.loop-k in
    let a = c.args in
    let r = l.invariant.1 in (
      length-set l.row _ _ ∙ l.invariant.0,
      one-moved a.row.now l.row a.time _ l.k c.min-n.ensures r l.next c.loop-k-test.true (l.invariant.2 c.loop-k-test.true),
      next-moved a.row.now l.row a.time _ l.k c.min-n.ensures r,
    )

pub returns : goal.returns
returns c =
    let l = c.loop-k in
    let a = c.args in
    all-moved a.row.now l.row a.time _ l.k c.min-n.ensures l.invariant.1 (omega arith)
