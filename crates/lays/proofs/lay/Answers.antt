-- `lays::lay` meets its contract: the header is stored, and the data behind it. Assumes nothing.
use native.Mathlib.Omega.{arith}
use Rattle.unit.specs.Head.{head-short}
use Rattle.writer.proofs.Returns.{lay-is}
use Rattle.lays.proofs.lay.Goals as goal

pub returns : goal.returns
returns c =
    let a = c.args in
    let h = c.put_head-n.ensures in
    lay-is a.x a.d.now a.out.now _ _ _ h.0 h.1 c.put.ensures

pub overflow_add-result : goal.overflow_add-result
overflow_add-result c = omega (arith, head-short c.args.x)
