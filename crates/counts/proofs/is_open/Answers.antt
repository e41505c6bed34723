-- `counts::is_open` meets its contract: where no place bears the time none is searched, and none is the sample. Assumes nothing.
use Rattle.std.proofs.Common.{ap, sym, ◌∙◌, arith, take, le-ltb}
use Rattle.std.specs.Option.{is_some}
use Rattle.memory.specs.Table.{is_at}
use Rattle.table.proofs.Facts.{somewhere}
use Rattle.counts.proofs.Facts.{none-open}
use Rattle.counts.proofs.is_open.Goals as goal

pub returns-then-count-gt0 : goal.returns-then-count-gt0
returns-then-count-gt0 c =
    let a = c.args in
    c.is_some.ensures ∙ ap is_some c.find.ensures ∙ somewhere (is_at a.who.desk a.who.time) (take a.m a.t.now)

pub returns-else-count-gt0 : goal.returns-else-count-gt0
returns-else-count-gt0 c = le-ltb 0 c.count.result (omega arith) ∙ sym (none-open c.args.who (take c.args.m c.args.t.now) (omega arith))
