-- `lines::put_line` meets its contract: the pieces of the line, one behind the other. Assumes nothing.
use Rattle.lines.specs.Line.{line-is}
use Rattle.lines.proofs.put_line.Goals as goal

pub returns : goal.returns
returns c =
    let a = c.args in
    line-is a.out.now a.at a.place a.t a.answer _ _ _ _ _ _ _ _ _ _ _ _
    c.put_count-next.ensures c.put_count-next-2.ensures c.put_time-next.ensures c.put_text-next.ensures
    c.put_outcome-next.ensures c.put_text.ensures
