-- `lays::write_whole` meets its contract: the string is laid down with the header, and the modifiers behind it.
-- Assumes nothing.
use Rattle.writer.proofs.Returns.{lay-more}
use Rattle.lays.proofs.write_whole.Goals as goal

pub returns : goal.returns
returns c =
    let a = c.args in
    rw (← c.slen.ensures)
    (lay-more _ a.c.now.string.now a.c.now.modifiers.now a.out.now _ _ _ c.lay-n.ensures c.put.ensures)
