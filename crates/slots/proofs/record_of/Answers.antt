-- `slots::record_of` meets its contract: the four bytes, then the description, over zeros. Assumes nothing.
use Rattle.std.proofs.Common.{◌∙◌}
use Rattle.style.specs.Record.{record_of}
use Rattle.slots.proofs.record_of.Goals as goal

pub returns : goal.returns
unfolding record_of
returns c = c.put-2.ensures ∙ rw (c.put.ensures, c.bytes.ensures)
