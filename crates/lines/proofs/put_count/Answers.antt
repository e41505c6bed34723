-- `lines::put_count` meets its contract. Assumes nothing.
use Rattle.lines.specs.Typed.{then}
use Rattle.lines.proofs.put_count.Goals as goal

pub returns : goal.returns
returns c = then _ _ _ _ _ _ _ _ c.put_text-next.ensures c.put_number.ensures
