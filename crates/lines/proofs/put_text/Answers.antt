-- `lines::put_text` meets its contract. Assumes nothing.
use Rattle.lines.specs.Typed.{typed-is}
use Rattle.lines.proofs.put_text.Goals as goal

pub returns : goal.returns
returns c =
    let a = c.args in
    typed-is a.out.now a.at a.text.now _ _ _ c.put.ensures c.min-from.ensures c.min.ensures
