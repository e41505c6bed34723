-- `frees::clear` meets its contract: the first m, or as many as there are, are closed. Assumes nothing.
use Rattle.std.proofs.Common.{List, ◌++◌, drop, length, take, ap, ◌∙◌}
use Rattle.std.proofs.Math.ListN.{replicate}
use Rattle.sample.specs.declared.Place.{Place}
use Rattle.sample.specs.Place.{closed}
use Rattle.table.proofs.Filled.{front-filled}
use Rattle.frees.proofs.clear.Goals as goal

pub returns : goal.returns
returns c =
    let a = c.args in
    let n = c.min-n.result in
    ap (λ (l : List Place). l ++ drop n a.t.now)
    (c.fill.ensures.after (λ y e. e) ∙ ap (λ (p : Place). replicate (length (take n a.t.now)) p) c.closed.ensures)
    ∙ front-filled closed n a.m a.t.now c.min-n.ensures
