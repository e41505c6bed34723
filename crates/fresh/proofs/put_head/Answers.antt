-- `fresh::put_head` meets its contract: zeros, and then the number of desks. Assumes nothing.
use Rattle.std.proofs.Common.{ℕ, List, ap, ◌∙◌}
use Rattle.std.proofs.Math.ListN.{set}
use Rattle.fresh.specs.Start.{head-put}
use Rattle.fresh.proofs.put_head.Goals as goal

pub returns : goal.returns
returns c =
    let a = c.args in
    c.put_word.ensures ∙ ap (λ (l : List ℕ). set l 0 a.n) c.fill_front.ensures
    ∙ head-put a.n a.marks.now
