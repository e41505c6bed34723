-- `finished::is_late` meets its contract. Assumes nothing.
use Rattle.std.proofs.Common.{refl, sym, ap, ◌∙◌, arith}
use Rattle.laws.specs.Rows.{◌⇒◌⁏◌}
use Rattle.finished.specs.Times.{among}
use Rattle.finished.proofs.Times.{hit-next, hit-end}
use Rattle.finished.proofs.is_late.Goals as goal

pub loop-x-init : goal.loop-x-init
unfolding ◌⇒◌⁏◌
loop-x-init c = refl

pub loop-x-preserved : goal.loop-x-preserved
loop-x-preserved c =
    let l = c.loop-x in
    l.invariant ∙ hit-next _ l.x-index c.args.time l.hit c.loop-x-test.true

pub returns : goal.returns
returns c =
    let l = c.loop-x in
    sym (hit-end _ l.x-index c.args.time l.hit (omega arith)) ∙ sym l.invariant ∙ ap (λ xs. among xs c.args.time) c.held-times.ensures
