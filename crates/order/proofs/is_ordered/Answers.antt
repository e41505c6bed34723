-- `order::is_ordered` meets its contract. The invariant: what the TYPEs ahead have to be behind the last one decides. Assumes nothing.
use Rattle.std.proofs.Common.{sym, ◌∙◌, refl, add-one, arith}
use Rattle.laws.specs.Rows.{◌⇒◌⁏◌, ◌=?◌}
use Rattle.sample.specs.Order.{ordered_from, ordered-next, ordered-stop, ordered_end}
use Rattle.order.proofs.is_ordered.Goals as goal

pub loop-kind-init : goal.loop-kind-init
unfolding ordered_from ◌⇒◌⁏◌ ◌=?◌
loop-kind-init c = refl

pub returns-then-not-follows : goal.returns-then-not-follows
returns-then-not-follows c =
    let l = c.loop-kind in
    sym (l.invariant ∙ ordered-stop l.last c.args.kinds.now l.kind-index (omega arith) (sym c.follows.ensures ∙ c.if-not-follows.true))

pub loop-kind-preserved : goal.loop-kind-preserved
loop-kind-preserved c =
    let l = c.loop-kind in
    l.invariant
    ∙ rw add-one (ordered-next l.last c.args.kinds.now l.kind-index (omega arith) (sym c.follows.ensures ∙ c.if-not-follows.false))

pub returns : goal.returns
unfolding ◌=?◌
returns c =
    let l = c.loop-kind in
    sym (l.invariant ∙ ordered_end l.last c.args.kinds.now l.kind-index (omega arith))
