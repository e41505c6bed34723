-- `order::is_ordered` meets its contract. The invariant: what the TYPEs ahead have to be behind the last one decides. Assumes nothing.
use Rattle.std.proofs.Common.{◌≡◌, drop}
use Rattle.joining.specs.Joining.{ordered}
use Rattle.sample.specs.Order.{ordered_from}
use Rattle.order.proofs.is_ordered.Given as goal

abbrev pub invariant-loop-kind : goal.invariant-loop-kind
invariant-loop-kind l = ordered l.kinds ≡ ordered_from l.last (drop l.kind-index l.kinds)
