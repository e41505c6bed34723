-- `gate::gate_at` meets its contract: behind the gate the desk's own things lie within what is lent. Assumes nothing.
use Rattle.gate.specs.Tests.{held}
use Rattle.gate.proofs.gate_at.Goals as goal

pub returns-clause-own : goal.returns-clause-own
returns-clause-own c = held _ _ _ _ _ _ _ _ c.gate_of.ensures
