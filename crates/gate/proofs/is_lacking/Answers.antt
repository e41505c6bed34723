-- `gate::is_lacking` meets its contract: the three, and then the stores. Assumes nothing.
use Rattle.std.proofs.Common.{refl, sym, ◌∙◌}
use Rattle.laws.specs.Rows.{◌<?◌, yes, no}
use Rattle.memory.specs.Relay.{short}
use Rattle.gate.proofs.is_lacking.Goals as goal

pub returns-then-lacks_three : goal.returns-then-lacks_three
returns-then-lacks_three c = yes _ _ (sym c.lacks_three.ensures ∙ c.if-lacks_three.true) c.if-lacks_three.true

pub returns-else-lacks_three : goal.returns-else-lacks_three
unfolding short ◌<?◌
returns-else-lacks_three c = no _ _ (sym c.lacks_three.ensures ∙ c.if-lacks_three.false) refl
