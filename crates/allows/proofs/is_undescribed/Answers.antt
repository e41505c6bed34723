-- `allows::is_undescribed` meets its contract: the grounds of refusal 12. Assumes nothing.
use Rattle.std.proofs.Common.{arith}
use Rattle.std.proofs.lemmas.Bool.Decides.{nat_tests}
use Rattle.std.proofs.lemmas.Grind.{common_steps}
use Rattle.laws.specs.Rows.{◌⇒◌⁏◌, ◌<?◌, ◌=?◌}
use Rattle.writer.specs.Write.{undescribed}
use Rattle.allows.proofs.is_undescribed.Goals as goal

pub returns-then-not-contains : goal.returns-then-not-contains
unfolding undescribed ◌⇒◌⁏◌ ◌<?◌ ◌=?◌
returns-then-not-contains c = grind (arith, nat_tests, common_steps)

pub returns-else-not-contains : goal.returns-else-not-contains
unfolding undescribed ◌⇒◌⁏◌ ◌<?◌ ◌=?◌
returns-else-not-contains c = grind (arith, nat_tests, common_steps)
