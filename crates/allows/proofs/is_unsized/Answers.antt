-- `allows::is_unsized` meets its contract: the limit is out of range, or the output shorter. Assumes nothing.
use Rattle.std.proofs.Common.{arith}
use Rattle.std.proofs.lemmas.Bool.Decides.{nat_tests}
use Rattle.std.proofs.lemmas.Grind.{common_steps}
use Rattle.laws.specs.Rows.{◌⇒◌⁏◌, ◌<?◌}
use Rattle.writer.specs.Write.{unsized}
use Rattle.allows.proofs.is_unsized.Goals as goal

pub returns-then-not-contains : goal.returns-then-not-contains
unfolding unsized ◌⇒◌⁏◌ ◌<?◌
returns-then-not-contains c = grind (arith, nat_tests, common_steps)

pub returns-else-not-contains : goal.returns-else-not-contains
unfolding unsized ◌⇒◌⁏◌ ◌<?◌
returns-else-not-contains c = grind (arith, nat_tests, common_steps)
