-- `allows::is_ill_formed` meets its contract: a U that names no encoding, or a string that is not well-formed. Assumes nothing.
use Rattle.std.proofs.Common.{arith}
use Rattle.std.proofs.lemmas.Bool.Decides.{nat_tests}
use Rattle.std.proofs.lemmas.Grind.{common_steps}
use Rattle.laws.specs.Rows.{◌⇒◌⁏◌, ◌<?◌}
use Rattle.writer.specs.Write.{ill_formed}
use Rattle.allows.proofs.is_ill_formed.Goals as goal

pub returns-then-u-gt1 : goal.returns-then-u-gt1
unfolding ill_formed ◌⇒◌⁏◌ ◌<?◌
returns-then-u-gt1 c = grind (arith, nat_tests, common_steps)

pub returns-else-u-gt1 : goal.returns-else-u-gt1
unfolding ill_formed ◌⇒◌⁏◌ ◌<?◌
returns-else-u-gt1 c = grind (arith, nat_tests, common_steps)
