-- `allows::is_unwritable` meets its contract: the grounds of refusal 12. Assumes nothing.
use Rattle.std.proofs.Common.{arith}
use Rattle.std.proofs.lemmas.Bool.Decides.{nat_tests}
use Rattle.std.proofs.lemmas.Grind.{common_steps}
use Rattle.laws.specs.Rows.{◌⇒◌⁏◌, ◌<?◌}
use Rattle.writer.specs.Write.{unwritable}
use Rattle.allows.proofs.is_unwritable.Goals as goal

pub returns-then-slen-gt-SAMPLE_MOST : goal.returns-then-slen-gt-SAMPLE_MOST
unfolding unwritable ◌⇒◌⁏◌ ◌<?◌
returns-then-slen-gt-SAMPLE_MOST c = grind (arith, nat_tests, common_steps)

pub returns-else-slen-gt-SAMPLE_MOST : goal.returns-else-slen-gt-SAMPLE_MOST
unfolding unwritable ◌⇒◌⁏◌ ◌<?◌
returns-else-slen-gt-SAMPLE_MOST c = grind (arith, nat_tests, common_steps)
