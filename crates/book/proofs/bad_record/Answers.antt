-- `book::bad_record` meets its contract: broken, or not above the record before it. Assumes nothing.
use Rattle.std.proofs.Common.{arith}
use Rattle.std.proofs.lemmas.Bool.Decides.{nat_tests}
use Rattle.std.proofs.lemmas.Grind.{common_steps}
use Rattle.laws.specs.Rows.{◌⇒◌⁏◌}
use Rattle.style.specs.Book.{bad_record}
use Rattle.book.proofs.bad_record.Goals as goal

pub returns-then-is_broken : goal.returns-then-is_broken
unfolding bad_record ◌⇒◌⁏◌
returns-then-is_broken c = grind (arith, nat_tests, common_steps)

pub returns-else-is_broken : goal.returns-else-is_broken
unfolding bad_record ◌⇒◌⁏◌
returns-else-is_broken c = grind (arith, nat_tests, common_steps)
