-- `book::is_falling` meets its contract: the first record falls behind none; another is compared with the one before it. Assumes nothing.
use Rattle.std.proofs.Common.{arith}
use Rattle.std.proofs.lemmas.Bool.Decides.{nat_tests}
use Rattle.std.proofs.lemmas.Grind.{common_steps}
use Rattle.laws.specs.Rows.{◌⇒◌⁏◌, ◌<?◌}
use Rattle.style.specs.Book.{falling}
use Rattle.book.proofs.is_falling.Goals as goal

pub returns-then-i-gt0 : goal.returns-then-i-gt0
unfolding falling ◌⇒◌⁏◌ ◌<?◌
returns-then-i-gt0 c = grind (arith, nat_tests, common_steps)

pub returns-else-i-gt0 : goal.returns-else-i-gt0
unfolding falling ◌⇒◌⁏◌ ◌<?◌
returns-else-i-gt0 c = grind (arith, nat_tests, common_steps)
