-- `book::is_broken` meets its contract: the grounds one after the other. Assumes nothing.
use Rattle.std.proofs.Common.{arith}
use Rattle.std.proofs.lemmas.Bool.Decides.{nat_tests}
use Rattle.std.proofs.lemmas.Grind.{common_steps}
use Rattle.laws.specs.Rows.{◌⇒◌⁏◌, ◌<?◌, ◌=?◌}
use Rattle.style.specs.Book.{broken}
use Rattle.book.proofs.is_broken.Goals as goal

pub returns-then-not-contains-2 : goal.returns-then-not-contains-2
unfolding broken ◌⇒◌⁏◌ ◌<?◌ ◌=?◌
returns-then-not-contains-2 c = grind (arith, nat_tests, common_steps)

pub returns-else-not-contains-2 : goal.returns-else-not-contains-2
unfolding broken ◌⇒◌⁏◌ ◌<?◌ ◌=?◌
returns-else-not-contains-2 c = grind (arith, nat_tests, common_steps)
