-- `window::newest_of` meets its contract: newest stays, or moves to what is noted. Assumes nothing.
use Rattle.std.proofs.Common.{arith}
use Rattle.std.proofs.lemmas.Bool.Decides.{nat_tests}
use Rattle.std.proofs.lemmas.Grind.{common_steps}
use Rattle.laws.specs.Rows.{◌⇒◌⁏◌, ◌<?◌, ◌=?◌}
use Rattle.style.specs.Store.{moved}
use Rattle.window.proofs.newest_of.Goals as goal

pub returns-then-not-contains : goal.returns-then-not-contains
unfolding moved ◌⇒◌⁏◌ ◌<?◌ ◌=?◌
returns-then-not-contains c = grind (arith, nat_tests, common_steps)

pub returns-else-newest-lt-IN_BAND : goal.returns-else-newest-lt-IN_BAND
unfolding moved ◌⇒◌⁏◌ ◌<?◌ ◌=?◌
returns-else-newest-lt-IN_BAND c = grind (arith, nat_tests, common_steps)
