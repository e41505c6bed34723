-- `window::is_within` meets its contract: both values are in band, and the one is close behind the other. Assumes nothing.
use Rattle.std.proofs.Common.{arith}
use Rattle.std.proofs.lemmas.Bool.Decides.{nat_tests}
use Rattle.std.proofs.lemmas.Grind.{common_steps}
use Rattle.laws.specs.Rows.{◌⇒◌⁏◌, ◌<?◌}
use Rattle.style.specs.Store.{in_window}
use Rattle.window.proofs.is_within.Goals as goal

pub returns-then-v-lt-IN_BAND : goal.returns-then-v-lt-IN_BAND
unfolding in_window ◌⇒◌⁏◌ ◌<?◌
returns-then-v-lt-IN_BAND c = grind (arith, nat_tests, common_steps)

pub returns-else-v-lt-IN_BAND : goal.returns-else-v-lt-IN_BAND
unfolding in_window ◌⇒◌⁏◌ ◌<?◌
returns-else-v-lt-IN_BAND c = grind (arith, nat_tests, common_steps)
