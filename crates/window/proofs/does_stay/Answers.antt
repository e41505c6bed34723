-- `window::does_stay` meets its contract: both windows are asked. Assumes nothing.
use Rattle.std.proofs.Common.{arith}
use Rattle.std.proofs.lemmas.Bool.Decides.{nat_tests}
use Rattle.std.proofs.lemmas.Grind.{common_steps}
use Rattle.laws.specs.Rows.{◌⇒◌⁏◌}
use Rattle.style.specs.Store.{stays}
use Rattle.window.proofs.does_stay.Goals as goal

pub returns-then-is_within : goal.returns-then-is_within
unfolding stays ◌⇒◌⁏◌
returns-then-is_within c = grind (arith, nat_tests, common_steps)

pub returns-else-is_within : goal.returns-else-is_within
unfolding stays ◌⇒◌⁏◌
returns-else-is_within c = grind (arith, nat_tests, common_steps)
