-- `Window::is_held` meets its contract: the window is asked, then the slot. Assumes nothing.
use Rattle.std.proofs.Common.{arith}
use Rattle.std.proofs.lemmas.Bool.Decides.{nat_tests}
use Rattle.std.proofs.lemmas.Grind.{common_steps}
use Rattle.laws.specs.Rows.{◌⇒◌⁏◌}
use Rattle.style.specs.Store.{held}
use Rattle.window.proofs.Window.is_held.Goals as goal

pub returns-then-is_within : goal.returns-then-is_within
unfolding held ◌⇒◌⁏◌
returns-then-is_within c = grind (arith, nat_tests, common_steps)

pub returns-else-is_within : goal.returns-else-is_within
unfolding held ◌⇒◌⁏◌
returns-else-is_within c = grind (arith, nat_tests, common_steps)
