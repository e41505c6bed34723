-- `Window::description_of` meets its contract: what is held is shown. Assumes nothing.
use Rattle.std.proofs.Common.{arith}
use Rattle.std.proofs.lemmas.Bool.Decides.{nat_tests}
use Rattle.std.proofs.lemmas.Grind.{common_steps}
use Rattle.laws.specs.Rows.{◌⇒◌⁏◌}
use Rattle.style.specs.Store.{in_store}
use Rattle.window.proofs.Window.description_of.Goals as goal

pub returns-then-is_held : goal.returns-then-is_held
unfolding in_store ◌⇒◌⁏◌
returns-then-is_held c = grind (arith, nat_tests, common_steps)

pub returns-else-is_held : goal.returns-else-is_held
unfolding in_store ◌⇒◌⁏◌
returns-else-is_held c = grind (arith, nat_tests, common_steps)
