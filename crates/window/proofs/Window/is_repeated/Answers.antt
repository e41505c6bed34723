-- `Window::is_repeated` meets its contract: what is held is compared. Assumes nothing.
use Rattle.std.proofs.Common.{arith}
use Rattle.std.proofs.lemmas.Bool.Decides.{nat_tests}
use Rattle.std.proofs.lemmas.Grind.{common_steps}
use Rattle.laws.specs.Rows.{◌⇒◌⁏◌}
use Rattle.style.specs.Store.{repeated}
use Rattle.octets.specs.Same.{same_pairs}
use Rattle.window.proofs.Window.is_repeated.Goals as goal

pub returns-then-is_held : goal.returns-then-is_held
unfolding repeated ◌⇒◌⁏◌
returns-then-is_held c = grind (arith, nat_tests, common_steps, same_pairs)

pub returns-else-is_held : goal.returns-else-is_held
unfolding repeated ◌⇒◌⁏◌
returns-else-is_held c = grind (arith, nat_tests, common_steps)
