-- `window::does_carry` meets its contract: the index, and a length that is not 0. Assumes nothing.
use Rattle.std.proofs.Common.{arith}
use Rattle.std.proofs.lemmas.Bool.Decides.{nat_tests}
use Rattle.std.proofs.lemmas.Grind.{common_steps}
use Rattle.laws.specs.Rows.{◌⇒◌⁏◌, ◌<?◌, ◌=?◌}
use Rattle.style.specs.Store.{carries}
use Rattle.window.proofs.does_carry.Goals as goal

pub returns-then-byte-v : goal.returns-then-byte-v
unfolding carries ◌⇒◌⁏◌ ◌<?◌ ◌=?◌
returns-then-byte-v c = grind (arith, nat_tests, common_steps)

pub returns-else-byte-v : goal.returns-else-byte-v
unfolding carries ◌⇒◌⁏◌ ◌<?◌ ◌=?◌
returns-else-byte-v c = grind (arith, nat_tests, common_steps)
