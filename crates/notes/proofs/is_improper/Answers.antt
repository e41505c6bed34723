-- `notes::is_improper` meets its contract: SIDX is above 127, or there is no byte, or neither. Assumes nothing.
use Rattle.std.proofs.Common.{arith}
use Rattle.std.proofs.lemmas.Bool.Decides.{nat_tests}
use Rattle.std.proofs.lemmas.Grind.{common_steps}
use Rattle.laws.specs.Rows.{◌⇒◌⁏◌, ◌<?◌, ◌=?◌}
use Rattle.style.specs.Store.{improper}
use Rattle.notes.proofs.is_improper.Goals as goal

pub returns-then-sidx-ge-IN_BAND : goal.returns-then-sidx-ge-IN_BAND
unfolding improper ◌⇒◌⁏◌ ◌<?◌ ◌=?◌
returns-then-sidx-ge-IN_BAND c = grind (arith, nat_tests, common_steps)

pub returns-else-sidx-ge-IN_BAND : goal.returns-else-sidx-ge-IN_BAND
unfolding improper ◌⇒◌⁏◌ ◌<?◌ ◌=?◌
returns-else-sidx-ge-IN_BAND c = grind (arith, nat_tests, common_steps)
