-- `finds::bears` meets its contract. Assumes nothing.
use Rattle.laws.specs.Rows.{◌=?◌}
use Rattle.finds.proofs.bears.Goals as goal

pub returns-in-Some : goal.returns-in-Some
unfolding ◌=?◌
returns-in-Some c = rw c.in-Some.is
