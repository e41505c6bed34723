-- `parts::has` meets its contract. Assumes nothing.
use Rattle.std.proofs.Common.{refl, arith}
use Rattle.laws.specs.Rows.{yes, no, ◌=?◌}
use Rattle.sample.specs.Place.{has}
use Rattle.sample.specs.Turns.{outside-none, outside-far, inside}
use Rattle.parts.proofs.has.Goals as goal

pub returns-in-1-to-15 : goal.returns-in-1-to-15
unfolding has ◌=?◌
returns-in-1-to-15 c = no _ _ (inside _ (omega arith) (omega arith)) refl

pub returns-in_default : goal.returns-in_default
unfolding has
returns-in_default c = yes _ _ (outside-none _ (omega arith)) refl

pub returns-in_default-2 : goal.returns-in_default-2
unfolding has
returns-in_default-2 c = yes _ _ (outside-far _ (omega arith)) refl
