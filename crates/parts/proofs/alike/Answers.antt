-- `parts::alike` meets its contract. Assumes nothing.
use Rattle.std.proofs.Common.{◌∙◌}
use Rattle.sample.specs.Place.{alike}
use Rattle.laws.specs.Rows.{◌=?◌}
use Rattle.parts.proofs.Rows.{all_three}
use Rattle.parts.proofs.alike.Goals as goal

pub returns : goal.returns
unfolding alike ◌=?◌
returns c = c.eq.ensures ∙ all_three _ _ _
