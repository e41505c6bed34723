-- `asks::has_six` meets its contract: the sample is not open, so it asks for a place. Assumes nothing.
use Rattle.std.proofs.Common.{refl}
use Rattle.laws.specs.Rows.{no, ◌<?◌}
use Rattle.sample.specs.Place.{bare}
use Rattle.desk.specs.Desk.{six}
use Rattle.asks.proofs.has_six.Goals as goal

pub returns : goal.returns
unfolding six bare ◌<?◌
returns c = no _ _ refl refl
