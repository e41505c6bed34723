-- `repeats::repeats` meets its contract. Assumes nothing.
use Rattle.std.proofs.Common.{sym, ◌∙◌}
use Rattle.laws.specs.Rows.{yes, no}
use Rattle.sample.specs.Place.{repeats}
use Rattle.repeats.proofs.repeats.Goals as goal

pub returns-then-stands : goal.returns-then-stands
unfolding repeats
returns-then-stands c = yes _ _ (sym c.stands.ensures ∙ c.if-stands.true) c.agrees.ensures

pub returns-else-stands : goal.returns-else-stands
unfolding repeats
returns-else-stands c = no _ _ (sym c.stands.ensures ∙ c.if-stands.false) c.if-stands.false
