-- `texts::ill_whole` meets its contract. Assumes nothing.
use Rattle.unit.specs.Layout.{ill_text}
use Rattle.texts.proofs.ill_whole.Goals as goal

pub returns : goal.returns
unfolding ill_text
returns c = rw (c.well_formed-2.ensures, c.cut.ensures, c.cut-sample.ensures)
