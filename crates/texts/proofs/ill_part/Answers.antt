-- `texts::ill_part` meets its contract: a part of another TYPE has no text. Assumes nothing.
use Rattle.std.proofs.Common.{◌∙◌, ne_eqb}
use Rattle.unit.proofs.Text.{string-ill, modifiers-not-ill}
use Rattle.texts.proofs.ill_part.Goals as goal

pub returns-then-w-eq2 : goal.returns-then-w-eq2
returns-then-w-eq2 c = rw (c.well_formed-then-w-eq2.ensures, c.cut.ensures) (string-ill _ _ c.if-w-eq2.true)

pub returns-else-w-eq2 : goal.returns-else-w-eq2
returns-else-w-eq2 c = ne_eqb _ _ c.if-w-eq2.false ∙ modifiers-not-ill _ _ c.if-w-eq2.false
