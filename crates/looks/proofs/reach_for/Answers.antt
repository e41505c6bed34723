-- `looks::reach_for` meets its contract. Assumes nothing.
use Rattle.std.proofs.Common.{refl, sym, ◌∙◌}
use Rattle.laws.specs.Rows.{yes, no}
use Rattle.looks.proofs.reach_for.Goals as goal

pub returns-then-is_text : goal.returns-then-is_text
returns-then-is_text c = yes _ _ (sym c.is_text.ensures ∙ c.if-is_text.true) c.reach.ensures

pub returns-else-is_text : goal.returns-else-is_text
returns-else-is_text c = no _ _ (sym c.is_text.ensures ∙ c.if-is_text.false) refl
