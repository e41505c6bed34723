-- `asks::does_conflict` meets its contract: a THIS already kept, or a part that disagrees. Assumes nothing.
use Rattle.std.proofs.Common.{not, sym, ap, ◌∙◌}
use Rattle.laws.specs.Rows.{yes, no}
use Rattle.desk.specs.Desk.{conflicts}
use Rattle.asks.proofs.does_conflict.Goals as goal

pub returns-then-has : goal.returns-then-has
unfolding conflicts
returns-then-has c = yes _ _ (sym c.has.ensures ∙ c.if-has.true) c.if-has.true

pub returns-else-has : goal.returns-else-has
unfolding conflicts
returns-else-has c = no _ _ (sym c.has.ensures ∙ c.if-has.false) (ap not c.agrees.ensures)
