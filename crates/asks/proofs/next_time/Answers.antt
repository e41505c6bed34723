-- `asks::next_time` meets its contract: a last part adds its SDUR. Assumes nothing.
use Rattle.std.proofs.Common.{refl}
use Rattle.laws.specs.Rows.{yes, no, eq, ne}
use Rattle.desk.specs.Desk.{later_part}
use Rattle.asks.proofs.next_time.Goals as goal

pub returns-then-x : goal.returns-then-x
unfolding later_part
returns-then-x c = yes _ _ (eq _ _ c.if-x.true) c.add_time.ensures

pub returns-else-x : goal.returns-else-x
unfolding later_part
returns-else-x c = no _ _ (ne _ _ c.if-x.false) refl
