-- `asks::add_time` meets its contract: SDUR is added, and SDUR 0 makes the time unknown. Assumes nothing.
use Rattle.std.specs.Prelude.{Some}
use Rattle.std.proofs.Common.{refl, ap, arith}
use Rattle.laws.specs.Rows.{yes, no, eq, ne}
use Rattle.desk.specs.Desk.{later}
use Rattle.asks.proofs.add_time.Goals as goal

pub returns-then-sdur-eq0 : goal.returns-then-sdur-eq0
unfolding later
returns-then-sdur-eq0 c = yes _ _ (eq _ _ (omega arith)) refl

pub returns : goal.returns
unfolding later
returns c = no _ _ (ne _ _ c.if-sdur-eq0.false) (ap Some (omega arith))
