-- `notes::unchanged` meets its contract: each answer stands at its row. Assumes nothing.
use Rattle.std.specs.Prelude.{refl}
use Rattle.std.proofs.Common.{arith}
use Rattle.laws.specs.Rows.{yes, no, lt, ge, branched}
use Rattle.style.specs.Store.{noted}
use Rattle.notes.proofs.unchanged.Goals as goal

pub returns-then-is_improper : goal.returns-then-is_improper
unfolding noted
returns-then-is_improper c = yes _ _ (branched _ _ _ c.is_improper.ensures c.if-is_improper.true) refl

pub returns-then-d-gt-DESCRIPTION_MOST : goal.returns-then-d-gt-DESCRIPTION_MOST
unfolding noted
returns-then-d-gt-DESCRIPTION_MOST c = no _ _ (branched _ _ _ c.is_improper.ensures c.if-is_improper.false) (yes _ _ (lt _ _ (omega arith)) refl)

pub returns-then-is_repeated : goal.returns-then-is_repeated
unfolding noted
returns-then-is_repeated c =
    no _ _ (branched _ _ _ c.is_improper.ensures c.if-is_improper.false)
    (no _ _ (ge _ _ (omega arith)) (yes _ _ (branched _ _ _ c.is_repeated.ensures c.if-is_repeated.true) refl))

pub returns-then-is_held : goal.returns-then-is_held
unfolding noted
returns-then-is_held c =
    no _ _ (branched _ _ _ c.is_improper.ensures c.if-is_improper.false)
    (no _ _ (ge _ _ (omega arith))
    (no _ _ (branched _ _ _ c.is_repeated.ensures c.if-is_repeated.false)
    (yes _ _ (branched _ _ _ c.is_held.ensures c.if-is_held.true) refl)))
