-- `order::is_sound` meets its contract. Assumes nothing.
use Rattle.std.proofs.Common.{refl, sym, ◌∙◌, ◌≡◌, length, arith}
use Rattle.laws.specs.Rows.{yes, no, ◌=?◌}
use Rattle.paper.specs.Limits.{parts_most}
use Rattle.sample.specs.Turns.{kinds-of}
use Rattle.order.proofs.is_sound.Goals as goal

pub returns-then-is_ordered : goal.returns-then-is_ordered
unfolding ◌=?◌
returns-then-is_ordered c =
    let fifteen : length c.args.p.now.kinds ≡ parts_most = omega arith in
    yes _ _ (rw (kinds-of c.args.p.now fifteen, ← c.min-n.ensures) (sym c.is_ordered.ensures ∙ c.if-is_ordered.true)) refl

pub returns-else-is_ordered : goal.returns-else-is_ordered
returns-else-is_ordered c =
    let fifteen : length c.args.p.now.kinds ≡ parts_most = omega arith in
    no _ _ (rw (kinds-of c.args.p.now fifteen, ← c.min-n.ensures) (sym c.is_ordered.ensures ∙ c.if-is_ordered.false)) c.if-is_ordered.false
