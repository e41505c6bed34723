-- `asks::is_used_up` meets its contract: below two samples never, and else exactly if the common use is twice the desks. Assumes nothing.
use Rattle.std.proofs.Common.{ne_eqb, sym, ◌∙◌, refl, arith}
use Rattle.std.proofs.lemmas.Bool.{lt-leb}
use Rattle.laws.specs.Rows.{yes, no, lt, ge, ne}
use Rattle.asks.proofs.Twice.{twice}
use Rattle.sample.specs.Place.{bare}
use Rattle.desk.specs.Desk.{used_up}
use Rattle.asks.proofs.is_used_up.Goals as goal

pub returns-then-h-eq0 : goal.returns-then-h-eq0
unfolding used_up bare
returns-then-h-eq0 c = no _ _ refl (no _ _ (ge _ _ (omega arith)) (twice _ _ c.if-h-eq0.true))

pub returns-else-h-eq0 : goal.returns-else-h-eq0
unfolding used_up bare
returns-else-h-eq0 c =
    no _ _ refl (no _ _ (ge _ _ (omega arith)) (ne_eqb _ 0 c.if-h-eq0.false ∙ sym (ne _ _ (λ e. omega arith))))

pub returns-else-h-ge-OWN_PLACES : goal.returns-else-h-ge-OWN_PLACES
unfolding used_up bare
returns-else-h-ge-OWN_PLACES c = no _ _ refl (yes _ _ (lt _ _ (omega arith)) (lt-leb 2 _ (omega arith)))
