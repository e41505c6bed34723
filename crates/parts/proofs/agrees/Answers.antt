-- `parts::agrees` meets its contract: each return stands at what is compared there. Assumes nothing.
use Rattle.std.proofs.Common.{true≢false, not, ap, sym, ◌∙◌}
use Rattle.laws.specs.Rows.{yes, no, eq, ne, not-of, not_is, ◌=?◌}
use Rattle.sample.specs.Place.{agrees}
use Rattle.parts.proofs.Rows.{both, not_both}
use Rattle.parts.proofs.agrees.Goals as goal
use Rattle.parts.proofs.agrees.Goals.{then-x-ne2, else-x-ne2}

pub returns-then-not-p : goal.returns-then-not-p
unfolding agrees ◌=?◌
returns-then-not-p c =
    both _ _ _ _ c.eq.ensures c.if-eq.true _
    (elim c.if-x-ne2.branch [
      | then-x-ne2 w ↦ no _ _ (ne _ _ w.if-x-ne2.true) c.if-not-p.true
      | else-x-ne2 w ↦ yes _ _ (eq _ _ w.if-x-ne2.false) (no _ _ (not_is _ (sym w.value-is ∙ c.if-not-p.true)) c.if-not-p.true)
    ])

pub returns-else-not-p : goal.returns-else-not-p
unfolding agrees ◌=?◌
returns-else-not-p c =
    both _ _ _ _ c.eq.ensures c.if-eq.true _
    (elim c.if-x-ne2.branch [
      | then-x-ne2 w ↦ absurd (true≢false (sym (w.value-is ∙ ap not (ne _ _ w.if-x-ne2.true)) ∙ c.if-not-p.false))
      | else-x-ne2 w ↦ yes _ _ (eq _ _ w.if-x-ne2.false) (yes _ _ (not-of _ (sym w.value-is ∙ c.if-not-p.false)) c.alike.ensures)
    ])

pub returns-else-eq : goal.returns-else-eq
unfolding agrees ◌=?◌
returns-else-eq c = not_both _ _ _ _ c.eq.ensures c.if-eq.false
