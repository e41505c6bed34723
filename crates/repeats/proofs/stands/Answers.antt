-- `repeats::stands` meets its contract: each return stands at what is compared there. Assumes nothing.
use Rattle.std.proofs.Common.{refl, sym, ◌∙◌}
use Rattle.laws.specs.Rows.{yes, no, eq, ne, ◌=?◌}
use Rattle.sample.specs.Place.{stands}
use Rattle.octets.specs.Same.{same_pairs}
use Rattle.repeats.proofs.stands.Goals as goal

pub returns-then-p-k : goal.returns-then-p-k
unfolding stands
returns-then-p-k c =
    yes _ _ (sym c.has.ensures ∙ c.if-not-has.false)
    (yes _ _ (eq _ _ c.if-p-k.true) (c.eq.ensures ∙ rw c.cut.ensures (same_pairs _ _)))

pub returns-else-p-k : goal.returns-else-p-k
unfolding stands ◌=?◌
returns-else-p-k c = yes _ _ (sym c.has.ensures ∙ c.if-not-has.false) (no _ _ (ne _ _ c.if-p-k.false) (ne _ _ c.if-p-k.false))

pub returns-then-not-has : goal.returns-then-not-has
unfolding stands
returns-then-not-has c = no _ _ (sym c.has.ensures ∙ c.if-not-has.true) refl
