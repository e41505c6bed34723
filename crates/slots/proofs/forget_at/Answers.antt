-- `slots::forget_at` meets its contract: the slot stays or is blank. Assumes nothing.
use Rattle.std.specs.Prelude.{refl}
use Rattle.std.proofs.Common.{ap, ◌∙◌}
use Rattle.laws.specs.Rows.{yes, no, branched}
use Rattle.style.specs.Store.{stays, forgotten_at}
use Rattle.slots.proofs.forget_at.Goals as goal

pub returns-then-not-does_stay : goal.returns-then-not-does_stay
unfolding forgotten_at
returns-then-not-does_stay c =
    no _ _ (branched _ _ _ (c.does_stay.ensures ∙ ap (stays _ _) c.index_at.ensures.0) c.if-not-does_stay.true) c.put_record.ensures

pub returns-else-not-does_stay : goal.returns-else-not-does_stay
unfolding forgotten_at
returns-else-not-does_stay c =
    yes _ _ (branched _ _ _ (c.does_stay.ensures ∙ ap (stays _ _) c.index_at.ensures.0) c.if-not-does_stay.false) refl
