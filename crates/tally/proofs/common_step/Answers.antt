-- `tally::common_step` meets its contract. Assumes nothing.
use Rattle.std.proofs.Common.{ℕ, ◌+◌, ◌≡◌, refl, sym, ap, ◌∙◌, Bool, true, false, not}
use Rattle.laws.specs.Rows.{◌<?◌, yes, no, lt, ge}
use Rattle.laws.specs.Table.{bit}
use Rattle.paper.specs.Limits.{own_places}
use Rattle.memory.specs.Relay.{common_stepped}
use Rattle.tally.proofs.common_step.Goals as goal

-- with this one
with-this : (is : Bool) (opens r : ℕ) → r ≡ opens + bit is → opens + bit (not (not is)) ≡ r
with-this true opens r e = sym e
with-this false opens r e = sym e

pub returns-then-with_it-gt-OWN_PLACES : goal.returns-then-with_it-gt-OWN_PLACES
unfolding common_stepped
returns-then-with_it-gt-OWN_PLACES c =
    let a = c.args in
    let w = with-this a.is a.opens _ c.with_it.ensures in
    yes _ _ (ap (λ (k : ℕ). own_places <? k) w ∙ lt _ _ c.if-with_it-gt-OWN_PLACES.true) c.step.ensures

pub returns-else-with_it-gt-OWN_PLACES : goal.returns-else-with_it-gt-OWN_PLACES
unfolding common_stepped
returns-else-with_it-gt-OWN_PLACES c =
    let a = c.args in
    let w = with-this a.is a.opens _ c.with_it.ensures in
    no _ _ (ap (λ (k : ℕ). own_places <? k) w ∙ ge _ _ c.if-with_it-gt-OWN_PLACES.false) refl
