-- `tally::step` meets its contract. Assumes nothing.
use Rattle.std.proofs.Common.{ℕ, ◌+◌, ◌-◌, ◌^◌, ◌<◌, min, arith, ◌≡◌, sym, ap, ◌∙◌, Bool, true, false, not}
use Rattle.laws.specs.Rows.{◌⇒◌⁏◌, ◌<?◌, each, lt_of, ge-of}
use Rattle.paper.specs.Limits.{mark_most}
use Rattle.memory.specs.Relay.{stepped}
use Rattle.memory.proofs.Counted.{stepped_down}
use Rattle.tally.proofs.step.Goals as goal

-- what is said of a place that is so is said of this one
so : (is b : Bool) (k r : ℕ) → is ≡ b → r ≡ stepped (not b) b k → r ≡ stepped (not is) is k
so is b k r e h = h ∙ sym (ap (λ (c : Bool). stepped (not c) c k) e)

up : (k r : ℕ) → k < 2 ^ 32 → r ≡ min (k + 1) (2 ^ 32 - 1) → r ≡ stepped false true k
unfolding stepped ◌⇒◌⁏◌
up k r h e =
    each (λ (j : ℕ). r ≡ j) (k <? mark_most) (k + 1) k (λ f. omega (arith, lt_of k mark_most f)) (λ f. omega (arith, ge-of k mark_most f))

pub returns-then-is : goal.returns-then-is
returns-then-is c = so _ _ _ _ c.if-is.true (up _ _ (omega arith) c.saturating_add.ensures)

pub returns-else-is : goal.returns-else-is
returns-else-is c = so _ _ _ _ c.if-is.false (c.saturating_sub.ensures ∙ sym (stepped_down _))
