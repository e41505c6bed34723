-- `gate::lacks_three` meets its contract: places, rows, marks. Assumes nothing.
use Rattle.std.proofs.Common.{refl, sym, ◌∙◌, true≢false}
use Rattle.laws.specs.Rows.{◌<?◌, yes, no, lt, ge}
use Rattle.memory.specs.Relay.{short}
use Rattle.gate.proofs.lacks_three.Goals.{then-places-n, else-places-n}
use Rattle.gate.proofs.lacks_three.Goals as goal

pub returns-then-rows-n : goal.returns-then-rows-n
unfolding short ◌<?◌
returns-then-rows-n c =
    elim c.if-places-n.branch [
      | then-places-n w ↦ yes _ _ (lt _ _ w.if-places-n.true) c.if-rows-n.true
      | else-places-n w ↦ no _ _ (ge _ _ w.if-places-n.false) (yes _ _ (sym w.value-is ∙ c.if-rows-n.true) c.if-rows-n.true)
    ]

pub returns-else-rows-n : goal.returns-else-rows-n
unfolding short ◌<?◌
returns-else-rows-n c =
    elim c.if-places-n.branch [
      | then-places-n w ↦ absurd (true≢false (sym (lt _ _ w.if-places-n.true) ∙ sym w.value-is ∙ c.if-rows-n.false))
      | else-places-n w ↦ no _ _ (ge _ _ w.if-places-n.false) (no _ _ (sym w.value-is ∙ c.if-rows-n.false) refl)
    ]
