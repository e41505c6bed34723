-- `finds::is_of` meets its contract: whichever test is made first, all three decide. Assumes nothing.
use Rattle.std.proofs.Common.{◌≡◌, ◌∙◌, sym, Bool, true, false, true≢false}
use Rattle.laws.specs.Rows.{◌⇒◌⁏◌, ◌and◌, ◌=?◌, no}
use Rattle.table.proofs.Facts.{fails}
use Rattle.finds.proofs.is_of.Goals.{then-bears, else-bears}
use Rattle.finds.proofs.is_of.Goals as goal

-- the last of three tests holds
holds : (a b c : Bool) → a ≡ true → c ≡ true → b ≡ (a and b and c)
unfolding ◌⇒◌⁏◌
holds true true c e h = sym h
holds true false c e h = cc
holds false b c e h = cc

pub returns-then-p : goal.returns-then-p
unfolding ◌=?◌
returns-then-p c =
    elim c.if-bears.branch [
      | then-bears w ↦ holds _ _ _ (sym w.value-is ∙ c.if-p.true) (sym c.bears.ensures ∙ w.if-bears.true)
      | else-bears w ↦ absurd (true≢false (sym c.if-p.true ∙ w.value-is ∙ w.if-bears.false))
    ]

pub returns-else-p : goal.returns-else-p
returns-else-p c =
    elim c.if-bears.branch [
      | then-bears w ↦ no _ _ (sym w.value-is ∙ c.if-p.false) c.if-p.false
      | else-bears w ↦ c.if-p.false ∙ fails _ _ _ (sym c.bears.ensures ∙ w.if-bears.false)
    ]
