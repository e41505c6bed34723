-- `tally::change` meets its contract. Assumes nothing.
use Prim.Native.Nat.{ℕ, ◌+◌}
use mathlib.Core.Path.{ap, ap₂, ◌∙◌}
use mathlib.Core.Bool.{not}
use mathlib.Core.List.{List}
use lib.ListN.{set}
use Rattle.paper.specs.Limits.{opens_at, common_at}
use Rattle.memory.specs.Relay.{stepped, common_stepped}
use Rattle.tally.proofs.change.Goals as goal

pub returns : goal.returns
returns c =
    let a = c.args in
    c.put_word-2.ensures
    ∙ ap₂ (λ (l : List ℕ) (k : ℕ). set l common_at k)
    (c.put_word.ensures
    ∙ ap (set a.marks.now (opens_at + a.desk)) (c.step.ensures ∙ ap (stepped (not a.is) a.is) c.word-opens.ensures))
    (c.common_step.ensures ∙ ap₂ (common_stepped (not a.is) a.is) c.word-opens.ensures c.word-common.ensures)
