-- `finds::lowest` meets its contract. Assumes nothing.
use Rattle.std.proofs.Common.{ℕ, ap, ◌∙◌, rules, tests, take}
use Rattle.std.proofs.lemmas.Iterator.{YieldsList-from_slice}
use Rattle.std.proofs.lemmas.Iterator.Search.{position_from_yields_List}
use Rattle.laws.specs.Region.{take_min}
use Rattle.memory.specs.Table.{vacant}
use Rattle.table.specs.Table.{place_where}
use Rattle.finds.proofs.Found.{place-is}
use Rattle.finds.proofs.lowest.Goals as goal

pub returns : goal.returns
returns c =
    let l = c.args.t.now in
    position_from_yields_List vacant _ _ c.position.result c.position.ensures.ran (YieldsList-from_slice (take c.min.result l) cc)
    (λ x b q k. search (rules, tests))
    ∙ place-is vacant (take c.min.result l) ∙ ap (λ (k : ℕ). place_where vacant (take k l)) c.min.ensures
    ∙ ap (place_where vacant) (take_min l c.args.m)
