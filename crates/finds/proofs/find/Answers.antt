-- `finds::find` meets its contract. Assumes nothing.
use Rattle.std.proofs.Common.{ℕ, ap, ◌∙◌, rules, tests, take}
use Rattle.std.proofs.lemmas.Iterator.{YieldsList-from_slice}
use Rattle.std.proofs.lemmas.Iterator.Search.{position_from_yields_List}
use Rattle.laws.specs.Region.{take_min}
use Rattle.memory.specs.Table.{is_at}
use Rattle.table.specs.Table.{place_where}
use Rattle.finds.proofs.Found.{place-is}
use Rattle.finds.proofs.find.Goals as goal

pub returns : goal.returns
returns c =
    let l = c.args.t.now in
    let p = is_at c.args.who.desk c.args.who.time in
    position_from_yields_List p _ _ c.position.result c.position.ensures.ran (YieldsList-from_slice (take c.min.result l) cc)
    (λ x b q k. search (rules, tests))
    ∙ place-is p (take c.min.result l) ∙ ap (λ (k : ℕ). place_where p (take k l)) c.min.ensures ∙ ap (place_where p) (take_min l c.args.m)
