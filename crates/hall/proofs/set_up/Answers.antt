-- `hall::set_up` meets its contract. Assumes nothing.
use mathlib.Core.Path.{refl, ap, ◌∙◌}
use lib.ListN.{replicate}
use Rattle.paper.specs.Limits.{places_most, rows_most, marks_most, stores_most}
use Rattle.sample.specs.declared.Place.{Place}
use Rattle.memory.specs.Relay.{tables, Prepared, set_up}
use Rattle.hall.proofs.set_up.Goals as goal

pub returns : goal.returns
returns c =
    let n = c.args.n in
    let e = c.set_up.ensures
    ∙ ap (λ (p : Place). set_up n (tables (replicate places_most p) (replicate rows_most 7) (replicate marks_most 9) (replicate stores_most 7)))
    c.closed.ensures in
    (ap (λ (m : Prepared). m.tables) e, refl)
