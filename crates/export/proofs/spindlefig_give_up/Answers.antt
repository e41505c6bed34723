-- `export::spindlefig_give_up` meets its contract: all that is lent is handed on. Assumes nothing.
use Rattle.std.proofs.Common.{ap, ◌∙◌}
use Rattle.paper.specs.declared.Name.{Name}
use Rattle.memory.specs.Relay.{tables, given_up_at}
use Rattle.export.specs.Export.{numbered, released_as}
use Rattle.export.proofs.spindlefig_give_up.Goals as goal

pub returns : goal.returns
returns c = λ stores.
    ap (numbered _) c.number_of_result.ensures.given_up
    ∙ ap released_as (c.give_up-g.ensures stores)
    ∙ ap (λ (who : Name). released_as (given_up_at (tables c.args.places.now c.args.rows.now c.args.marks.now stores) who))
    c.name_of-who.ensures
