-- `export::spindlefig_receive` meets its contract: all that is lent is handed on. Assumes nothing.
use Rattle.std.proofs.Common.{ap, ◌∙◌}
use Rattle.paper.specs.declared.Sender.{Sender}
use Rattle.memory.specs.Relay.{tables, Done, received_at}
use Rattle.export.specs.Export.{done_as}
use Rattle.export.proofs.spindlefig_receive.Goals as goal

pub returns : goal.returns
returns c =
    let a = c.args in
    rw (c.put_answer.ensures.0, c.put_answer.ensures.1)
    (ap (λ (d : Done). done_as d a.row.now) c.receive-a.ensures
    ∙ ap (λ (who : Sender). done_as (received_at (tables a.places.now a.rows.now a.marks.now a.stores.now) who a.rest.now a.out.now) a.row.now)
    c.sent_by-who.ensures)
