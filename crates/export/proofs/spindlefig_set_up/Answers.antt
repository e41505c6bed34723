-- `export::spindlefig_set_up` meets its contract: all that is lent is handed on. Assumes nothing.
use Rattle.std.proofs.Common.{ap, ◌∙◌}
use Rattle.export.specs.Export.{numbered, started_as}
use Rattle.export.proofs.spindlefig_set_up.Goals as goal

pub returns : goal.returns
returns c = ap (numbered _) c.number_of_result.ensures.started ∙ ap started_as c.set_up-s.ensures
