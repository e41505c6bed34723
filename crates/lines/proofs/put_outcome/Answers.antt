-- `lines::put_outcome` meets its contract, outcome by outcome. Assumes nothing.
use Rattle.lines.specs.Line.{outcome_text}
use Rattle.lines.proofs.put_outcome.Goals as goal

pub returns-in-Refused : goal.returns-in-Refused
unfolding outcome_text
returns-in-Refused c = rw (c.in-Refused.is, ← c.from.ensures) c.put_count-in-Refused.ensures
