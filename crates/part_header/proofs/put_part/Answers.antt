-- `part_header::put_part` meets its contract: TYPE 2 has one header, TYPE 3 and 4 another. Assumes nothing.
use native.Mathlib.Omega.{arith}
use Rattle.unit.specs.Head.{string-head, modifiers-head}
use Rattle.part_header.proofs.put_part.Goals as goal

pub returns-then-w-eq2 : goal.returns-then-w-eq2
returns-then-w-eq2 c = rw (string-head c.args.w (omega arith)) c.put_string.ensures

pub returns : goal.returns
returns c = rw (modifiers-head c.args.w (λ h. omega arith)) c.put_modifiers.ensures
