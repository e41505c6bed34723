-- `finder::unit` meets its contract: two bytes stand there, or not. Assumes nothing.
use Prim.Native.Nat.{◌+◌}
use native.Mathlib.Omega.{arith}
use mathlib.Core.Path.{sym}
use Rattle.text.proofs.Sixteen.{unit-is, unit-none}
use Rattle.finder.proofs.unit.Goals as goal

pub returns-then-saturating_sub-lt2 : goal.returns-then-saturating_sub-lt2
returns-then-saturating_sub-lt2 c = unit-none _ _ (omega arith)

pub returns : goal.returns
returns c =
    let a = c.args in
    let bytes = c.shared_slice_known-1.given in
    sym (unit-is _ a.i _ (omega arith) (omega (arith, bytes (a.i + 1))) (sym c.number.ensures.0))
