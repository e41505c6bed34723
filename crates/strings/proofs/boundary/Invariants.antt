-- `strings::boundary` meets its contract. The invariant: to go on from here is to go from the start. Assumes nothing.
use Prim.Native.Nat.{◌+◌, ◌-◌}
use mathlib.Core.Path.{◌≡◌}
use lib.ListN.{drop}
use Rattle.text.specs.Unicode.{reach, boundary}
use Rattle.strings.proofs.boundary.Given as goal

abbrev pub invariant-loop-e : goal.invariant-loop-e
invariant-loop-e l = boundary l.u l.s l.at l.limit ≡ l.e + reach l.u (drop l.e l.s) (l.limit - l.e)

abbrev pub decreases-loop-e : goal.decreases-loop-e
decreases-loop-e l = l.limit - l.e
