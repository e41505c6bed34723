-- `strings::walked` meets its contract. The invariant: to go on from here is to go from the start. Assumes nothing.
use Prim.Native.Nat.{◌-◌, ◌≤◌}
use mathlib.Core.Path.{◌≡◌}
use Rattle.text.specs.Unicode.{boundary}
use Rattle.text.specs.Runs.{over, walked_to}
use Rattle.strings.proofs.walked.Given as goal

abbrev pub invariant-loop-i : goal.invariant-loop-i
invariant-loop-i l = (l.at ≤ l.i) × (walked_to l.u l.s l.at l.to ≡ over l.u l.s l.at l.to (boundary l.u l.s l.i l.to))

abbrev pub decreases-loop-i : goal.decreases-loop-i
decreases-loop-i l = l.to - l.i
