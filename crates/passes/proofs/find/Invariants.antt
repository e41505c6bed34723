-- `passes::find` meets its contract. The invariant: to pass over what is left is to pass over all. Assumes nothing.
use Prim.Native.Nat.{◌-◌}
use lib.ListN.{length}
use Rattle.writer.specs.Find.{Passed}
use Rattle.passes.proofs.find.Given as goal

abbrev pub invariant-loop-e : goal.invariant-loop-e
invariant-loop-e l = Passed l.u l.k l.number l.s l.f l.e

abbrev pub decreases-loop-e : goal.decreases-loop-e
decreases-loop-e l = length l.s - l.e
