-- `fresh::put_own` meets its contract. The invariant: to make what is left is to make all. Assumes nothing.
use Rattle.std.proofs.Common.{◌≡◌, ◌+◌, ◌-◌, ◌*◌}
use Rattle.std.proofs.lemmas.List.Edits.{sets}
use Rattle.paper.specs.Limits.{head_size, marks_each}
use Rattle.memory.specs.Relay.{own_marks}
use Rattle.fresh.proofs.put_own.Given as goal

abbrev pub invariant-loop-i : goal.invariant-loop-i
invariant-loop-i l = sets l.fn.marks head_size (own_marks l.n) ≡ sets l.marks (head_size + marks_each * l.i) (own_marks (l.n - l.i))
