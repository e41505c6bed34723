-- `finished::is_late` meets its contract. The invariant: a hit so far, or what is still ahead, decides. Assumes nothing.
use Rattle.std.proofs.Common.{◌≡◌, drop}
use Rattle.laws.specs.Rows.{◌or◌}
use Rattle.finished.specs.Times.{among}
use Rattle.finished.proofs.is_late.Given as goal

abbrev pub invariant-loop-x : goal.invariant-loop-x
invariant-loop-x l = among l.times l.time ≡ (l.hit or among (drop l.x-index l.times) l.time)
