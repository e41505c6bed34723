-- `fresh::fill_front` meets its contract. The invariant: what was passed is filled. Assumes nothing.
use Rattle.std.proofs.Common.{◌≡◌, take}
use Rattle.std.proofs.Math.ListN.{replicate}
use Rattle.fresh.proofs.fill_front.Given as goal

abbrev pub invariant-loop-x : goal.invariant-loop-x
invariant-loop-x g l = take l.x-index l.x-items ≡ replicate l.x-index l.value
