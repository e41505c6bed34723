-- `counts::count` meets its contract. The invariant: of the first m places those that were passed are counted. Assumes nothing.
use Rattle.std.proofs.Common.{◌≡◌, take}
use Rattle.laws.specs.Table.{count}
use Rattle.table.specs.Table.{bears}
use Rattle.table.proofs.Facts.{Passed}
use Rattle.counts.proofs.count.Given as goal

abbrev pub invariant-loop-p : goal.invariant-loop-p
invariant-loop-p l = (l.p-items ≡ take l.m l.t) × Passed (count (bears l.who)) l.p-items l.p-index l.c
