-- `numbers::put_all`: to store what is left is to store all. Assumes nothing.
use Rattle.std.proofs.Common.{◌≡◌, ◌+◌, drop}
use Rattle.std.proofs.lemmas.List.Edits.{sets}
use Rattle.numbers.proofs.put_all.Given as goal

abbrev pub invariant-loop-k : goal.invariant-loop-k
invariant-loop-k l = sets l.initial.row l.at l.values ≡ sets l.row (l.at + l.k) (drop l.k l.values)
