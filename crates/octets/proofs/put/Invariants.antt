-- `octets::put` meets its contract. The invariant: to store what is left is to store all. Assumes nothing.
use Rattle.std.proofs.Common.{◌≡◌, ◌+◌, length, drop}
use Rattle.std.proofs.lemmas.List.Edits.{sets}
use Rattle.octets.proofs.put.Given as goal

abbrev pub invariant-loop-i : goal.invariant-loop-i
invariant-loop-i l = (length l.dst ≡ length l.fn.dst) × (sets l.fn.dst l.from l.fits ≡ sets l.dst (l.from + l.i) (drop l.i l.fits))
