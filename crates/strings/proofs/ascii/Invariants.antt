-- `strings::ascii` meets its contract. The invariant: what was seen so far, and what is still ahead, decide. Assumes nothing.
use mathlib.Core.Path.{◌≡◌}
use lib.ListN.{drop}
use Rattle.text.specs.Runs.{ascii, seen}
use Rattle.strings.proofs.ascii.Given as goal

abbrev pub invariant-loop-byte : goal.invariant-loop-byte
invariant-loop-byte l = ascii l.s ≡ seen l.all (drop l.byte-index l.s)
