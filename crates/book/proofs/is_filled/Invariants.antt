-- `book::is_filled` meets its contract. The invariant: what is left decides. Assumes nothing.
use Rattle.std.specs.Prelude.{◌≡◌, drop}
use Rattle.style.specs.Record.{filled}
use Rattle.book.proofs.is_filled.Given as goal

abbrev pub invariant-loop-i : goal.invariant-loop-i
invariant-loop-i l = filled l.s ≡ filled (drop l.i l.s)
