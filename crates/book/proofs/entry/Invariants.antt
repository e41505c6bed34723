-- `book::entry` meets its contract. The invariant: to look through what is left is to look through all. Assumes nothing.
use Rattle.std.specs.Prelude.{◌-◌, ◌≡◌}
use Rattle.style.specs.Book.{entry_from}
use Rattle.book.proofs.entry.Given as goal

abbrev pub invariant-loop-i : goal.invariant-loop-i
invariant-loop-i l = entry_from l.book l.index 0 l.n ≡ entry_from l.book l.index l.i (l.n - l.i)
