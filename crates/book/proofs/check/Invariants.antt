-- `book::check` meets its contract. The invariant: to check what is left is to check all. Assumes nothing.
use Rattle.std.specs.Prelude.{◌-◌, ◌≡◌}
use Rattle.style.specs.Book.{check_from}
use Rattle.book.proofs.check.Given as goal

abbrev pub invariant-loop-i : goal.invariant-loop-i
invariant-loop-i l = check_from l.book 0 l.n ≡ check_from l.book l.i (l.n - l.i)
