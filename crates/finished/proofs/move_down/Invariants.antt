-- `finished::move_down` meets its contract. The invariant: the last k are as they shall be, the others as they were, and the number in hand
-- goes to the next place. Assumes nothing.
use Rattle.std.proofs.Common.{◌≡◌, ◌-◌, ◌<◌, length, drop, get_or}
use Rattle.std.proofs.lemmas.List.Edits.{sets}
use Rattle.finished.specs.Times.{down}
use Rattle.finished.proofs.move_down.Given as goal

abbrev pub invariant-loop-k : goal.invariant-loop-k
invariant-loop-k l =
    (length l.row ≡ length l.fn.row)
    × (l.row ≡ sets l.fn.row (l.n - l.k) (drop (l.n - l.k) (down l.fn.row l.time)))
    × (l.k < l.n → l.next ≡ get_or (down l.fn.row l.time) (l.n - 1 - l.k) 0)
