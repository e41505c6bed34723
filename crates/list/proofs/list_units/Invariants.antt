-- `list::list_units`: to write what is left is to write all. The measure is how much of the input is left. Assumes nothing.
use Rattle.std.specs.Prelude.{Some}
use Rattle.std.proofs.Common.{◌-◌, length}
use Rattle.memory.specs.Relay.{tables}
use Rattle.lines.specs.Typed.{typed}
use Rattle.list.specs.Listed.{lines_from}
use Rattle.list.specs.Runs.{Listing}
use Rattle.list.proofs.list_units.Given as goal

abbrev pub invariant-loop-at : goal.invariant-loop-at
invariant-loop-at l =
    Listing
    (typed l.fn.text 0 (lines_from (length l.input) (tables l.fn.fresh l.fn.rows l.fn.marks l.fn.stores) (Some 0) 0 l.input))
    l.input l.text (tables l.places l.rows l.marks l.stores) l.time l.at l.next

abbrev pub decreases-loop-at : goal.decreases-loop-at
decreases-loop-at l = length l.input - l.at
