-- `slots::forget` meets its contract. The invariant: to forget what is left is to forget all. Assumes nothing.
use Rattle.std.specs.Prelude.{◌-◌, ◌≡◌}
use Rattle.paper.specs.Limits.{window}
use Rattle.style.specs.Store.{forgotten_from}
use Rattle.slots.proofs.forget.Given as goal

abbrev pub invariant-loop-i : goal.invariant-loop-i
invariant-loop-i l = forgotten_from l.newest l.new l.fn.store 0 window ≡ forgotten_from l.newest l.new l.store l.i (window - l.i)
