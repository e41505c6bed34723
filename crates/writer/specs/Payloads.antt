-- What each payload is, for every sample that the writer does not refuse: it fits the size limit, and the unit reader reads it as
-- exactly the unit that was meant. Assumes nothing.
use Rattle.std.specs.Prelude.{ℕ, ◌≤◌, List}
use Rattle.std.proofs.Math.ListN.{length}
use Rattle.unit.specs.declared.Unit.{Unit}
use Rattle.unit.specs.Again.{Proper, bytes_of}

-- a unit that can be sent within M bytes
pub record Sent (M : ℕ) (x : Unit) (d : List ℕ) : Type 0 where
  pub proper : Proper x d
  pub size : length (bytes_of x d) ≤ M
