-- A description unit that is put down. Assumes nothing.
use Rattle.std.specs.Prelude.{ℕ, ◌≤◌, ◌≡◌, false, List, length}
use Rattle.paper.specs.Limits.{description_most}
use Rattle.style.specs.Store.{held, repeated, improper}

-- no ground to refuse it, and its value is not held
pub record New (store : List ℕ) (newest sidx : ℕ) (d : List ℕ) : Type 0 where
  pub proper : improper sidx d ≡ false
  pub few : length d ≤ description_most
  pub other : repeated store newest sidx d ≡ false
  pub free : held store newest sidx ≡ false
