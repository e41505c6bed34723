-- The boundary: the longest run of whole characters within a limit. Assumes nothing.
use Rattle.std.specs.Prelude.{ℕ, ◌≤◌, List, length, take}
use Rattle.text.specs.Unicode.{WellFormed}

-- the first e bytes are whole characters, within the limit
pub record Reached (U : ℕ) (s : List ℕ) (limit e : ℕ) : Type 0 where
  pub within : e ≤ limit
  pub there : e ≤ length s
  pub whole : WellFormed U (take e s)
