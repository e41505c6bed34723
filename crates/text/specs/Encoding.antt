-- The encodings form by form, how long one is, and what a scalar value is. Assumes nothing.
use Rattle.std.specs.Prelude.{ℕ, ◌≤◌, List, length}

abbrev pub Sized : List ℕ → Type 0
Sized x = (1 ≤ length x) × (length x ≤ 4)
