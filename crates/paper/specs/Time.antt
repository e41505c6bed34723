-- The running time is known, with its number, or unknown. Assumes nothing.
use Rattle.std.specs.Prelude.{ℕ, Option}

abbrev pub Time : Type 0
Time = Option ℕ
