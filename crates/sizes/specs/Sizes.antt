-- What a caller lends. Assumes nothing.
use Rattle.std.specs.Prelude.{ℕ}
use Rattle.laws.specs.Rows.{◌⇒◌⁏◌}
use Rattle.memory.specs.Relay.{improper}

-- the bytes of a place in memory
abbrev pub place_size : ℕ
place_size = 1472

-- what n desks need of a table; nothing where there is no relay for n desks
abbrev pub needed : (need : ℕ → ℕ) → (n : ℕ) → ℕ
needed need n = improper n ⇒ 0 ⁏ need n
