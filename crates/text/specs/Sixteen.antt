-- UTF-16: the rule of units and the encodings of the scalar values are one rule, for every list. Assumes nothing.
use Rattle.std.specs.Prelude.{ℕ, ◌+◌, ◌*◌, ◌<◌, ◌≡◌, List, length}
use Rattle.octets.specs.Be.{u8_at}

-- a unit that is there has two bytes
pub record Unit (s : List ℕ) (i n : ℕ) : Type 0 where
  pub there : i + 1 < length s
  pub high : u8_at s i < 0x100
  pub low : u8_at s (i + 1) < 0x100
  pub value : n ≡ u8_at s i * 256 + u8_at s (i + 1)

-- ---- what the rule finds is the encoding of a scalar value in front

-- ---- and the encoding of a scalar value in front is found
