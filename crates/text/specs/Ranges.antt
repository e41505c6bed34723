-- What the chart's words say: a number within a range, and the bytes behind a row's lead. Assumes nothing.
use Rattle.std.specs.Prelude.{ℕ, ◌≤◌, List, length}
use Rattle.octets.specs.Be.{u8_at}
use Rattle.text.specs.declared.Range.{Range}
use Rattle.text.specs.declared.Row.{Row}
use Rattle.text.specs.Chart.{◌to◌}

-- a number within a range
abbrev pub In : Range → ℕ → Type 0
In r b = (r.0 ≤ b) × (b ≤ r.1)

-- the bytes behind a row's lead: as many as it says, each in its range
pub record Follows (r : Row) (s : List ℕ) : Type 0 where
  pub long : r.2 ≤ length s
  pub second : 2 ≤ r.2 → In r.1 (u8_at s 1)
  pub third : 3 ≤ r.2 → In (0x80 to 0xBF) (u8_at s 2)
  pub fourth : 4 ≤ r.2 → In (0x80 to 0xBF) (u8_at s 3)
