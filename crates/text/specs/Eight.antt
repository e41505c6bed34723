-- UTF-8: the chart's rule and the encodings of the scalar values are one rule, for every list. Assumes nothing.
use Rattle.std.specs.Prelude.{ℕ, suc, ◌+◌, ◌-◌, ◌/◌, ◌%◌, ◌≤◌, ◌≡◌, ◌⊎◌, true, length}
use mathlib.Core.List.{List, ◌++◌}
use Rattle.octets.specs.Be.{u8_at}
use Rattle.text.specs.declared.Row.{Row}
use Rattle.text.specs.Chart.{◌to◌}
use Rattle.text.specs.Unicode.{utf8}
use Rattle.text.specs.Front.{Front}
use Rattle.text.specs.Ranges.{In, Follows}
use Rattle.text.specs.Numbers.{more, first, last, next, climbs}

-- a row says: what fits it is the encoding of a scalar value; and the encodings of its numbers fit it
pub record Rule (r : Row) : Type 0 where
  pub sound : (s : List ℕ) → In r.0 (u8_at s 0) → Follows r s → Front utf8 s r.2
  pub fits : (c : ℕ) (rest : List ℕ) → first r ≤ c → c ≤ last r
      → In r.0 (u8_at (utf8 c ++ rest) 0) × (Follows r (utf8 c ++ rest) × (r.2 ≡ length (utf8 c)))

-- ---- six bits more, and back

-- ---- the encoding of a number, form by form: m is the number without its third and fourth byte

-- ---- the lead byte and the second one, where leads begin at l

-- what `ranged` says of a row
pub record Ranged (l r a b c d : ℕ) : Type 0 where
  pub lead-from : In (l to r) a
  pub lead-to : In (l to r) b
  pub second_from : In (0x80 to 0xBF) c
  pub second-to : In (0x80 to 0xBF) d
  pub full : (a ≡ b) ⊎ ((c ≡ 0x80) × (d ≡ 0xBF))

-- the number m of a lead byte x and a second byte y, from both
pub record Gathered (l r a b c d x y m : ℕ) : Type 0 where
  pub lead : l + m / 0x40 ≡ x
  pub second : 0x80 + m % 0x40 ≡ y
  pub from : more (a - l) c ≤ m
  pub upto : m ≤ more (b - l) d
  pub top : m / 0x40 ≤ r - l

-- ---- the rule at a row of each length

-- ---- the test says the rule at each row

-- ---- the rows one behind the other: what fits one of them is an encoding, and every encoding fits one of them

pub record Climbs (lead from : ℕ) (r : Row) (rs : List Row) : Type 0 where
  pub here : Rule r
  pub starts : first r ≡ from
  pub leads : In (lead to r.0.1) r.0.0
  pub on : climbs (suc r.0.1) (next (last r)) rs ≡ true
