-- What only the proof needs: the number that bytes hold, the numbers of a row of the chart, and the test that the chart passes. None of it
-- stands in a promise, and none has to be believed. Assumes nothing.
use Rattle.std.specs.Prelude.{ℕ, suc, ◌+◌, ◌-◌, ◌*◌, Bool, List, [], ◌∷◌}
use Rattle.laws.specs.Rows.{◌⇒◌⁏◌, ◌or◌, ◌and◌, ◌<?◌, ◌=?◌}
use Rattle.text.specs.declared.Range.{Range}
use Rattle.text.specs.declared.Row.{Row}
use Rattle.text.specs.Chart.{◌to◌, within}

-- six bits more, from a byte 80 to BF
unfoldable pub more : (c b : ℕ) → ℕ
more c b = c * 0x40 + (b - 0x80)

-- the number that n bytes of UTF-8 hold, a the lead byte
unfoldable pub number : (n a b c d : ℕ) → ℕ
number n a b c d =
    n =? 1 ⇒ a
    ⁏ n =? 2 ⇒ more (a - 0xC0) b
    ⁏ n =? 3 ⇒ more (more (a - 0xE0) b) c
    ⁏ more (more (more (a - 0xF0) b) c) d

-- the least number of a row, and the greatest
unfoldable pub first : Row → ℕ
first r = number r.2 r.0.0 r.1.0 0x80 0x80

unfoldable pub last : Row → ℕ
last r = number r.2 r.0.1 r.1.1 0xBF 0xBF

-- ---- the test

-- a row's lead and second bytes lie where encodings of its length have theirs; and it has one lead byte or all second bytes, so that no
-- number between its first and its last is missing
unfoldable pub ranged : Range → Row → Bool
ranged lead r =
    within lead r.0.0
    and within lead r.0.1
    and within (0x80 to 0xBF) r.1.0
    and within (0x80 to 0xBF) r.1.1
    and (r.0.0 =? r.0.1 or r.1.0 =? 0x80 and r.1.1 =? 0xBF)

-- and its numbers take as many bytes and are scalar values
unfoldable pub fair : Row → Bool
fair r =
    r.2 =? 1 ⇒ r.0.1 <? 0x80
    ⁏ r.2 =? 2 ⇒ ranged (0xC0 to 0xDF) r and 0x7F <? first r
    ⁏ r.2 =? 3 ⇒ ranged (0xE0 to 0xEF) r and 0x7FF <? first r and (last r <? 0xD800 or 0xDFFF <? first r)
    ⁏ r.2 =? 4 and ranged (0xF0 to 0xF7) r and 0xFFFF <? first r and last r <? 0x110000

-- the scalar value that comes next
unfoldable pub next : ℕ → ℕ
next c = c =? 0xD7FF ⇒ 0xE000 ⁏ suc c

-- row behind row, the lead bytes rise from `lead` on and the numbers are the scalar values from `from` on, all of them
unfoldable pub climbs : (lead from : ℕ) → List Row → Bool
climbs lead from [] = from =? 0x110000
climbs lead from (r ∷ rs) =
    fair r
    and first r =? from
    and within (lead to r.0.1) r.0.0
    and climbs (suc r.0.1) (next (last r)) rs

-- ---- the numbers of the rows, as the chart itself has them in its first column

unfoldable pub numbers : List Row → List Range
numbers [] = []
numbers (r ∷ rs) = (first r to last r) ∷ numbers rs
