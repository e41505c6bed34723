-- What only the proof needs: the number that bytes hold, the numbers of a row of the chart, and the test that the chart passes. None of it
-- stands in a promise, and none has to be believed. Assumes nothing.
use Rattle.std.specs.Prelude.{◌≡◌, refl, true, [], ◌∷◌}
use Rattle.laws.specs.Rows.{◌⇒◌⁏◌, ◌<?◌, ◌=?◌}
use Rattle.text.specs.Chart.{◌to◌, chart, within}
use Rattle.text.specs.Numbers.{more, number, first, last, ranged, fair, next, climbs, numbers}

-- the chart passes
pub chart-climbs : climbs 0 0 chart ≡ true
unfolding climbs chart fair ranged first last number more next within ◌⇒◌⁏◌ ◌<?◌ ◌=?◌
chart-climbs = refl

pub first-column : numbers chart
    ≡ (0x0 to 0x7F)
    ∷ (0x80 to 0x7FF)
    ∷ (0x800 to 0xFFF)
    ∷ (0x1000 to 0xCFFF)
    ∷ (0xD000 to 0xD7FF)
    ∷ (0xE000 to 0xFFFF)
    ∷ (0x10000 to 0x3FFFF)
    ∷ (0x40000 to 0xFFFFF)
    ∷ (0x100000 to 0x10FFFF)
    ∷ []
unfolding numbers chart first last number more ◌⇒◌⁏◌ ◌=?◌
first-column = refl
