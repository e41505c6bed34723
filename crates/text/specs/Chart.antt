-- The chart of well-formed UTF-8 byte sequences, as the Unicode Standard has it (table 3-7), and how the length of a character is read off
-- it. The same for UTF-16. Assumes nothing.
use Rattle.std.specs.Prelude.{ℕ, ◌+◌, Bool, true, false, List, [], ◌∷◌, length}
use Rattle.laws.specs.Rows.{◌⇒◌⁏◌, ◌or◌, ◌and◌, ◌<?◌}
use Rattle.octets.specs.Be.{u8_at, u16_at}
use Rattle.text.specs.declared.Range.{Range}
use Rattle.text.specs.declared.Row.{Row}

infix 20 ◌to◌
-- from a to b, both among them
abbrev pub ◌to◌ : (a b : ℕ) → Range
a to b = record { 0 = a; 1 = b }

-- a row: the lead bytes, the second bytes, and how many bytes in all
abbrev pub row : (lead second : Range) (size : ℕ) → Row
row lead second size = record { 0 = lead; 1 = second; 2 = size }

-- the chart; third and fourth bytes are 80 to BF. In the first row nothing stands behind the lead byte
unfoldable pub chart : List Row
chart =
    row (0x00 to 0x7F) (0x00 to 0x00) 1
    ∷ row (0xC2 to 0xDF) (0x80 to 0xBF) 2
    ∷ row (0xE0 to 0xE0) (0xA0 to 0xBF) 3
    ∷ row (0xE1 to 0xEC) (0x80 to 0xBF) 3
    ∷ row (0xED to 0xED) (0x80 to 0x9F) 3
    ∷ row (0xEE to 0xEF) (0x80 to 0xBF) 3
    ∷ row (0xF0 to 0xF0) (0x90 to 0xBF) 4
    ∷ row (0xF1 to 0xF3) (0x80 to 0xBF) 4
    ∷ row (0xF4 to 0xF4) (0x80 to 0x8F) 4
    ∷ []

unfoldable pub within : Range → ℕ → Bool
within r b = b <? r.0 ⇒ false ⁏ r.1 <? b ⇒ false ⁏ true

-- whether all of a row's bytes are there, and those behind the lead byte are as it says
unfoldable pub follows : Row → List ℕ → Bool
follows r s =
    length s <? r.2 ⇒ false
    ⁏ (r.2 <? 2 or within r.1 (u8_at s 1))
    and (r.2 <? 3 or within (0x80 to 0xBF) (u8_at s 2))
    and (r.2 <? 4 or within (0x80 to 0xBF) (u8_at s 3))

-- the length by a chart: the lead byte tells the row; 0 where there is none, or where what follows is not as it says
unfoldable pub charted : List Row → List ℕ → ℕ
charted [] s = 0
charted (r ∷ rs) s = within r.0 (u8_at s 0) ⇒ (follows r s ⇒ r.2 ⁏ 0) ⁏ charted rs s

-- ---- UTF-16

-- the unit of 16 bits at i; where no two bytes stand there, 10000, which is none
unfoldable pub unit_at : List ℕ → (i : ℕ) → ℕ
unit_at s i = i + 1 <? length s and u8_at s (i + 1) <? 0x100 ⇒ u16_at s i ⁏ 0x10000

-- a lone unit, or one of D800 to DBFF followed by one of DC00 to DFFF
unfoldable pub paired : List ℕ → ℕ
paired s =
    within (0x0000 to 0xD7FF) (unit_at s 0) or within (0xE000 to 0xFFFF) (unit_at s 0) ⇒ 2
    ⁏ within (0xD800 to 0xDBFF) (unit_at s 0) and within (0xDC00 to 0xDFFF) (unit_at s 2) ⇒ 4
    ⁏ 0
