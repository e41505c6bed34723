-- Reading a unit: document 01's table of layouts, its limits of refusal 4, refusal 17 of a unit's text, and the order of answers.
-- Assumes nothing.
use Rattle.std.specs.Prelude.{ℕ, ◌+◌, ◌-◌, ◌/◌, ◌%◌, List, [], Bool, false, not, length, take}
use Rattle.laws.specs.Rows.{◌⇒◌⁏◌, ◌or◌, ◌<?◌, ◌=?◌}
use Rattle.laws.specs.Region.{part}
use Rattle.octets.specs.Be.{u8_at, u16_at, u24_at}
use Rattle.text.specs.Unicode.{well_formed}
use Rattle.paper.specs.Limits.{reserved, in_band}
use Rattle.paper.specs.declared.Refusal.TheVariants.{Frame, Fields, IllFormed}
use Rattle.unit.specs.declared.Whole as W
use Rattle.unit.specs.declared.Part as P
use Rattle.unit.specs.declared.Description as D
use Rattle.unit.specs.declared.Unit.{Unit}
use Rattle.unit.specs.declared.Unit.TheVariants.{End, Skipped, Refused, Whole, Part, Description}
use Rattle.unit.specs.declared.Reading.{Reading}

-- ---- a unit of each TYPE, by its numbers in the order of the table, with n bytes of data. In TYPE 3, 4 and 5 U is not read
abbrev pub whole : (U SIDX SDUR TLEN n : ℕ) → Unit
whole U SIDX SDUR TLEN n = Whole (record { u = U; sidx = SIDX; sdur = SDUR; tlen = TLEN; start = 9; len = n })

abbrev pub string_part : (U TOTAL THIS SDUR SIDX SLEN n : ℕ) → P.Part
string_part U TOTAL THIS SDUR SIDX SLEN n =
    record { kind = 2; total = TOTAL; this = THIS; sdur = SDUR; u = U; sidx = SIDX; slen = SLEN; start = 10; len = n }

abbrev pub modifiers_part : (TYPE TOTAL THIS SDUR n : ℕ) → P.Part
modifiers_part TYPE TOTAL THIS SDUR n =
    record { kind = TYPE; total = TOTAL; this = THIS; sdur = SDUR; u = 0; sidx = 0; slen = 0; start = 7; len = n }

abbrev pub description : (SIDX n : ℕ) → Unit
description SIDX n = Description (record { sidx = SIDX; start = 4; len = n })

-- ---- the table: where the fields stand and what of LEN is data. TOTAL is the high four bits of a byte, THIS
-- the low four
abbrev pub whole_at : List ℕ → (U LEN : ℕ) → Unit
whole_at s U LEN = whole U (u8_at s 3) (u24_at s 4) (u16_at s 7) (LEN - 8)

abbrev pub string_at : List ℕ → (U LEN : ℕ) → Unit
string_at s U LEN = Part (string_part U (u8_at s 3 / 16 % 16) (u8_at s 3 % 16) (u24_at s 4) (u8_at s 7) (u16_at s 8) (LEN - 9))

abbrev pub modifiers_at : List ℕ → (TYPE LEN : ℕ) → Unit
modifiers_at s TYPE LEN = Part (modifiers_part TYPE (u8_at s 3 / 16 % 16) (u8_at s 3 % 16) (u24_at s 4) (LEN - 6))

abbrev pub description_at : List ℕ → (LEN : ℕ) → Unit
description_at s LEN = description (u8_at s 3) (LEN - 3)

-- a TYPE that the table does not have is passed over
unfoldable pub fields_of : List ℕ → (U TYPE LEN : ℕ) → Unit
fields_of s U TYPE LEN =
    TYPE =? 1 ⇒ whole_at s U LEN
    ⁏ TYPE =? 2 ⇒ string_at s U LEN
    ⁏ TYPE =? 3 ⇒ modifiers_at s 3 LEN
    ⁏ TYPE =? 4 ⇒ modifiers_at s 4 LEN
    ⁏ TYPE =? 5 ⇒ description_at s LEN
    ⁏ Skipped TYPE

-- the least LEN of each
unfoldable pub least : ℕ → ℕ
least TYPE =
    TYPE =? 1 ⇒ 8
    ⁏ TYPE =? 2 ⇒ 10
    ⁏ TYPE =? 3 ⇒ 7
    ⁏ TYPE =? 4 ⇒ 7
    ⁏ TYPE =? 5 ⇒ 4
    ⁏ 0

-- ---- the limits of refusal 4, beside the least LEN
-- TLEN above the sample; SIDX 255
unfoldable pub bad_whole : W.Whole → Bool
bad_whole w = w.len <? w.tlen or w.sidx =? reserved

-- TOTAL or THIS 0, THIS above TOTAL; SIDX 255, which a TYPE 3 or 4 never has
unfoldable pub bad_part : P.Part → Bool
bad_part w = w.total =? 0 or w.this =? 0 or w.total <? w.this or w.sidx =? reserved

-- SIDX above 127
unfoldable pub bad_description : D.Description → Bool
bad_description w = in_band - 1 <? w.sidx

abbrev pub bad_fields : Unit → Bool
bad_fields End = false
bad_fields (Skipped t) = false
bad_fields (Refused r) = false
bad_fields (Whole w) = bad_whole w
bad_fields (Part w) = bad_part w
bad_fields (Description w) = bad_description w

-- ---- a unit's data in the rest that it was read from
abbrev pub data_of : List ℕ → Unit → List ℕ
data_of s End = []
data_of s (Skipped t) = []
data_of s (Refused r) = []
data_of s (Whole w) = part w.start w.len s
data_of s (Part w) = part w.start w.len s
data_of s (Description w) = part w.start w.len s

-- ---- refusal 17, of a unit's text
-- which of its data d are text: of TYPE 1 the first TLEN bytes, of TYPE 2 all; no other TYPE has text
abbrev pub text_of : Unit → (d : List ℕ) → List ℕ
text_of End d = []
text_of (Skipped t) d = []
text_of (Refused r) d = []
text_of (Whole w) d = take w.tlen d
text_of (Part w) d = w.kind =? 2 ⇒ d ⁏ []
text_of (Description w) d = []

-- its U, in which that has to be well-formed
abbrev pub encoding_of : Unit → ℕ
encoding_of End = 0
encoding_of (Skipped t) = 0
encoding_of (Refused r) = 0
encoding_of (Whole w) = w.u
encoding_of (Part w) = w.u
encoding_of (Description w) = 0

unfoldable pub ill_text : List ℕ → Unit → Bool
ill_text s x = not (well_formed (encoding_of x) (text_of x (data_of s x)))

-- ---- the order of answers
abbrev pub reading : ℕ → Unit → Reading
reading used x = record { used = used; unit = x }

-- refusal 3: a rest of 1 or 2 bytes, LEN below 2, or a unit longer than the rest. A unit is 1 + LEN bytes
unfoldable pub broken : List ℕ → Bool
broken s = length s <? 3 or u16_at s 1 <? 2 or length s <? 1 + u16_at s 1

-- x is what the table says of the unit
unfoldable pub judged : (TYPE LEN : ℕ) → Unit → Unit
judged TYPE LEN x =
    LEN <? least TYPE ⇒ Refused Fields
    ⁏ bad_fields x ⇒ Refused Fields
    ⁏ x

-- byte 0 is U in the top bit, four R bits that are not read, TYPE in the low three; LEN stands behind it
abbrev pub fields_at : List ℕ → Unit
fields_at s = fields_of s (u8_at s 0 / 128) (u8_at s 0 % 8) (u16_at s 1)

abbrev pub judged_of : List ℕ → Unit
judged_of s = judged (u8_at s 0 % 8) (u16_at s 1) (fields_at s)

-- x is what 4 left of the unit
unfoldable pub text_judged : List ℕ → Unit → Unit
text_judged s x =
    ill_text s x ⇒ Refused IllFormed
    ⁏ x

unfoldable pub read_of : List ℕ → Reading
read_of s =
    length s =? 0 ⇒ reading 0 End
    ⁏ broken s ⇒ reading (length s) (Refused Frame)
    ⁏ reading (1 + u16_at s 1) (text_judged s (judged_of s))
