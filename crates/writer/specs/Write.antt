-- What the writer answers and what it leaves in the output: document 01, 'Writing and boxes' and refusals 12 to 14.
-- Assumes nothing.
use Rattle.writer.specs.Written.{packed}
use Rattle.std.specs.Prelude.{ℕ, ◌+◌, ◌-◌, Bool, not, List, [], ◌∷◌, ◌++◌, length, get_or, Err, Ok}
use Rattle.std.proofs.lemmas.List.Edits.{sets}
use Rattle.laws.specs.Rows.{◌⇒◌⁏◌, ◌or◌, ◌and◌, ◌<?◌, ◌=?◌}
use Rattle.paper.specs.Limits.{sample_most, description_most, parts_most, in_band, reserved, size_least, size_most, durations}
use Rattle.paper.specs.Words.{number_of}
use Rattle.paper.specs.declared.Refusal.TheVariants as R
use Rattle.text.specs.Unicode.{well_formed}
use Rattle.unit.specs.declared.Unit.{Unit}
use Rattle.unit.specs.declared.Unit.TheVariants.{Part}
use Rattle.unit.specs.Layout.{whole, string_part, modifiers_part, description}
use Rattle.unit.specs.Again.{bytes_of}
use Rattle.joining.specs.Joining.{Piece, piece}
use Rattle.writer.specs.Cut.{pieces}
use Rattle.writer.specs.Written.{Written}

-- ---- the answer: its number, 0 for a payload, and the values that go with it, length and how many payloads there are
abbrev pub written_number : Written → ℕ
written_number (Ok p) = 0
written_number (Err r) = number_of r

abbrev pub written_values : Written → List ℕ
written_values (Ok p) = p.len ∷ p.count ∷ []
written_values (Err r) = []

-- what is to be sent
pub record Caption : Type 0 where
  pub U : ℕ
  pub SIDX : ℕ
  pub SDUR : ℕ
  pub string : List ℕ
  pub modifiers : List ℕ

abbrev pub caption : (U SIDX SDUR : ℕ) (string modifiers : List ℕ) → Caption
caption U SIDX SDUR s m = record { U = U; SIDX = SIDX; SDUR = SDUR; string = s; modifiers = m }

abbrev pub sample : Caption → List ℕ
sample c = c.string ++ c.modifiers

-- ---- the payloads of a sample, for the size limit M

-- the sample plus 9 does not fit M, so that it is cut
unfoldable pub long : Caption → (M : ℕ) → Bool
long c M = M <? length (sample c) + 9

abbrev pub parts : Caption → (M : ℕ) → List Piece
parts c M = pieces c.U M c.string c.modifiers

-- how many payloads there are
unfoldable pub count : Caption → (M : ℕ) → ℕ
count c M = long c M ⇒ length (parts c M) ⁏ 1

-- a part's unit: TOTAL is the number of parts, THIS counts them from 1, SLEN is the whole sample's length
unfoldable pub part_unit : Caption → (TOTAL THIS : ℕ) → Piece → Unit
part_unit c TOTAL THIS p =
    p.kind =? 2 ⇒ Part (string_part c.U TOTAL THIS c.SDUR c.SIDX (length (sample c)) (length p.bytes))
    ⁏ Part (modifiers_part p.kind TOTAL THIS c.SDUR (length p.bytes))

abbrev pub whole_unit : Caption → Unit
whole_unit c = whole c.U c.SIDX c.SDUR (length c.string) (length (sample c))

-- the unit of payload number k, and its data
unfoldable pub payload_data : Caption → (M k : ℕ) → List ℕ
payload_data c M k = long c M ⇒ (get_or (parts c M) (k - 1) (piece 2 [])).bytes ⁏ sample c

unfoldable pub payload_unit : Caption → (M k : ℕ) → Unit
payload_unit c M k = long c M ⇒ part_unit c (count c M) k (get_or (parts c M) (k - 1) (piece 2 [])) ⁏ whole_unit c

abbrev pub payload : Caption → (M k : ℕ) → List ℕ
payload c M k = bytes_of (payload_unit c M k) (payload_data c M k)

-- ---- the refusals

-- a size limit that is not 14 to 1,400, or an output of `room` bytes that is shorter
unfoldable pub unsized : (M room : ℕ) → Bool
unsized M room = M <? size_least or size_most <? M or room <? M

-- U is 0 or 1
unfoldable pub ill_formed : (U : ℕ) → List ℕ → Bool
ill_formed U s = 1 <? U or not (well_formed U s)

-- refusal 12
unfoldable pub unwritable : Caption → (M room : ℕ) → Bool
unwritable c M room =
    ill_formed c.U c.string or reserved - 1 <? c.SIDX or durations - 1 <? c.SDUR or sample_most <? length (sample c) or unsized M room

-- refusal 13: no string to cut, or over 15 parts
unfoldable pub uncut : Caption → (M : ℕ) → Bool
uncut c M = long c M and (length c.string =? 0 or parts_most <? count c M)

-- ---- the answers in their order, each with the output after the call
pub record After : Type 0 where
  pub answer : Written
  pub out : List ℕ

abbrev pub after : Written → List ℕ → After
after r out = record { answer = r; out = out }

unfoldable pub written : Caption → (M k : ℕ) → List ℕ → After
written c M k out =
    unwritable c M (length out) ⇒ after (Err R.Writer) out
    ⁏ uncut c M ⇒ after (Err R.Parts) out
    ⁏ k =? 0 ⇒ after (Err R.Payload) out
    ⁏ count c M <? k ⇒ after (Err R.Payload) out
    ⁏ after (packed (length (payload c M k)) (count c M)) (sets out 0 (payload c M k))

-- ---- a description d of n bytes is one TYPE 5 payload
unfoldable pub undescribed : (SIDX n M room : ℕ) → Bool
undescribed SIDX n M room = in_band - 1 <? SIDX or n =? 0 or description_most <? n or unsized M room

unfoldable pub described : (SIDX : ℕ) (d : List ℕ) (M k : ℕ) → List ℕ → After
described SIDX d M k out =
    undescribed SIDX (length d) M (length out) ⇒ after (Err R.Writer) out
    ⁏ M <? length d + 4 ⇒ after (Err R.Parts) out
    ⁏ k =? 1 ⇒ after (packed (length d + 4) 1) (sets out 0 (bytes_of (description SIDX (length d)) d))
    ⁏ after (Err R.Payload) out
