-- The bytes of a unit's header: the same table, written from left to right. A number that does not fit its field goes in by its
-- low bits. Assumes nothing.
use Rattle.std.specs.Prelude.{ℕ, ◌+◌, ◌*◌, ◌%◌, ◌≤◌, length, ◌≡◌, refl, List, [], ◌∷◌, ◌++◌}
use Rattle.std.proofs.Common.{arith, sym}
use Rattle.laws.specs.Rows.{◌⇒◌⁏◌, ◌=?◌, each, yes, no, eq, ne}
use Rattle.octets.specs.Be.{be16, be24}
use Rattle.unit.specs.declared.Whole as W
use Rattle.unit.specs.declared.Part as P
use Rattle.unit.specs.declared.Description as D
use Rattle.unit.specs.declared.Unit.{Unit}
use Rattle.unit.specs.declared.Unit.TheVariants.{End, Skipped, Refused, Whole, Part, Description}

-- U and TYPE in byte 0, R as 0; then LEN
abbrev pub front : (U TYPE LEN : ℕ) → List ℕ
front U TYPE LEN = (U % 2 * 128 + TYPE) ∷ be16 LEN

-- TOTAL and THIS in one byte
abbrev pub counts : (TOTAL THIS : ℕ) → ℕ
counts TOTAL THIS = TOTAL % 16 * 16 + THIS % 16

abbrev pub whole_head : W.Whole → List ℕ
whole_head w = front w.u 1 (w.len + 8) ++ w.sidx % 256 ∷ be24 w.sdur ++ be16 w.tlen

abbrev pub string_head : P.Part → List ℕ
string_head w = front w.u 2 (w.len + 9) ++ counts w.total w.this ∷ be24 w.sdur ++ w.sidx % 256 ∷ be16 w.slen

abbrev pub modifiers_head : P.Part → List ℕ
modifiers_head w = front 0 (w.kind % 8) (w.len + 6) ++ counts w.total w.this ∷ be24 w.sdur

unfoldable pub part_head : P.Part → List ℕ
part_head w = w.kind =? 2 ⇒ string_head w ⁏ modifiers_head w

abbrev pub description_head : D.Description → List ℕ
description_head w = front 0 5 (w.len + 3) ++ w.sidx % 256 ∷ []

abbrev pub head_of : Unit → List ℕ
head_of End = []
head_of (Skipped t) = []
head_of (Refused r) = []
head_of (Whole w) = whole_head w
head_of (Part w) = part_head w
head_of (Description w) = description_head w

-- ---- which header a part has
pub string-head : (w : P.Part) → w.kind ≡ 2 → part_head w ≡ string_head w
unfolding part_head
string-head w h = sym (yes _ _ (eq _ _ h) refl)

pub modifiers-head : (w : P.Part) → (w.kind ≡ 2 → ⊥) → part_head w ≡ modifiers_head w
unfolding part_head
modifiers-head w h = sym (no _ _ (ne _ _ h) refl)

-- no header is longer than TYPE 2's
pub head-short : (x : Unit) → length (head_of x) ≤ 10
unfolding part_head
head-short End = omega arith
head-short (Skipped t) = omega arith
head-short (Refused r) = omega arith
head-short (Whole w) = omega arith
head-short (Part w) = each (λ (h : List ℕ). length h ≤ 10) _ _ _ (λ q. omega arith) (λ q. omega arith)
head-short (Description w) = omega arith
