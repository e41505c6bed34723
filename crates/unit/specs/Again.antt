-- 'Unit again': reading the bytes of a unit, whatever follows them, gives that unit and exactly its length; and what the paper says
-- is ignored does not change what is read. Assumes nothing.
use Rattle.std.specs.Prelude.{ℕ, ◌+◌, ◌<◌, ◌≤◌, List, ◌++◌, ◌≡◌, ◌⊎◌, length}
use Rattle.paper.specs.Limits.{durations, in_band, reserved, parts_most}
use Rattle.unit.specs.declared.Unit.{Unit}
use Rattle.unit.specs.declared.Unit.TheVariants.{Part}
use Rattle.unit.specs.Layout.{whole, string_part, modifiers_part, description}
use Rattle.unit.specs.Text.{WellText}
use Rattle.unit.specs.Head.{head_of}

-- ---- the units that can be sent, each with its data
-- every number fits its field and keeps to the limits of refusal 4
pub data FitsFields : Unit → List ℕ → Type 0 where
  whole-unit : {U SIDX SDUR TLEN : ℕ} {d : List ℕ} → U < 2 → SIDX < reserved → SDUR < durations → TLEN ≤ length d → length d + 8 < 65536
      → FitsFields (whole U SIDX SDUR TLEN (length d)) d
  string-unit : {U TOTAL THIS SDUR SIDX SLEN : ℕ} {d : List ℕ} → U < 2 → 0 < THIS → THIS ≤ TOTAL → TOTAL ≤ parts_most → SDUR < durations
      → SIDX < reserved → SLEN < 65536 → 0 < length d → length d + 9 < 65536
      → FitsFields (Part (string_part U TOTAL THIS SDUR SIDX SLEN (length d))) d
  modifiers-unit : {TYPE TOTAL THIS SDUR : ℕ} {d : List ℕ} → (TYPE ≡ 3) ⊎ (TYPE ≡ 4) → 0 < THIS → THIS ≤ TOTAL → TOTAL ≤ parts_most
      → SDUR < durations → 0 < length d → length d + 6 < 65536 → FitsFields (Part (modifiers_part TYPE TOTAL THIS SDUR (length d))) d
  description-unit : {SIDX : ℕ} {d : List ℕ} → SIDX < in_band → 0 < length d → length d + 3 < 65536
      → FitsFields (description SIDX (length d)) d

-- and the text is well-formed
pub record Proper (x : Unit) (d : List ℕ) : Type 0 where
  pub fields : FitsFields x d
  pub text : WellText x d

-- the bytes of a unit with its data
abbrev pub bytes_of : Unit → List ℕ → List ℕ
bytes_of x d = head_of x ++ d
