-- Refusals 4 and 17, exactly. Of the rests of bytes that pass 1 to 3 and skipped, 4 is given to those at whose front no unit stands whose
-- numbers fit their fields; of all rests of bytes, 17 to those at whose front one stands whose text is not well-formed, and a unit with
-- data is read of those at whose front one stands whose text is. Assumes nothing.
use Rattle.std.specs.Prelude.{ℕ, ◌≡◌, List, ◌++◌}
use Rattle.unit.specs.declared.Unit.{Unit}
use Rattle.unit.specs.Text.{WellText}
use Rattle.unit.specs.Again.{FitsFields, bytes_of}
use Rattle.unit.specs.Converse.{plainly}

-- a unit whose numbers fit stands at the front of the rest, whatever follows it; bits that are ignored do not count
pub record Leads (s : List ℕ) : Type 0 where
  pub x : Unit
  pub d : List ℕ
  pub more : List ℕ
  pub fields : FitsFields x d
  pub same : plainly s ≡ bytes_of x d ++ more

-- ---- refusal 17 is given exactly if one stands there whose text is not well-formed
pub record LeadsIll (s : List ℕ) : Type 0 where
  pub leads : Leads s
  pub text : WellText leads.x leads.d → ⊥

-- ---- and a unit with data is read exactly if one stands there whose text is well-formed: that one
pub record LeadsWell (s : List ℕ) : Type 0 where
  pub leads : Leads s
  pub text : WellText leads.x leads.d
