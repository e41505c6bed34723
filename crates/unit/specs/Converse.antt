-- The converse of 'unit again', for a rest of bytes: a unit that is read is a proper one, what 4 lets through fits its fields, and put down
-- again it gives the bytes that were used, but for the bits that are ignored. Assumes nothing.
use Prim.Native.Nat.{ℕ, zero, suc, ◌+◌, ◌*◌, ◌/◌, ◌%◌}
use Rattle.std.specs.Prelude.{◌≡◌, List, [], ◌∷◌, take}
use Rattle.laws.specs.Rows.{◌⇒◌⁏◌, ◌or◌, ◌=?◌}
use Rattle.octets.specs.Be.{u8_at}
use Rattle.unit.specs.declared.Unit.{Unit}
use Rattle.unit.specs.declared.Unit.TheVariants.{End, Skipped, Refused, Whole, Part, Description}
use Rattle.unit.specs.declared.Reading.{Reading}
use Rattle.unit.specs.Layout.{data_of}
use Rattle.unit.specs.Again.{FitsFields, bytes_of}

-- ---- what is ignored: R, and U in TYPE 3, 4 and 5
-- byte 0 with the ignored bits as 0
unfoldable pub plain : ℕ → ℕ
plain b = b % 8 =? 3 or b % 8 =? 4 or b % 8 =? 5 ⇒ b % 8 ⁏ b / 128 * 128 + b % 8

-- a rest with that as its byte 0
abbrev pub plainly : List ℕ → List ℕ
plainly [] = []
plainly (b ∷ s) = plain b ∷ s

-- ---- the units of TYPE 1 to 5: those that have data
abbrev pub HasData : Unit → Type 0
HasData End = ⊥
HasData (Skipped t) = ⊥
HasData (Refused r) = ⊥
HasData (Whole w) = Prim.Unit {0}
HasData (Part w) = Prim.Unit {0}
HasData (Description w) = Prim.Unit {0}

-- where the data ends
abbrev pub end_of : Unit → ℕ
end_of End = 0
end_of (Skipped t) = 0
end_of (Refused r) = 0
end_of (Whole w) = w.start + w.len
end_of (Part w) = w.start + w.len
end_of (Description w) = w.start + w.len

-- a reading that leads back to the rest it was read from
pub record Back (s : List ℕ) (r : Reading) : Type 0 where
  pub fields : FitsFields r.unit (data_of s r.unit)
  pub ends : r.used ≡ end_of r.unit
  pub again : bytes_of r.unit (data_of s r.unit) ≡ take r.used (plainly s)

-- ---- k bytes from a on, one by one
abbrev pub singly : (k a : ℕ) → List ℕ → List ℕ
singly zero a s = []
singly (suc k) a s = u8_at s a ∷ singly k (suc a) s
