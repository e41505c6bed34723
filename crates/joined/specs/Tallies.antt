-- A place and the ledger's page of its sample tally: what is kept is what was entered. It is so of a closed place and a blank page, and
-- stays so when a part is kept and entered. Assumes nothing.
use Rattle.std.specs.Prelude.{ℕ, ◌≡◌, true, false}
use Rattle.std.proofs.Math.Option.{some}
use Rattle.sample.specs.declared.Place.{Place}
use Rattle.sample.specs.Place.{closed, kept_at}
use Rattle.sample.specs.Kept.{Made}
use Rattle.joined.specs.Ledger.{Entry, Parts, entered_piece, Tell}

pub record Tallies (p : Place) (E : Parts) : Type 0 where
  pub made : Made p
  pub free : p.used ≡ false → p ≡ closed
  pub pieces : (k : ℕ) → kept_at p k ≡ entered_piece (E k)
  -- each part entered has the place's TOTAL and SDUR, and a TYPE 2 part its U, SIDX and SLEN
  pub agree : (k : ℕ) (e : Entry) → E k ≡ some e → (e.part.total ≡ p.total) × (e.part.sdur ≡ p.sdur)
  pub tell : Tell E p.u p.sidx p.slen
  pub told : (k : ℕ) (e : Entry) → E k ≡ some e → e.part.kind ≡ 2 → p.told ≡ true
