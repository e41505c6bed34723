-- What every reading keeps to: how many bytes it uses, which refusals it gives, what a part counts, that a sample is there, and that its
-- text is well-formed. Assumes nothing.
use Rattle.std.specs.Prelude.{ℕ, ◌≤◌, ◌<◌, ◌≡◌, ◌⊎◌, List, length}
use Rattle.paper.specs.Limits.{parts_most}
use Rattle.paper.specs.Words.{number_of}
use Rattle.paper.specs.declared.Refusal.TheVariants as R
use Rattle.unit.specs.declared.Whole as W
use Rattle.unit.specs.declared.Part as P
use Rattle.unit.specs.declared.Unit.{Unit}
use Rattle.unit.specs.declared.Unit.TheVariants.{End, Skipped, Refused, Whole, Part, Description}
use Rattle.unit.specs.declared.Reading.{Reading}
use Rattle.unit.specs.Layout.{data_of}

-- a refusal's number; 0 of any other unit
abbrev pub refusal_of : Unit → ℕ
refusal_of (Refused r) = number_of r
refusal_of End = 0
refusal_of (Skipped t) = 0
refusal_of (Whole w) = 0
refusal_of (Part w) = 0
refusal_of (Description w) = 0

-- a reading uses at most the rest, and none of it exactly if there is none
pub record Uses (s : List ℕ) (r : Reading) : Type 0 where
  pub most : r.used ≤ length s
  pub some : 0 < length s → 0 < r.used

-- the only refusals of a reading are 3, 4 and 17
abbrev pub ByReader : Unit → Type 0
ByReader (Refused r) = (r ≡ R.Frame) ⊎ ((r ≡ R.Fields) ⊎ (r ≡ R.IllFormed))
ByReader End = Prim.Unit {0}
ByReader (Skipped t) = Prim.Unit {0}
ByReader (Whole w) = Prim.Unit {0}
ByReader (Part w) = Prim.Unit {0}
ByReader (Description w) = Prim.Unit {0}

-- what every part that is read counts: THIS from 1 to TOTAL, TOTAL at most 15
pub record Counts (x : P.Part) : Type 0 where
  pub from : 1 ≤ x.this
  pub to : x.this ≤ x.total
  pub most : x.total ≤ parts_most

abbrev pub Counted : Unit → Type 0
Counted (Part w) = Counts w
Counted End = Prim.Unit {0}
Counted (Skipped t) = Prim.Unit {0}
Counted (Refused r) = Prim.Unit {0}
Counted (Whole w) = Prim.Unit {0}
Counted (Description w) = Prim.Unit {0}

-- the table gives TOTAL four bits, and refusal 4 lets no other count through
abbrev pub Small : Unit → Type 0
Small (Part w) = w.total ≤ parts_most
Small End = Prim.Unit {0}
Small (Skipped t) = Prim.Unit {0}
Small (Refused r) = Prim.Unit {0}
Small (Whole w) = Prim.Unit {0}
Small (Description w) = Prim.Unit {0}

-- what every sample that is read holds: its LEN less 8 bytes, and TLEN of them
pub record SampleThere (s : List ℕ) (w : W.Whole) : Type 0 where
  pub sample : length (data_of s (Whole w)) ≡ w.len
  pub string : w.tlen ≤ w.len

abbrev pub SamplesThere : List ℕ → Unit → Type 0
SamplesThere s (Whole w) = SampleThere s w
SamplesThere s End = Prim.Unit {0}
SamplesThere s (Skipped t) = Prim.Unit {0}
SamplesThere s (Refused r) = Prim.Unit {0}
SamplesThere s (Part w) = Prim.Unit {0}
SamplesThere s (Description w) = Prim.Unit {0}
