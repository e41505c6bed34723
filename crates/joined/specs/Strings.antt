-- A joined string is well-formed: in every run from set-up, whatever the rests are, an answer whole or joined leaves an output whose first
-- bytes, as many as it tells the string has, are well-formed in the U that it tells. Assumes nothing.
use Rattle.std.specs.Prelude.{ℕ, ◌≤◌, List, length, take}
use Rattle.paper.specs.declared.Facts.{Facts}
use Rattle.paper.specs.declared.Outcome.{Outcome}
use Rattle.paper.specs.declared.Outcome.TheVariants as O
use Rattle.text.specs.Unicode.{WellFormed}
use Rattle.peace.specs.Run.{Got, answered, released, shown}

-- what a sample that is handed out leaves of the output
pub record WellHanded (f : Facts) (out : List ℕ) : Type 0 where
  pub within : f.string ≤ f.sample
  pub there : f.sample ≤ length out
  pub well : WellFormed f.u (take f.string out)

-- by the outcome
abbrev pub HandsWell : Outcome → (out : List ℕ) → Type 0
HandsWell O.End out = Prim.Unit {0}
HandsWell (O.Whole f) out = WellHanded f out
HandsWell (O.Joined f) out = WellHanded f out
HandsWell (O.Kept n) out = Prim.Unit {0}
HandsWell O.Repeat out = Prim.Unit {0}
HandsWell O.Described out = Prim.Unit {0}
HandsWell (O.Skipped t) out = Prim.Unit {0}
HandsWell (O.Refused r) out = Prim.Unit {0}

-- of what a call got
abbrev pub GotWell : Got → Type 0
GotWell (answered a out) = HandsWell a.outcome out
GotWell (released a) = Prim.Unit {0}
GotWell (shown d) = Prim.Unit {0}
