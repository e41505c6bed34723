-- The text of a unit, and what 17 lets through. Assumes nothing.
use Rattle.std.specs.Prelude.{ℕ, List}
use Rattle.text.specs.Unicode.{WellFormed}
use Rattle.unit.specs.declared.Unit.{Unit}
use Rattle.unit.specs.Layout.{text_of, encoding_of}

-- the text of a unit with the data d is well-formed in its encoding
abbrev pub WellText : Unit → (d : List ℕ) → Type 0
WellText x d = WellFormed (encoding_of x) (text_of x d)
