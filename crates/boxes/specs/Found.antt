-- What stands at a place of the modifiers: a box with its type, the end, or why neither. Assumes nothing.
use Rattle.std.specs.Prelude.{ℕ, Option, Result}
use Rattle.paper.specs.declared.Refusal.{Refusal}

abbrev pub Found : Type 0
Found = Result (Option ℕ) Refusal
