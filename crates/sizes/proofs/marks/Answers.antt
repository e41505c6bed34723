-- `sizes::marks` meets its contract: where there is a relay for n desks, they are eight at most. Assumes nothing.
use native.Mathlib.Omega.{arith}
use mathlib.Core.Path.{refl, sym, ◌∙◌}
use Rattle.laws.specs.Rows.{yes, no}
use Rattle.gate.specs.Tests.{few}
use Rattle.sizes.proofs.marks.Goals as goal

pub returns-then-is_improper : goal.returns-then-is_improper
returns-then-is_improper c = yes _ _ (sym c.is_improper.ensures ∙ c.if-is_improper.true) refl

pub overflow_mul-result : goal.overflow_mul-result
overflow_mul-result c = omega (arith, few _ (sym c.is_improper.ensures ∙ c.if-is_improper.false))

pub overflow_add-result : goal.overflow_add-result
overflow_add-result c = omega (arith, few _ (sym c.is_improper.ensures ∙ c.if-is_improper.false))

pub returns : goal.returns
returns c = no _ _ (sym c.is_improper.ensures ∙ c.if-is_improper.false) refl
