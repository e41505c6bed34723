-- `sizes::size_for` meets its contract: where there is a relay for n desks, they are eight at most. Assumes nothing.
use native.Mathlib.Omega.{arith}
use native.Mathlib.Nat.{mul-le-mul}
use mathlib.Core.Path.{refl, sym, ◌∙◌}
use Rattle.laws.specs.Rows.{yes, no}
use Rattle.paper.specs.Limits.{desks_most, store_size}
use Rattle.gate.specs.Tests.{few}
use Rattle.sizes.proofs.size_for.Goals as goal

pub returns-then-is_improper : goal.returns-then-is_improper
returns-then-is_improper c = yes _ _ (sym c.is_improper.ensures ∙ c.if-is_improper.true) refl

pub overflow_mul-result : goal.overflow_mul-result
overflow_mul-result c = omega (
  arith,
  mul-le-mul {n₁ = c.args.each} {m₁ = c.args.n} {n₂ = store_size} {m₂ = desks_most} c.requires
      (few _ (sym c.is_improper.ensures ∙ c.if-is_improper.false)),
)

pub returns : goal.returns
returns c = no _ _ (sym c.is_improper.ensures ∙ c.if-is_improper.false) refl
