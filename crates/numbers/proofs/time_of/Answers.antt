-- `numbers::time_of` meets its contract. Assumes nothing.
use Rattle.std.specs.Prelude.{Bool, true, false, not, Some, None, nat_eq}
use Rattle.std.proofs.Common.{◌≡◌, refl, ℕ, ◌∙◌}
use Rattle.std.specs.Bool.{then_some}
use Rattle.laws.specs.Rows.{◌⇒◌⁏◌, ◌=?◌}
use Rattle.numbers.proofs.time_of.Goals as goal

told : (b : Bool) (t : ℕ) → then_some (not b) t ≡ (b ⇒ None ⁏ Some t)
unfolding ◌⇒◌⁏◌
told true t = refl
told false t = refl

pub returns : goal.returns
unfolding ◌=?◌
returns c = c.then_some.ensures ∙ told (nat_eq c.args.known 0) c.args.time
