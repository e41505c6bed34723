-- A table is refused for its length exactly if it is shorter than the exported size. Assumes nothing.
use Rattle.std.specs.Prelude.{ℕ, ◌≡◌, refl, false}
use Rattle.std.proofs.Common.{ap}
use Rattle.laws.specs.Rows.{◌<?◌, no}
use Rattle.memory.specs.Relay.{improper, short}
use Rattle.sizes.specs.Sizes.{needed}

pub short-of : (need : ℕ → ℕ) (n have : ℕ) → improper n ≡ false → short (need n) have ≡ (have <? needed need n)
unfolding short
short-of need n have h = ap (λ (m : ℕ). have <? m) (no (improper n) 0 h refl)
