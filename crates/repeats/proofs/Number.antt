-- A part that is kept has a place in the arrays. Assumes nothing.
use Rattle.std.proofs.Common.{ℕ, ◌≤◌, true, ◌≡◌}
use Rattle.sample.specs.declared.Place.{Place}
use Rattle.sample.specs.Place.{has}
use Rattle.sample.specs.Kept.{has_of}

pub numbered : (p : Place) (THIS : ℕ) → has p THIS ≡ true → (1 ≤ THIS) × (THIS ≤ 15)
numbered p THIS h = (has_of p THIS h).0
