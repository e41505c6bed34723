-- 'Cutting': what the writer's parts are, for every sample that it does not refuse. Assumes nothing.
use Rattle.std.specs.Prelude.{ℕ, ◌≤◌, ◌<◌, ◌≡◌, length, take, drop}
use mathlib.Core.List.{List, [], ◌∷◌}
use Rattle.text.specs.Unicode.{WellFormed}
use Rattle.text.specs.Boundary.{Reached}

-- ---- the string's parts
-- none is empty, each fits k bytes and is well-formed by itself
pub record StringPart (U k : ℕ) (p : List ℕ) : Type 0 where
  pub some : 0 < length p
  pub fits : length p ≤ k
  pub well : WellFormed U p

-- and as long as possible: no longer part that ends at a character would fit k
unfoldable pub Longest : (U k : ℕ) → List ℕ → List (List ℕ) → Type 0
Longest U k s [] = length s ≡ 0
Longest U k s (p ∷ ps) = (p ≡ take (length p) s) × ((e : ℕ) → Reached U s k e → e ≤ length p) × Longest U k (drop (length p) s) ps
