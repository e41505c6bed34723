-- A length that was looked for: none where it is 0, for no character has no byte. Assumes nothing.
use Rattle.std.specs.Prelude.{ℕ, zero, suc, ◌<◌, ◌≡◌, refl, Option, Some, None, unwrap_or}
use Rattle.std.proofs.Common.{arith}

abbrev pub found : ℕ → Option ℕ
found zero = None
found (suc n) = Some (suc n)

pub found_is : (k : ℕ) → 0 < k → found k ≡ Some k
found_is zero h = absurd (omega arith)
found_is (suc k) h = refl

-- what was found, and that nothing was
pub found_some : (k x : ℕ) → found k ≡ Some x → (x ≡ k) × (0 < k)
found_some zero x h = cc
found_some (suc k) x h = (cc, omega arith)

pub found_none : (k : ℕ) → found k ≡ None → k ≡ 0
found_none zero h = refl
found_none (suc k) h = cc

-- as a number, with 0 for none
pub found_or : (k : ℕ) → unwrap_or (found k) 0 ≡ k
found_or zero = refl
found_or (suc k) = refl
