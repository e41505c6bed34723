-- A number that is even is twice another exactly if its half is that. Assumes nothing.
use Rattle.std.proofs.Common.{ℕ, ◌/◌, ◌%◌, eqb, ◌≡◌, eq-eqb, ne_eqb, sym, ◌∙◌, arith}
use Rattle.std.proofs.Math.Decide.{ℕ_discrete}
use Rattle.laws.specs.Rows.{◌=?◌, eq, ne}
use Rattle.paper.specs.Limits.{common}

pub twice : (n m : ℕ) → n % 2 ≡ 0 → eqb (n / 2) m ≡ (n =? common m)
twice n m h = go (ℕ_discrete (n / 2) m)
  where
    go : Dec (n / 2 ≡ m) → eqb (n / 2) m ≡ (n =? common m)
    go (yes e) = eq-eqb (n / 2) m e ∙ sym (eq n (common m) (omega arith))
    go (no e) = ne_eqb (n / 2) m e ∙ sym (ne n (common m) (λ q. e (omega arith)))
