-- The decimal digits of a number, in ASCII: the last is that of n % 10, and the digits of n / 10 stand before it, where that is not 0.
-- Assumes nothing.
use Rattle.std.specs.Prelude.{ℕ, zero, suc, ◌+◌, ◌*◌, ◌/◌, ◌%◌, ◌^◌, ◌<◌, ◌≤◌, Bool, true, false, ◌≡◌, refl, List, [], ◌∷◌, ◌++◌, length}
use Rattle.std.proofs.Common.{arith, pow-suc, sym, ap, length-append}
use Rattle.laws.specs.Rows.{◌⇒◌⁏◌, ◌<?◌, yes, no, lt, ge, lt_of, ge-of, below}

-- `0`
abbrev pub digit_zero : ℕ
digit_zero = 0x30

-- `turns` bounds how often n is divided by ten; n itself is always enough
unfoldable pub digits_in : (turns n : ℕ) → List ℕ
digits_in zero n = (digit_zero + n) ∷ []
digits_in (suc k) n = n <? 10 ⇒ (digit_zero + n) ∷ [] ⁏ digits_in k (n / 10) ++ ((digit_zero + n % 10) ∷ [])

unfoldable pub digits : ℕ → List ℕ
digits n = digits_in n n

-- ---- what it says, without turns
turns-any : (j k n : ℕ) → n ≤ j → n ≤ k → digits_in j n ≡ digits_in k n
unfolding digits_in
turns-any zero zero n h i = refl
turns-any zero (suc k) n h i = yes _ _ (lt _ _ (omega arith)) refl
turns-any (suc j) zero n h i = sym (yes _ _ (lt _ _ (omega arith)) refl)
turns-any (suc j) (suc k) n h i =
    below _ _ _ _ (λ f.
    let t = ge-of n 10 f in
    ap (λ (l : List ℕ). l ++ ((digit_zero + n % 10) ∷ [])) (turns-any j k (n / 10) (omega arith) (omega arith)))

pub digits-one : (n : ℕ) → n < 10 → digits n ≡ (digit_zero + n) ∷ []
unfolding digits digits_in
digits-one zero h = refl
digits-one (suc n) h = sym (yes _ _ (lt _ _ h) refl)

pub digits_more : (n : ℕ) → 10 ≤ n → digits n ≡ digits (n / 10) ++ ((digit_zero + n % 10) ∷ [])
unfolding digits digits_in
digits_more zero h = absurd (omega arith)
digits_more (suc n) h =
    sym (no _ _ (ge _ _ h)
    (ap (λ (l : List ℕ). l ++ ((digit_zero + suc n % 10) ∷ [])) (turns-any (suc n / 10) n (suc n / 10) (omega arith) (omega arith))))

-- what holds below ten, and of n wherever it holds of n / 10, holds of every number
module _ (P : ℕ → Type 0) (one : (n : ℕ) → n < 10 → P n) (more : (n : ℕ) → 10 ≤ n → P (n / 10) → P n) where
  by_size : (n : ℕ) (b : Bool) → (n <? 10) ≡ b → (10 ≤ n → P (n / 10)) → P n
  by_size n true e t = one n (lt_of n 10 e)
  by_size n false e t = let h = ge-of n 10 e in more n h (t h)

  by-turns : (k n : ℕ) → n ≤ k → P n
  by-turns zero n h = one n (omega arith)
  by-turns (suc k) n h = by_size n (n <? 10) refl (λ t. by-turns k (n / 10) (omega arith))

  pub by-tenth : (n : ℕ) → P n
  by-tenth n = by-turns n n (omega arith)

-- ---- a number below 10 ^ (k + 1) has at most k + 1 digits
abbrev Short : ℕ → Type 0
Short n = (k : ℕ) → n < 10 ^ suc k → length (digits n) ≤ suc k

short-one : (n : ℕ) → n < 10 → Short n
short-one n h k l = rw (digits-one n h) (omega arith)

short-more : (n : ℕ) → 10 ≤ n → Short (n / 10) → Short n
short-more n h s zero l = absurd (omega arith)
short-more n h s (suc k) l =
    let p : 10 ^ suc (suc k) ≡ 10 ^ suc k * 10 = pow-suc 10 (suc k) in
    let i = s k (omega arith) in
    rw (digits_more n h, length-append) (omega arith)

pub length_digits : (n k : ℕ) → n < 10 ^ suc k → length (digits n) ≤ suc k
length_digits = by-tenth Short short-one short-more
