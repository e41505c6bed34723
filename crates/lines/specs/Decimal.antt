-- The digits of a number are its decimal ones, and there are no others. Assumes nothing.
use Rattle.std.specs.Prelude.{ℕ, zero, suc, ◌+◌, ◌-◌, ◌*◌, ◌/◌, ◌%◌, ◌<◌, ◌≤◌, ◌≡◌, refl, List, [], ◌∷◌, ◌++◌, length, get_or, take}
use Rattle.std.proofs.Common.{arith, sym, ap, ◌∙◌, length-append, take-suc, length-take-le, get_or-take}
use Rattle.std.proofs.Math.Decide.{ℕ_discrete}
use Rattle.std.proofs.Math.ListN.{get_or-append}
use Rattle.std.proofs.Math.Seq.{take-length, get_or-append_seam}
use Rattle.lines.specs.Digits.{digit_zero, digits, digits-one, digits_more, by-tenth}

-- `9`
abbrev pub digit_nine : ℕ
digit_nine = 0x39

-- digits read back, as a decimal number behind the digits of `high`
unfoldable pub value_on : (high : ℕ) → List ℕ → ℕ
value_on high [] = high
value_on high (d ∷ ds) = value_on (high * 10 + (d - digit_zero)) ds

abbrev pub IsDigit : ℕ → Type 0
IsDigit d = (digit_zero ≤ d) × (d ≤ digit_nine)

-- the digits are n in decimal: one at least, each from `0` to `9`, the first `0` only where n is 0 and that is all, and their value n
pub record Decimal (n : ℕ) (ds : List ℕ) : Type 0 where
  pub some : 0 < length ds
  pub each : (i : ℕ) → i < length ds → IsDigit (get_or ds i 0)
  pub first : get_or ds 0 0 ≡ digit_zero → (n ≡ 0) × (ds ≡ digit_zero ∷ [])
  pub value : value_on 0 ds ≡ n

value-last : (high d : ℕ) (ds : List ℕ) → value_on high (ds ++ (d ∷ [])) ≡ value_on high ds * 10 + (d - digit_zero)
unfolding value_on
value-last high d [] = refl
value-last high d (e ∷ ds) = value-last (high * 10 + (e - digit_zero)) d ds

-- ---- the digits are decimal: below ten one, and from there on the last behind those of the tenth
decimal-below : (n : ℕ) → n < 10 → Decimal n (digits n)
unfolding value_on
decimal-below n h =
    rw (digits-one n h) (record {
      some = omega arith;
      each = alone;
      first = λ e. let z : n ≡ 0 = omega arith in (z, rw z);
      value = omega arith;
    })
  where
    alone : (i : ℕ) → i < 1 → IsDigit (get_or ((digit_zero + n) ∷ []) i 0)
    alone zero k = (omega arith, omega arith)
    alone (suc i) k = absurd (omega arith)

decimal-last : (m d : ℕ) (ds : List ℕ) → Decimal m ds → 0 < m → IsDigit d → Decimal (m * 10 + (d - digit_zero)) (ds ++ (d ∷ []))
decimal-last m d ds p h k = record {
  some = simp length-append (omega arith);
  each = λ i l. let q = length-append ds (d ∷ []) in here i (ℕ_discrete i (length ds)) (omega arith);
  first = λ e. absurd (omega (arith, p.first (sym (get_or-append ds (d ∷ []) 0 0 p.some) ∙ e)));
  value = value-last 0 d ds ∙ ap (λ (v : ℕ). v * 10 + (d - digit_zero)) p.value;
}
  where
    here : (i : ℕ) → Dec (i ≡ length ds) → i ≤ length ds → IsDigit (get_or (ds ++ (d ∷ [])) i 0)
    here i (yes e) l = rw (e, get_or-append_seam ds d [] 0) k
    here i (no e) l = let lt : i < length ds = omega arith in rw (get_or-append ds (d ∷ []) 0 i lt) (p.each i lt)

decimal-above : (n : ℕ) → 10 ≤ n → Decimal (n / 10) (digits (n / 10)) → Decimal n (digits n)
decimal-above n h p =
    let q = decimal-last (n / 10) (digit_zero + n % 10) (digits (n / 10)) p (omega arith) (omega arith, omega arith) in
    let v : n / 10 * 10 + (digit_zero + n % 10 - digit_zero) ≡ n = omega arith in
    rw (digits_more n h) (rw v at q)

pub digits_decimal : (n : ℕ) → Decimal n (digits n)
digits_decimal = by-tenth (λ n. Decimal n (digits n)) decimal-below decimal-above

-- ---- and there are no others
value-least : (high : ℕ) (ds : List ℕ) → high ≤ value_on high ds
unfolding value_on
value-least high [] = omega arith
value-least high (d ∷ ds) = omega (arith, value-least (high * 10 + (d - digit_zero)) ds)

value-some : (ds : List ℕ) → 0 < length ds → digit_zero < get_or ds 0 0 → 0 < value_on 0 ds
unfolding value_on
value-some [] h k = absurd (omega arith)
value-some (d ∷ ds) h k = omega (arith, value-least (0 * 10 + (d - digit_zero)) ds)

-- the digits but for the last, of which there are j, and the last
module _ {n : ℕ} {ds : List ℕ} (p : Decimal n ds) (j : ℕ) (long : length ds ≡ suc j) where
  split : ds ≡ take j ds ++ (get_or ds j 0 ∷ [])
  split = sym (take-length ds) ∙ ap (λ (k : ℕ). take k ds) long ∙ take-suc ds j 0 (omega arith)

  split-value : n ≡ value_on 0 (take j ds) * 10 + (get_or ds j 0 - digit_zero)
  split-value = sym p.value ∙ ap (value_on 0) split ∙ value-last 0 (get_or ds j 0) (take j ds)

  module _ (h : 0 < j) where
    long-front : length (take j ds) ≡ j
    long-front = length-take-le j ds (omega arith)

    not-zero : get_or ds 0 0 ≡ digit_zero → ⊥
    not-zero e = omega (arith, ap length (p.first e).1)

    front-some : 0 < value_on 0 (take j ds)
    front-some =
        value-some (take j ds) (omega (arith, long-front))
        (rw (get_or-take j ds 0 0 h) (omega (arith, p.each 0 p.some, not-zero)))

    front-decimal : Decimal (value_on 0 (take j ds)) (take j ds)
    front-decimal = record {
      some = omega (arith, long-front);
      each = λ i l. let k : i < j = omega (arith, long-front) in rw (get_or-take j ds i 0 k) (p.each i (omega arith));
      first = λ e. absurd (not-zero (sym (get_or-take j ds 0 0 h) ∙ e));
      value = refl;
    }

abbrev Only : ℕ → Type 0
Only n = (ds : List ℕ) → Decimal n ds → ds ≡ digits n

only-by : (n : ℕ) (ds : List ℕ) → Decimal n ds → (10 ≤ n → Only (n / 10)) → (k : ℕ) → length ds ≡ k → ds ≡ digits n
unfolding value_on
only-by n ds p t zero l = absurd (omega (arith, p.some))
only-by n ds p t (suc zero) l =
    let r = p.each 0 p.some in
    let v = split-value p 0 l in
    let d : get_or ds 0 0 ≡ digit_zero + n = omega arith in
    split p 0 l ∙ ap (λ (x : ℕ). x ∷ []) d ∙ sym (digits-one n (omega arith))
only-by n ds p t (suc (suc j)) l =
    let r = p.each (suc j) (omega arith) in
    let v = split-value p (suc j) l in
    let h : 10 ≤ n = omega (arith, front-some p (suc j) l (omega arith)) in
    let e : value_on 0 (take (suc j) ds) ≡ n / 10 = omega arith in
    let d : get_or ds (suc j) 0 ≡ digit_zero + n % 10 = omega arith in
    split p (suc j) l
    ∙ ap (λ (x : ℕ). take (suc j) ds ++ (x ∷ [])) d
    ∙ ap (λ (xs : List ℕ). xs ++ ((digit_zero + n % 10) ∷ [])) (t h (take (suc j) ds) (rw e at (front-decimal p (suc j) l (omega arith))))
    ∙ sym (digits_more n h)

only : (n : ℕ) → Only n
only =
    by-tenth Only (λ n h ds p. only-by n ds p (λ k. absurd (omega arith)) (length ds) refl)
    (λ n h t ds p. only-by n ds p (λ k. t) (length ds) refl)

-- two lists of digits of one number are one
pub decimal-one : (n : ℕ) (ds es : List ℕ) → Decimal n ds → Decimal n es → ds ≡ es
decimal-one n ds es p q = only n ds p ∙ sym (only n es q)
