-- The encodings form by form, how long one is, and what a scalar value is. Assumes nothing.
use Rattle.std.specs.Prelude.{ℕ, ◌+◌, ◌-◌, ◌*◌, ◌/◌, ◌%◌, ◌<◌, ◌≤◌, ◌≡◌, refl, ◌⊎◌, true, List, [], ◌∷◌, ◌++◌, length}
use Rattle.std.proofs.Common.{arith, sym, inl, inr, ⊎_elim}
use Rattle.laws.specs.Rows.{yes, no, lt, ge, lt_of, ge-of, each, and-of, and_is, or-of}
use Rattle.octets.specs.Be.{be16}
use Rattle.text.specs.Unicode.{scalar, utf8, utf16, encoded}
use Rattle.text.specs.Encoding.{Sized}

-- what holds of each form holds of the encoding
pub utf8-forms : (P : List ℕ → Type 0) (c : ℕ)
    → (c < 0x80 → P (c ∷ []))
    → (0x80 ≤ c → c < 0x800 → P ((0xC0 + c / 0x40) ∷ (0x80 + c % 0x40) ∷ []))
    → (0x800 ≤ c → c < 0x10000 → P ((0xE0 + c / 0x1000) ∷ (0x80 + c / 0x40 % 0x40) ∷ (0x80 + c % 0x40) ∷ []))
    → (0x10000 ≤ c → P ((0xF0 + c / 0x40000) ∷ (0x80 + c / 0x1000 % 0x40) ∷ (0x80 + c / 0x40 % 0x40) ∷ (0x80 + c % 0x40) ∷ []))
    → P (utf8 c)
unfolding utf8
utf8-forms P c one two three four =
    each P _ _ _ (λ h. one (lt_of _ _ h))
    (λ h. each P _ _ _ (λ k. two (ge-of _ _ h) (lt_of _ _ k))
    (λ k. each P _ _ _ (λ l. three (ge-of _ _ k) (lt_of _ _ l)) (λ l. four (ge-of _ _ l))))

pub utf16-forms : (P : List ℕ → Type 0) (c : ℕ)
    → (c < 0x10000 → P (be16 c))
    → (0x10000 ≤ c → P (be16 (0xD800 + (c - 0x10000) / 0x400) ++ be16 (0xDC00 + (c - 0x10000) % 0x400)))
    → P (utf16 c)
unfolding utf16
utf16-forms P c one two = each P _ _ _ (λ h. one (lt_of _ _ h)) (λ h. two (ge-of _ _ h))

-- an encoding has one to four bytes
utf8-sized : (c : ℕ) → Sized (utf8 c)
utf8-sized c = utf8-forms Sized c (λ h. omega arith) (λ h k. omega arith) (λ h k. omega arith) (λ h. omega arith)

utf16-sized : (c : ℕ) → Sized (utf16 c)
utf16-sized c = utf16-forms Sized c (λ h. omega arith) (λ h. omega arith)

pub utf8-some : (c : ℕ) → 0 < length (utf8 c)
utf8-some c = (utf8-sized c).0

pub utf16-some : (c : ℕ) → 0 < length (utf16 c)
utf16-some c = (utf16-sized c).0

pub encoded-sized : (U c : ℕ) → (1 ≤ length (encoded U c)) × (length (encoded U c) ≤ 4)
unfolding encoded
encoded-sized U c = each Sized _ _ _ (λ u. utf8-sized c) (λ u. utf16-sized c)

-- a scalar value is no surrogate, and at most 10FFFF
pub scalar-of : (c : ℕ) → scalar c ≡ true → (c < 0xD800) ⊎ ((0xDFFF < c) × (c < 0x110000))
unfolding scalar
scalar-of c h =
    ⊎_elim (λ a. inl (lt_of _ _ a)) (λ b. let t = and-of _ _ b in inr (lt_of _ _ t.0, lt_of _ _ t.1)) (or-of _ _ h)

pub scalar_is : (c : ℕ) → (c < 0xD800) ⊎ ((0xDFFF < c) × (c < 0x110000)) → scalar c ≡ true
unfolding scalar
scalar_is c h =
    ⊎_elim
    (λ low. sym (yes _ _ (lt _ _ low) refl))
    (λ high. sym (no _ _ (ge _ _ (omega arith)) (sym (and_is _ _ (lt _ _ high.0) (lt _ _ high.1)))))
    h

pub scalar-top : (c : ℕ) → scalar c ≡ true → c < 0x110000
scalar-top c h = ⊎_elim (λ low. omega arith) (λ high. omega arith) (scalar-of c h)

-- a number of 16 bits, back from its bytes
pub two_bytes : (x : ℕ) → x < 0x10000 → x / 256 % 256 * 256 + x % 256 ≡ x
two_bytes x h = omega arith
