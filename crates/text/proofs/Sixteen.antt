-- UTF-16: the rule of units and the encodings of the scalar values are one rule, for every list. Assumes nothing.
use Rattle.std.specs.Prelude.{ℕ, ◌+◌, ◌-◌, ◌*◌, ◌/◌, ◌%◌, ◌<◌, ◌≤◌, ◌≡◌, refl, ◌⊎◌, true, false, List, [], ◌++◌, length}
use Rattle.std.proofs.Common.{arith, sym, inl, inr, ⊎_elim}
use Rattle.laws.specs.Rows.{◌or◌, yes, no, lt, ge, lt_of, each, and-of, and_is, or-of}
use Rattle.laws.specs.Exactly.{Exactly}
use Rattle.octets.specs.Be.{u8_at, u16_at, be16}
use Rattle.text.specs.Chart.{◌to◌, within, unit_at, paired}
use Rattle.text.specs.Unicode.{scalar, utf16}
use Rattle.text.specs.Laws.{took}
use Rattle.text.proofs.Encoding.{utf16-forms, two_bytes, scalar-of, scalar_is, scalar-top, utf16-some}
use Rattle.text.specs.Ranges.{In}
use Rattle.text.proofs.Ranges.{within_of, within-is, within-not, within-below}
use Rattle.text.specs.Front.{Front}
use Rattle.text.proofs.Front.{exactly}
use Rattle.text.specs.Sixteen.{Unit}

unit-of : (s : List ℕ) (i : ℕ) → unit_at s i < 0x10000 → Unit s i (unit_at s i)
unfolding unit_at
unit-of s i =
    each (λ n. n < 0x10000 → Unit s i n) _ _ _
    (λ h k. let t = and-of _ _ h in record { there = lt_of _ _ t.0; high = omega arith; low = lt_of _ _ t.1; value = refl })
    (λ h k. absurd (omega arith))

pub unit-is : (s : List ℕ) (i x : ℕ) → i + 1 < length s → u8_at s (i + 1) < 0x100 → u16_at s i ≡ x → unit_at s i ≡ x
unfolding unit_at
unit-is s i x h k e = sym (yes _ _ (and_is _ _ (lt _ _ h) (lt _ _ k)) (sym e))

pub unit-none : (s : List ℕ) (i : ℕ) → length s ≤ i + 1 → 0x10000 ≡ unit_at s i
unfolding unit_at
unit-none s i h = no _ _ (sym (no _ _ (ge _ _ h) refl)) refl

-- two bytes, back from their number
bytes_of : (a b : ℕ) → a < 256 → b < 256 → ((a * 256 + b) / 256 % 256 ≡ a) × ((a * 256 + b) % 256 ≡ b)
bytes_of a b h k = (omega arith, omega arith)

lone : (s : List ℕ) → In (0x0000 to 0xD7FF) (unit_at s 0) ⊎ In (0xE000 to 0xFFFF) (unit_at s 0) → Front utf16 s 2
unfolding utf16
lone s h =
    let v = u8_at s 0 * 256 + u8_at s 1 in
    let u = unit-of s 0 (⊎_elim (λ l. omega (arith, l)) (λ l. omega (arith, l)) h) in
    let b = bytes_of (u8_at s 0) (u8_at s 1) u.high u.low in
    let e : utf16 v ≡ be16 v = sym (yes _ _ (lt _ _ (omega (arith, u.high, u.low))) refl) in
    record {
      value = v;
      good = scalar_is v
          (⊎_elim (λ l. inl (omega (arith, l, u.value))) (λ l. inr (omega (arith, l, u.value), omega (arith, l, u.value))) h);
      size = rw e refl;
      front = rw (e, b.0, b.1) (sym (took 0 s 0 1 _ (omega (arith, u.there)) (took 0 s 1 0 [] u.there refl)));
    }

pair_of : (a b c : ℕ) → In (0xD800 to 0xDBFF) a → In (0xDC00 to 0xDFFF) b → c ≡ 0x10000 + (a - 0xD800) * 0x400 + (b - 0xDC00)
    → utf16 c ≡ be16 a ++ be16 b
unfolding utf16
pair_of a b c h k e =
    let x : 0xD800 + (c - 0x10000) / 0x400 ≡ a = omega arith in
    let y : 0xDC00 + (c - 0x10000) % 0x400 ≡ b = omega arith in
    sym (no _ _ (ge _ _ (omega arith)) (rw (x, y)))

pair : (s : List ℕ) → In (0xD800 to 0xDBFF) (unit_at s 0) → In (0xDC00 to 0xDFFF) (unit_at s 2) → Front utf16 s 4
pair s h k =
    let v = 0x10000 + (unit_at s 0 - 0xD800) * 0x400 + (unit_at s 2 - 0xDC00) in
    let u = unit-of s 0 (omega (arith, h)) in
    let w = unit-of s 2 (omega (arith, k)) in
    let b = bytes_of (u8_at s 0) (u8_at s 1) u.high u.low in
    let d = bytes_of (u8_at s 2) (u8_at s 3) w.high w.low in
    let e = pair_of (unit_at s 0) (unit_at s 2) v h k refl in
    record {
      value = v;
      good = scalar_is v (inr (omega (arith, h, k), omega (arith, h, k)));
      size = rw e refl;
      front = rw (e, u.value, w.value, b.0, b.1, d.0, d.1)
          (sym (took 0 s 0 3 _ (omega (arith, u.there)) (took 0 s 1 2 _ u.there
          (took 0 s 2 1 _ (omega (arith, w.there)) (took 0 s 3 0 [] w.there refl)))));
    }

pub paired-sound : (s : List ℕ) → 0 < paired s → Front utf16 s (paired s)
unfolding paired
paired-sound s =
    each (λ n. 0 < n → Front utf16 s n) _ _ _
    (λ h k. lone s (⊎_elim (λ l. inl (within_of _ _ l)) (λ l. inr (within_of _ _ l)) (or-of _ _ h)))
    (λ h. each (λ n. 0 < n → Front utf16 s n) _ _ _
    (λ l k. let t = and-of _ _ l in pair s (within_of _ _ t.0) (within_of _ _ t.1))
    (λ l k. absurd (omega arith)))

lone-found : (s : List ℕ) → In (0x0000 to 0xD7FF) (unit_at s 0) ⊎ In (0xE000 to 0xFFFF) (unit_at s 0) → paired s ≡ 2
unfolding paired
lone-found s h =
    sym (yes _ _
    (⊎_elim
    (λ l. sym (yes _ _ (within-is (0x0000 to 0xD7FF) (unit_at s 0) l) refl))
    (λ l. sym (no _ _ (within-not (0x0000 to 0xD7FF) (unit_at s 0) (omega (arith, l))) (sym (within-is (0xE000 to 0xFFFF) (unit_at s 0) l))))
    h) refl)

pair_found : (s : List ℕ) → In (0xD800 to 0xDBFF) (unit_at s 0) → In (0xDC00 to 0xDFFF) (unit_at s 2) → paired s ≡ 4
unfolding paired
pair_found s h k =
    let n : (within (0x0000 to 0xD7FF) (unit_at s 0) or within (0xE000 to 0xFFFF) (unit_at s 0)) ≡ false =
    sym (no _ _ (within-not (0x0000 to 0xD7FF) (unit_at s 0) (omega (arith, h)))
    (sym (within-below (0xE000 to 0xFFFF) (unit_at s 0) (omega (arith, h))))) in
    sym (no _ _ n (yes _ _ (and_is _ _ (within-is _ _ h) (within-is _ _ k)) refl))

pub paired-complete : (c : ℕ) (rest : List ℕ) → scalar c ≡ true → paired (utf16 c ++ rest) ≡ length (utf16 c)
paired-complete c rest good =
    utf16-forms (λ x. paired (x ++ rest) ≡ length x) c
    (λ h.
    let e : unit_at (be16 c ++ rest) 0 ≡ c = unit-is (be16 c ++ rest) 0 c (omega arith) (omega arith) (two_bytes c h) in
    lone-found (be16 c ++ rest)
    (rw e (⊎_elim (λ l. inl (omega arith, omega arith)) (λ g. inr (omega (arith, g), omega arith)) (scalar-of c good))))
    (λ h.
    let top = scalar-top c good in
    let a = 0xD800 + (c - 0x10000) / 0x400 in
    let b = 0xDC00 + (c - 0x10000) % 0x400 in
    let s : List ℕ = (be16 a ++ be16 b) ++ rest in
    let e : unit_at s 0 ≡ a = unit-is s 0 a (omega arith) (omega arith) (two_bytes a (omega arith)) in
    let f : unit_at s 2 ≡ b = unit-is s 2 b (omega arith) (omega arith) (two_bytes b (omega arith)) in
    pair_found s (rw e (omega arith, omega arith)) (rw f (omega arith, omega arith)))

pub paired-exactly : (s : List ℕ) (n : ℕ) → Exactly ((0 < n) × (paired s ≡ n)) (Front utf16 s n)
paired-exactly = exactly utf16 paired utf16-some paired-sound paired-complete
