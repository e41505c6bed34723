-- The converse of 'unit again', for a rest of bytes: a unit that is read is a proper one, what 4 lets through fits its fields, and put down
-- again it gives the bytes that were used, but for the bits that are ignored. Assumes nothing.
use Prim.Native.Nat.{ℕ, zero, suc, ◌+◌, ◌-◌, ◌*◌, ◌/◌, ◌%◌, ◌<◌, ◌≤◌}
use Rattle.std.proofs.Common.{arith, sym, ap, ◌∙◌, inl, inr, drop-cons}
use Rattle.std.specs.Prelude.{◌≡◌, true, ◌⊎◌, List, [], ◌∷◌, ◌++◌, take, drop}
use Rattle.std.proofs.Math.Path.{refl}
use Rattle.std.proofs.Math.Bool.{false}
use Rattle.std.proofs.Math.Logic.{⊎_elim}
use Rattle.std.proofs.Math.ListN.{length}
use Rattle.laws.specs.Rows.{◌or◌, ◌=?◌, each, no, ne, eq_of, ne_of, ge-of, or-of, or-none}
use Rattle.laws.specs.Region.{part, length_part}
use Rattle.octets.specs.Be.{u8_at, u16_at, u24_at, Bytes, be16, be24}
use Rattle.unit.specs.declared.Part as P
use Rattle.unit.specs.declared.Unit.{Unit}
use Rattle.unit.specs.declared.Unit.TheVariants.{Part}
use Rattle.unit.specs.declared.Reading.{Reading}
use Rattle.unit.specs.Layout.{whole, string_part, modifiers_part, description, whole_at, string_at, modifiers_at, description_at}
use Rattle.unit.specs.Layout.{fields_of, fields_at}
use Rattle.unit.specs.Layout.{least, bad_whole, bad_part, bad_description, bad_fields, data_of, reading, read_of}
use Rattle.unit.specs.Head.{front, counts, head_of, string-head, modifiers-head}
use Rattle.unit.specs.Again.{FitsFields, Proper, whole-unit, string-unit, modifiers-unit, description-unit, bytes_of}
use Rattle.unit.proofs.Again.{leasts, ignored}
use Rattle.unit.proofs.Readings.{each_read, reads-uses, read-well}
use Rattle.unit.specs.Converse.{plain, plainly, HasData, end_of, Back, singly}

-- ---- byte 0, by TYPE
plain-kept : (b : ℕ) → b % 8 ≤ 2 → plain b ≡ b / 128 * 128 + b % 8
unfolding plain
plain-kept b h =
    sym (no _ _ (sym (no _ _ (ne _ _ (λ e. omega arith)) (no _ _ (ne _ _ (λ e. omega arith)) (sym (ne _ _ (λ e. omega arith)))))) refl)

plain-bare : (b : ℕ) → 3 ≤ b % 8 → b % 8 ≤ 5 → plain b ≡ b % 8
unfolding plain
plain-bare b h k =
    each (λ (v : ℕ). v ≡ b % 8) _ _ _ (λ q. refl)
    (λ q.
    let o = or-none _ _ q in
    let p = or-none _ _ o.1 in
    absurd (omega (arith, ne_of _ _ o.0, ne_of _ _ p.0, ne_of _ _ p.1)))

-- TYPE stays, and U where it is read
plain-same : (b : ℕ) → (b % 8 ≡ plain b % 8) × ((b / 128 ≡ plain b / 128) ⊎ ((b % 8 ≡ 1 → ⊥) × (b % 8 ≡ 2 → ⊥)))
unfolding plain
plain-same b =
    each (λ (v : ℕ). (b % 8 ≡ v % 8) × ((b / 128 ≡ v / 128) ⊎ ((b % 8 ≡ 1 → ⊥) × (b % 8 ≡ 2 → ⊥)))) _ _ _
    (λ q. let t = high q in (omega arith, inr ((λ e. omega arith), (λ e. omega arith)))) (λ q. (omega arith, inl (omega arith)))
  where
    high : (b % 8 =? 3 or b % 8 =? 4 or b % 8 =? 5) ≡ true → 3 ≤ b % 8
    high q =
        ⊎_elim (λ e. omega (arith, eq_of _ _ e))
        (λ e. ⊎_elim (λ f. omega (arith, eq_of _ _ f)) (λ f. omega (arith, eq_of _ _ f)) (or-of _ _ e)) (or-of _ _ q)

-- so a rest is read as what it is without them
pub plainly-read : (s : List ℕ) → read_of s ≡ read_of (plainly s)
plainly-read [] = refl
plainly-read (b ∷ s) = let p = plain-same b in ignored b (plain b) s p.0 p.1

plainly-is : (s : List ℕ) → 0 < length s → plainly s ≡ plain (u8_at s 0) ∷ drop 1 s
plainly-is [] h = absurd (omega arith)
plainly-is (b ∷ s) h = refl

singly-then : (k a n : ℕ) (s : List ℕ) → a + k ≤ length s → singly k a s ++ part (a + k) n s ≡ part a (k + n) s
singly-then zero a n s h =
    let p : a + 0 ≡ a = omega arith in
    let q : 0 + n ≡ n = omega arith in
    rw (p, q)
singly-then (suc k) a n s h =
    let p : a + suc k ≡ suc a + k = omega arith in
    let q : suc k + n ≡ suc (k + n) = omega arith in
    rw (p, q, drop-cons s a 0 (omega arith)) (ap (λ (l : List ℕ). u8_at s a ∷ l) (singly-then k (suc a) n s (omega arith)))

-- ---- numbers, back to their bytes
two_back : (x y : ℕ) → x < 256 → y < 256 → be16 (x * 256 + y) ≡ x ∷ y ∷ []
two_back x y h k =
    let p : (x * 256 + y) / 256 % 256 ≡ x = omega arith in
    let q : (x * 256 + y) % 256 ≡ y = omega arith in
    cc

three_back : (x y z : ℕ) → x < 256 → y < 256 → z < 256 → be24 (x * 65536 + (y * 256 + z)) ≡ x ∷ y ∷ z ∷ []
three_back x y z h k l =
    let p : (x * 65536 + (y * 256 + z)) / 65536 % 256 ≡ x = omega arith in
    let q : (x * 65536 + (y * 256 + z)) / 256 % 256 ≡ y = omega arith in
    let r : (x * 65536 + (y * 256 + z)) % 256 ≡ z = omega arith in
    cc

counts-back : (x : ℕ) → x < 256 → counts (x / 16 % 16) (x % 16) ≡ x
counts-back x h = omega arith

one-back : (x : ℕ) → x < 256 → x % 256 ≡ x
one-back x h = omega arith

join : {a b c d : List ℕ} → a ≡ b → c ≡ d → a ++ c ≡ b ++ d
join p q = rw (p, q)

cons : {x y : ℕ} {c d : List ℕ} → x ≡ y → c ≡ d → ◌≡◌ {A = List ℕ} (x ∷ c) (y ∷ d)
cons p q = cc

-- a unit whose data is as long as it says
sized : (f : ℕ → Unit) {d : List ℕ} {n : ℕ} → length d ≡ n → FitsFields (f (length d)) d → FitsFields (f n) d
sized f e p = rw (← e) p

module _ (s : List ℕ) (b : Bytes s) where
  front-back : (U TYPE LEN : ℕ) → U % 2 * 128 + TYPE ≡ plain (u8_at s 0) → LEN ≡ u16_at s 1
      → front U TYPE LEN ≡ plain (u8_at s 0) ∷ u8_at s 1 ∷ u8_at s 2 ∷ []
  front-back U TYPE LEN p e = cons p (rw e (two_back (u8_at s 1) (u8_at s 2) (b 1) (b 2)))

  -- a header of k bytes behind byte 0, and n bytes of data behind it
  body_back : (used k n : ℕ) (x : Unit) → head_of x ≡ plain (u8_at s 0) ∷ singly k 1 s → 1 + k ≤ length s → used ≡ suc (k + n)
      → head_of x ++ part (1 + k) n s ≡ take used (plainly s)
  body_back used k n x e l u =
      rw (e, plainly-is s (omega arith), u) (ap (λ (r : List ℕ). plain (u8_at s 0) ∷ r) (singly-then k 1 n s l))

  -- ---- each TYPE: its numbers keep to the limits, and its header is the bytes that it was read from
  module _ (fits : 1 + u16_at s 1 ≤ length s) where
    whole_back : u8_at s 0 % 8 ≡ 1 → 8 ≤ u16_at s 1 → bad_fields (whole_at s (u8_at s 0 / 128) (u16_at s 1)) ≡ false
        → Back s (reading (1 + u16_at s 1) (whole_at s (u8_at s 0 / 128) (u16_at s 1)))
    unfolding bad_whole
    whole_back t l f =
        let n = u16_at s 1 - 8 in
        let d : length (part 9 n s) ≡ n = length_part 9 n s (omega arith) in
        let g = or-none _ _ f in
        record {
          fields = sized (whole (u8_at s 0 / 128) _ _ _) d
              (whole-unit (omega (arith, b 0)) (omega (arith, b 3, ne_of _ _ g.1)) (omega (arith, b 4, b 5, b 6))
              (omega (arith, ge-of _ _ g.0)) (omega (arith, b 1, b 2)));
          ends = omega arith;
          again = body_back (1 + u16_at s 1) 8 n (whole_at s (u8_at s 0 / 128) (u16_at s 1))
              (join (front-back _ 1 (n + 8) (rw (plain-kept (u8_at s 0) (omega arith)) (omega (arith, b 0))) (omega arith))
              (cons (one-back _ (b 3)) (join (three_back _ _ _ (b 4) (b 5) (b 6)) (two_back _ _ (b 7) (b 8)))))
              (omega arith) (omega arith);
        }

    string-back : u8_at s 0 % 8 ≡ 2 → 10 ≤ u16_at s 1 → bad_fields (string_at s (u8_at s 0 / 128) (u16_at s 1)) ≡ false
        → Back s (reading (1 + u16_at s 1) (string_at s (u8_at s 0 / 128) (u16_at s 1)))
    unfolding bad_part
    string-back t l f =
        let n = u16_at s 1 - 9 in
        let w : ℕ → P.Part = string_part (u8_at s 0 / 128) (u8_at s 3 / 16 % 16) (u8_at s 3 % 16) (u24_at s 4) (u8_at s 7) (u16_at s 8) in
        let d : length (part 10 n s) ≡ n = length_part 10 n s (omega arith) in
        let g = or-none _ _ f in
        let h = or-none _ _ g.1 in
        let i = or-none _ _ h.1 in
        record {
          fields = sized (λ m. Part (w m)) d
              (string-unit (omega (arith, b 0)) (omega (arith, ne_of _ _ h.0)) (ge-of _ _ i.0) (omega (arith, b 3))
              (omega (arith, b 4, b 5, b 6)) (omega (arith, b 7, ne_of _ _ i.1)) (omega (arith, b 8, b 9)) (omega arith)
              (omega (arith, b 1, b 2)));
          ends = omega arith;
          again = body_back (1 + u16_at s 1) 9 n (Part (w n))
              (string-head (w n) refl
              ∙ join (front-back _ 2 (n + 9) (rw (plain-kept (u8_at s 0) (omega arith)) (omega (arith, b 0))) (omega arith))
              (cons (counts-back _ (b 3)) (join (three_back _ _ _ (b 4) (b 5) (b 6)) (cons (one-back _ (b 7)) (two_back _ _ (b 8) (b 9))))))
              (omega arith) (omega arith);
        }

    modifiers-back : (TYPE : ℕ) → (TYPE ≡ 3) ⊎ (TYPE ≡ 4) → u8_at s 0 % 8 ≡ TYPE → 7 ≤ u16_at s 1
        → bad_fields (modifiers_at s TYPE (u16_at s 1)) ≡ false
        → Back s (reading (1 + u16_at s 1) (modifiers_at s TYPE (u16_at s 1)))
    unfolding bad_part
    modifiers-back TYPE o t l f =
        let n = u16_at s 1 - 6 in
        let w : ℕ → P.Part = modifiers_part TYPE (u8_at s 3 / 16 % 16) (u8_at s 3 % 16) (u24_at s 4) in
        let d : length (part 7 n s) ≡ n = length_part 7 n s (omega arith) in
        let g = or-none _ _ f in
        let h = or-none _ _ g.1 in
        let i = or-none _ _ h.1 in
        let least : 3 ≤ TYPE = ⊎_elim (λ k. omega arith) (λ k. omega arith) o in
        let most : TYPE ≤ 4 = ⊎_elim (λ k. omega arith) (λ k. omega arith) o in
        record {
          fields = sized (λ m. Part (w m)) d
              (modifiers-unit o (omega (arith, ne_of _ _ h.0)) (ge-of _ _ i.0) (omega (arith, b 3)) (omega (arith, b 4, b 5, b 6))
              (omega arith) (omega (arith, b 1, b 2)));
          ends = omega arith;
          again = body_back (1 + u16_at s 1) 6 n (Part (w n))
              (modifiers-head (w n) (λ k. omega arith)
              ∙ join (front-back 0 (TYPE % 8) (n + 6) (rw (plain-bare (u8_at s 0) (omega arith) (omega arith)) (omega arith)) (omega arith))
              (cons (counts-back _ (b 3)) (three_back _ _ _ (b 4) (b 5) (b 6))))
              (omega arith) (omega arith);
        }

    description-back : u8_at s 0 % 8 ≡ 5 → 4 ≤ u16_at s 1 → bad_fields (description_at s (u16_at s 1)) ≡ false
        → Back s (reading (1 + u16_at s 1) (description_at s (u16_at s 1)))
    unfolding bad_description
    description-back t l f =
        let n = u16_at s 1 - 3 in
        let d : length (part 4 n s) ≡ n = length_part 4 n s (omega arith) in
        record {
          fields = sized (description _) d (description-unit (omega (arith, ge-of _ _ f)) (omega arith) (omega (arith, b 1, b 2)));
          ends = omega arith;
          again = body_back (1 + u16_at s 1) 3 n (description_at s (u16_at s 1))
              (join (front-back 0 5 (n + 3) (rw (plain-bare (u8_at s 0) (omega arith) (omega arith)) (omega arith)) (omega arith))
              (cons (one-back _ (b 3)) refl))
              (omega arith) (omega arith);
        }

    -- TYPE by TYPE
    pub fields_back : least (u8_at s 0 % 8) ≤ u16_at s 1
        → bad_fields (fields_at s) ≡ false
        → HasData (fields_at s)
        → Back s (reading (1 + u16_at s 1) (fields_at s))
    unfolding fields_of
    fields_back l =
        each P _ _ _ (λ q f h. let t = eq_of _ _ q in whole_back t (omega (arith, at_least 1 t, leasts.0)) f)
        (λ q. each P _ _ _ (λ q f h. let t = eq_of _ _ q in string-back t (omega (arith, at_least 2 t, leasts.1)) f)
        (λ q. each P _ _ _ (λ q f h. let t = eq_of _ _ q in modifiers-back 3 (inl refl) t (omega (arith, at_least 3 t, leasts.2)) f)
        (λ q. each P _ _ _ (λ q f h. let t = eq_of _ _ q in modifiers-back 4 (inr refl) t (omega (arith, at_least 4 t, leasts.3)) f)
        (λ q. each P _ _ _ (λ q f h. let t = eq_of _ _ q in description-back t (omega (arith, at_least 5 t, leasts.4)) f)
        (λ q f h. absurd h)))))
      where
        P : Unit → Type 0
        P x = bad_fields x ≡ false → HasData x → Back s (reading (1 + u16_at s 1) x)

        at_least : (TYPE : ℕ) → u8_at s 0 % 8 ≡ TYPE → least TYPE ≤ u16_at s 1
        at_least TYPE t = rw (← t) l

-- ---- the laws
reads-back : (s : List ℕ) → Bytes s → HasData (read_of s).unit → Back s (read_of s)
reads-back s b =
    each_read (λ (r : Reading). HasData r.unit → Back s r) s (λ z h. absurd h) (λ k h. absurd h) (λ k m h. absurd h)
    (λ k m l f w h. absurd h) (λ k m l f w. fields_back s b m l f)

module _ (s : List ℕ) (b : Bytes s) (h : HasData (read_of s).unit) where
  -- what is read is a proper unit with its data
  pub read-proper : Proper (read_of s).unit (data_of s (read_of s).unit)
  read-proper = record { fields = (reads-back s b h).fields; text = read-well s }

  -- the bytes used end where its data ends, and that is in the rest
  pub read-ends : ((read_of s).used ≡ end_of (read_of s).unit) × ((read_of s).used ≤ length s)
  read-ends = ((reads-back s b h).ends, (reads-uses s).most)

  -- put down again, it is the very bytes that were used
  pub read_again : bytes_of (read_of s).unit (data_of s (read_of s).unit) ≡ take (read_of s).used (plainly s)
  read_again = (reads-back s b h).again
