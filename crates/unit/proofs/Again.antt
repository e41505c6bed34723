-- 'Unit again': reading the bytes of a unit, whatever follows them, gives that unit and exactly its length; and what the paper says
-- is ignored does not change what is read. Assumes nothing.
use Rattle.std.specs.Prelude.{ℕ, ◌+◌, ◌-◌, ◌*◌, ◌/◌, ◌%◌, ◌<◌, ◌≤◌, List, ◌∷◌, ◌++◌, true, false, ◌≡◌, refl, ◌⊎◌, length}
use Rattle.std.proofs.Common.{arith, sym, ap, ◌∙◌, ⊎_elim, length-append, take_at}
use Rattle.laws.specs.Rows.{◌⇒◌⁏◌, ◌=?◌, ◌<?◌, each, yes, no, ge, eq, ne}
use Rattle.octets.specs.Be.{u16_at, be16, be24}
use Rattle.paper.specs.Limits.{durations, reserved, parts_most}
use Rattle.unit.specs.declared.Unit.{Unit}
use Rattle.unit.specs.declared.Unit.TheVariants.{Part}
use Rattle.unit.specs.Layout.{whole, string_part, modifiers_part, description, fields_of, least, bad_whole, bad_part, bad_description}
use Rattle.unit.specs.Layout.{bad_fields, data_of, reading, broken, judged, judged_of, text_judged, ill_text, read_of}
use Rattle.unit.proofs.Text.{text-passes}
use Rattle.unit.specs.Head.{front, counts, string-head, modifiers-head}
use Rattle.unit.specs.Again.{FitsFields, whole-unit, string-unit, modifiers-unit, description-unit, Proper, bytes_of}

-- ---- numbers, back from their bytes
two : (x : ℕ) → x < 65536 → x / 256 % 256 * 256 + x % 256 ≡ x
two x h = omega arith

three : (x : ℕ) → x < durations → x / 65536 % 256 * 65536 + (x / 256 % 256 * 256 + x % 256) ≡ x
three x h = omega arith

high : (a b : ℕ) → a ≤ parts_most → counts a b / 16 % 16 ≡ a
high a b h = omega arith

low : (a b : ℕ) → b ≤ parts_most → counts a b % 16 ≡ b
low a b h = omega arith

one : (x : ℕ) → x ≤ reserved → x % 256 ≡ x
one x h = omega arith

-- ---- the frame and the order of answers, once for every TYPE: r is what stands behind LEN
framed : (U TYPE LEN used : ℕ) (r : List ℕ) (x : Unit) → U < 2 → TYPE < 8 → LEN < 65536 → LEN ≤ 2 + length r → used ≡ 1 + LEN
    → least TYPE ≤ LEN → 2 ≤ least TYPE → bad_fields x ≡ false → fields_of (front U TYPE LEN ++ r) U TYPE LEN ≡ x
    → read_of (front U TYPE LEN ++ r) ≡ reading used (text_judged (front U TYPE LEN ++ r) x)
unfolding read_of broken judged
framed U TYPE LEN used r x hu ht hm hr q hk hl hf e =
    let a : (U % 2 * 128 + TYPE) / 128 ≡ U = omega arith in
    let b : (U % 2 * 128 + TYPE) % 8 ≡ TYPE = omega arith in
    sym
    (no _ _ (ne _ _ (λ h. omega arith))
    (no _ _ (sym (no _ _ (ge _ _ (omega arith)) (no _ _ (ge _ _ (omega arith)) (sym (ge _ _ (omega arith))))))
    (rw (a, b, two LEN hm, e, q)
    (ap (λ (y : Unit). reading (1 + LEN) (text_judged (front U TYPE LEN ++ r) y)) (no _ _ (ge _ _ hk) (no _ _ hf refl))))))

-- the least LEN, row by row
pub leasts : (least 1 ≡ 8) × (least 2 ≡ 10) × (least 3 ≡ 7) × (least 4 ≡ 7) × (least 5 ≡ 4)
unfolding least ◌⇒◌⁏◌ ◌=?◌
leasts = (refl, refl, refl, refl, refl)

counted : (TOTAL THIS SIDX : ℕ) → 0 < THIS → THIS ≤ TOTAL → SIDX < reserved
    → (TOTAL =? 0 ⇒ true ⁏ THIS =? 0 ⇒ true ⁏ TOTAL <? THIS ⇒ true ⁏ SIDX =? reserved) ≡ false
counted TOTAL THIS SIDX h1 h2 hi =
    sym (no _ _ (ne _ _ (λ h. omega arith)) (no _ _ (ne _ _ (λ h. omega arith)) (no _ _ (ge _ _ h2) (sym (ne _ _ (λ h. omega arith))))))

-- ---- the data of a unit that was read is what was sent as its data
pub data-again : (x : Unit) (d more : List ℕ) → FitsFields x d → data_of (bytes_of x d ++ more) x ≡ d
data-again x d more (whole-unit hu hi hs ht hl) = take_at d more (length d) refl
data-again x d more (string-unit {U} {TOTAL} {THIS} {SDUR} {SIDX} {SLEN} hu h1 h2 h3 hs hi hl hd hn) =
    rw (string-head (string_part U TOTAL THIS SDUR SIDX SLEN (length d)) refl) (take_at d more (length d) refl)
data-again x d more (modifiers-unit {TYPE} {TOTAL} {THIS} {SDUR} ht h1 h2 h3 hs hd hn) =
    rw (modifiers-head (modifiers_part TYPE TOTAL THIS SDUR (length d)) (λ h. ⊎_elim (λ k. omega arith) (λ k. omega arith) ht))
    (take_at d more (length d) refl)
data-again x d more (description-unit hi hd hn) = take_at d more (length d) refl

-- ---- a unit that fits reaches 17, one case a TYPE: where its numbers stand, and that they pass its limits
pub fields-again : (x : Unit) (d more : List ℕ) → FitsFields x d
    → read_of (bytes_of x d ++ more) ≡ reading (length (bytes_of x d)) (text_judged (bytes_of x d ++ more) x)
unfolding fields_of bad_whole bad_part bad_description
fields-again x d more (whole-unit {U} {SIDX} {SDUR} {TLEN} hu hi hs ht hl) =
    let n = length d in
    let z : n + 8 - 8 ≡ n = omega arith in
    framed U 1 (n + 8) _ (SIDX % 256 ∷ be24 SDUR ++ be16 TLEN ++ d ++ more) (whole U SIDX SDUR TLEN n)
    hu (omega arith) hl (omega (arith, length-append d more)) (omega arith) (omega (arith, leasts)) (omega (arith, leasts))
    (sym (no _ _ (ge _ _ ht) (sym (ne _ _ (λ h. omega arith)))))
    (sym (yes _ _ (eq _ _ refl) (rw (three SDUR hs, two TLEN (omega arith), one SIDX (omega arith), z))))
fields-again x d more (string-unit {U} {TOTAL} {THIS} {SDUR} {SIDX} {SLEN} hu h1 h2 h3 hs hi hl hd hn) =
    let n = length d in
    let z : n + 9 - 9 ≡ n = omega arith in
    rw (string-head (string_part U TOTAL THIS SDUR SIDX SLEN n) refl)
    (framed U 2 (n + 9) _ (counts TOTAL THIS ∷ be24 SDUR ++ SIDX % 256 ∷ be16 SLEN ++ d ++ more) (Part (string_part U TOTAL THIS SDUR SIDX SLEN n))
    hu (omega arith) hn (omega (arith, length-append d more)) (omega arith) (omega (arith, leasts)) (omega (arith, leasts))
    (counted TOTAL THIS SIDX h1 h2 hi)
    (sym
    (no _ _ (ne _ _ (λ h. omega arith))
    (yes _ _ (eq _ _ refl)
    (rw (high TOTAL THIS (omega arith), low TOTAL THIS (omega arith), three SDUR hs, two SLEN hl, one SIDX (omega arith), z))))))
fields-again x d more (modifiers-unit {TYPE} {TOTAL} {THIS} {SDUR} ht h1 h2 h3 hs hd hn) =
    let n = length d in
    let z : n + 6 - 6 ≡ n = omega arith in
    let l : least TYPE ≡ 7 = ⊎_elim (λ k. rw k leasts.2) (λ k. rw k leasts.3) ht in
    let m : TYPE % 8 ≡ TYPE = ⊎_elim (λ k. rw k) (λ k. rw k) ht in
    let a = high TOTAL THIS (omega arith) in
    let b = low TOTAL THIS (omega arith) in
    rw (modifiers-head (modifiers_part TYPE TOTAL THIS SDUR n) (λ h. ⊎_elim (λ k. omega arith) (λ k. omega arith) ht), m)
    (framed 0 TYPE (n + 6) _ (counts TOTAL THIS ∷ be24 SDUR ++ d ++ more) (Part (modifiers_part TYPE TOTAL THIS SDUR n))
    (omega arith) (⊎_elim (λ k. omega arith) (λ k. omega arith) ht) hn (omega (arith, length-append d more)) (omega arith)
    (omega arith) (omega arith) (counted TOTAL THIS 0 h1 h2 (omega arith))
    (sym
    (no _ _ (ne _ _ (λ q. ⊎_elim (λ k. omega arith) (λ k. omega arith) ht))
    (no _ _ (ne _ _ (λ q. ⊎_elim (λ k. omega arith) (λ k. omega arith) ht))
    (⊎_elim
    (λ k. yes _ _ (eq _ _ k) (rw (a, b, three SDUR hs, z, k)))
    (λ k. no _ _ (ne _ _ (λ q. omega arith)) (yes _ _ (eq _ _ k) (rw (a, b, three SDUR hs, z, k))))
    ht)))))
fields-again x d more (description-unit {SIDX} hi hd hn) =
    let n = length d in
    let z : n + 3 - 3 ≡ n = omega arith in
    framed 0 5 (n + 3) _ (SIDX % 256 ∷ d ++ more) (description SIDX n)
    (omega arith) (omega arith) hn (omega (arith, length-append d more)) (omega arith) (omega (arith, leasts)) (omega (arith, leasts))
    (ge _ _ (omega arith))
    (sym
    (no _ _ (ne _ _ (λ h. omega arith))
    (no _ _ (ne _ _ (λ h. omega arith))
    (no _ _ (ne _ _ (λ h. omega arith))
    (no _ _ (ne _ _ (λ h. omega arith))
    (yes _ _ (eq _ _ refl) (rw (one SIDX (omega arith), z))))))))

-- ---- the law: a proper one passes it
pub unit-again : (x : Unit) (d more : List ℕ) → Proper x d → read_of (bytes_of x d ++ more) ≡ reading (length (bytes_of x d)) x
unit-again x d more p =
    fields-again x d more p.fields
    ∙ ap (reading (length (bytes_of x d)))
    (text-passes (bytes_of x d ++ more) x (rw (data-again x d more p.fields) p.text))

-- ---- what is ignored: the R bits, and U in every TYPE but 1 and 2
-- byte 0 is not in the data
same-data : (b c : ℕ) (s : List ℕ) → data_of (b ∷ s) (judged_of (b ∷ s)) ≡ data_of (c ∷ s) (judged_of (b ∷ s))
unfolding fields_of judged
same-data b c s =
    each S _ _ _ (λ l. refl)
    (λ l. each S _ _ _ (λ f. refl)
    (λ f. each S _ _ _ (λ q. refl)
    (λ q. each S _ _ _ (λ q. refl)
    (λ q. each S _ _ _ (λ q. refl) (λ q. each S _ _ _ (λ q. refl) (λ q. each S _ _ _ (λ q. refl) (λ q. refl)))))))
  where
    S : Unit → Type 0
    S x = data_of (b ∷ s) x ≡ data_of (c ∷ s) x

pub ignored : (b c : ℕ) (s : List ℕ) → b % 8 ≡ c % 8 → (b / 128 ≡ c / 128) ⊎ ((b % 8 ≡ 1 → ⊥) × (b % 8 ≡ 2 → ⊥))
    → read_of (b ∷ s) ≡ read_of (c ∷ s)
unfolding read_of broken fields_of judged ill_text text_judged
ignored b c s e h =
    let f : fields_of (b ∷ s) (b / 128) (b % 8) (u16_at (b ∷ s) 1) ≡ fields_of (b ∷ s) (c / 128) (b % 8) (u16_at (b ∷ s) 1) =
    ⊎_elim
    (λ k. rw k)
    (λ k. sym (no _ _ (ne _ _ k.0) (no _ _ (ne _ _ k.1) refl)) ∙ no _ _ (ne _ _ k.0) (no _ _ (ne _ _ k.1) refl)) h in
    let g : judged_of (b ∷ s) ≡ judged_of (c ∷ s) = rw (f, e) in
    rw (same-data b c s, g)
