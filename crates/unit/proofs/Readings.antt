-- What every reading keeps to: how many bytes it uses, which refusals it gives, what a part counts, that a sample is there, and that its
-- text is well-formed. Assumes nothing.
use Rattle.std.specs.Prelude.{ℕ, ◌+◌, ◌-◌, ◌/◌, ◌%◌, ◌≤◌, ◌≡◌, refl, true, false, ◌≢◌, List, [], length, take}
use Rattle.std.proofs.Common.{arith, sym, ap, subst, ◌∙◌, inl, inr, ⊎_elim}
use Rattle.laws.specs.Rows.{each, eq_of, ne_of, ge-of, or-none}
use Rattle.laws.specs.Region.{length_part}
use Rattle.octets.specs.Be.{u8_at, u16_at}
use Rattle.text.specs.Unicode.{WellFormed}
use Rattle.text.proofs.Strings.{empty-well}
use Rattle.paper.specs.Words.{number_of}
use Rattle.paper.specs.declared.Refusal.{Refusal}
use Rattle.paper.specs.declared.Refusal.TheVariants as R
use Rattle.unit.specs.declared.Whole as W
use Rattle.unit.specs.declared.Part as P
use Rattle.unit.specs.declared.Unit.{Unit}
use Rattle.unit.specs.declared.Unit.TheVariants.{End, Skipped, Refused, Whole, Part, Description}
use Rattle.unit.specs.declared.Reading.{Reading}
use Rattle.unit.specs.Layout.{fields_of, fields_at, least, bad_whole, bad_part, bad_fields, data_of}
use Rattle.unit.specs.Layout.{ill_text, reading, broken, judged, text_judged, read_of}
use Rattle.unit.specs.Text.{WellText}
use Rattle.unit.proofs.Text.{string-text, passed-well, text-passes, no_text}
use Rattle.unit.proofs.Again.{leasts}
use Rattle.unit.specs.Reads.{refusal_of, Uses, ByReader, Counted, Small, SamplesThere}

-- ---- what holds of each answer, where its row is reached, holds of what is read
pub each_read : (P : Reading → Type 0) (s : List ℕ) → let used = 1 + u16_at s 1 in
    (length s ≡ 0 → P (reading 0 End))
    → (broken s ≡ true → P (reading (length s) (Refused R.Frame)))
    → (broken s ≡ false → used ≤ length s → P (reading used (Refused R.Fields)))
    → (broken s ≡ false → used ≤ length s → least (u8_at s 0 % 8) ≤ u16_at s 1 → bad_fields (fields_at s) ≡ false
    → ill_text s (fields_at s) ≡ true → P (reading used (Refused R.IllFormed)))
    → (broken s ≡ false → used ≤ length s → least (u8_at s 0 % 8) ≤ u16_at s 1 → bad_fields (fields_at s) ≡ false
    → ill_text s (fields_at s) ≡ false → P (reading used (fields_at s)))
    → P (read_of s)
unfolding read_of broken judged text_judged
each_read P s end frame four seventeen through =
    each P _ _ _ (λ q. end (eq_of _ _ q))
    (λ q. each P _ _ _ frame
    (λ b.
    let m = room b in
    each Q _ _ _ (λ l. fields (four b m))
    (λ l. each Q _ _ _ (λ f. fields (four b m)) (λ f. text (seventeen b m (ge-of _ _ l) f) (through b m (ge-of _ _ l) f)))))
  where
    used : ℕ
    used = 1 + u16_at s 1

    Q : Unit → Type 0
    Q x = P (reading used (text_judged s x))

    room : broken s ≡ false → used ≤ length s
    room b = ge-of _ _ (or-none _ _ (or-none _ _ b).1).1

    fields : P (reading used (Refused R.Fields)) → Q (Refused R.Fields)
    fields p = subst (λ (x : Unit). P (reading used x)) (sym (text-passes s (Refused R.Fields) (no_text s (Refused R.Fields) refl))) p

    text : {x : Unit} → (ill_text s x ≡ true → P (reading used (Refused R.IllFormed))) → (ill_text s x ≡ false → P (reading used x)) → Q x
    text a b = each (λ (y : Unit). P (reading used y)) _ _ _ a b

-- the same of the unit alone
pub each-unit : (P : Unit → Type 0) (s : List ℕ) → P End → P (Refused R.Frame) → P (Refused R.Fields) → P (Refused R.IllFormed)
    → (1 + u16_at s 1 ≤ length s → least (u8_at s 0 % 8) ≤ u16_at s 1 → bad_fields (fields_at s) ≡ false → ill_text s (fields_at s) ≡ false
    → P (fields_at s))
    → P (read_of s).unit
each-unit P s end frame four seventeen through =
    each_read (λ (r : Reading). P r.unit) s (λ z. end) (λ b. frame) (λ b m. four) (λ b m l f w. seventeen) (λ b m l f w. through m l f w)

pub reads-uses : (s : List ℕ) → Uses s (read_of s)
reads-uses s =
    each_read (Uses s) s (λ z. record { most = omega arith; some = λ h. absurd (omega arith) })
    (λ b. record { most = omega arith; some = λ h. h })
    (λ b m. record { most = m; some = λ h. omega arith }) (λ b m l f w. record { most = m; some = λ h. omega arith })
    (λ b m l f w. record { most = m; some = λ h. omega arith })

-- 17 uses the unit
pub seventeen-uses : (s : List ℕ) → (read_of s).unit ≡ Refused R.IllFormed → (read_of s).used ≡ 1 + u16_at s 1
seventeen-uses s =
    each_read (λ (r : Reading). r.unit ≡ Refused R.IllFormed → r.used ≡ 1 + u16_at s 1) s (λ z e. absurd (omega (arith, ap refusal_of e)))
    (λ b e. absurd (omega (arith, ap refusal_of e))) (λ b m e. refl) (λ b m l f w e. refl) (λ b m l f w e. refl)

-- the table refuses nothing
pub fields-bare : (s : List ℕ) → refusal_of (fields_at s) ≡ 0
unfolding fields_of
fields-bare s =
    each B _ _ _ (λ q. refl)
    (λ q. each B _ _ _ (λ q. refl)
    (λ q. each B _ _ _ (λ q. refl) (λ q. each B _ _ _ (λ q. refl) (λ q. each B _ _ _ (λ q. refl) (λ q. refl)))))
  where
    B : Unit → Type 0
    B x = refusal_of x ≡ 0

-- so none has another number
pub other-number : (r : Refusal) (n : ℕ) → ByReader (Refused r) → n ≢ 3 → n ≢ 4 → n ≢ 17 → number_of r ≢ n
other-number r n k a b c e =
    ⊎_elim (λ q. a (sym e ∙ ap number_of q)) (λ w. ⊎_elim (λ q. b (sym e ∙ ap number_of q)) (λ q. c (sym e ∙ ap number_of q)) w) k

fields-by-reader : (s : List ℕ) (U TYPE LEN : ℕ) → ByReader (fields_of s U TYPE LEN)
unfolding fields_of
fields-by-reader s U TYPE LEN =
    each ByReader _ _ _ (λ q. tt) (λ q. each ByReader _ _ _ (λ q. tt) (λ q. each ByReader _ _ _ (λ q. tt) (λ q. each ByReader _ _ _ (λ q. tt) (λ q. each ByReader _ _ _ (λ q. tt) (λ q. tt)))))

pub read-by-reader : (s : List ℕ) → ByReader (read_of s).unit
read-by-reader s = each-unit ByReader s tt (inl refl) (inr (inl refl)) (inr (inr refl)) (λ m l f w. fields-by-reader s _ _ _)

-- the one that has the number 17 is 17
pub by_number : (s : List ℕ) → refusal_of (read_of s).unit ≡ 17 → (read_of s).unit ≡ Refused R.IllFormed
by_number s =
    each-unit (λ (x : Unit). refusal_of x ≡ 17 → x ≡ Refused R.IllFormed) s (λ e. absurd (omega arith)) (λ e. absurd (omega arith))
    (λ e. absurd (omega arith)) (λ e. refl) (λ m l f w e. absurd (omega (arith, fields-bare s)))

fields-small : (s : List ℕ) (U TYPE LEN : ℕ) → Small (fields_of s U TYPE LEN)
unfolding fields_of
fields-small s U TYPE LEN =
    each Small _ _ _ (λ q. tt)
    (λ q. each Small _ _ _ (λ q. omega arith)
    (λ q. each Small _ _ _ (λ q. omega arith)
    (λ q. each Small _ _ _ (λ q. omega arith) (λ q. each Small _ _ _ (λ q. tt) (λ q. tt)))))

let_through : (x : Unit) → Small x → bad_fields x ≡ false → Counted x
unfolding bad_part
let_through End s b = tt
let_through (Skipped t) s b = tt
let_through (Refused r) s b = tt
let_through (Whole w) s b = tt
let_through (Part w) s b =
    let n = or-none _ _ (or-none _ _ b).1 in
    let z = ne_of _ _ n.0 in
    record { from = omega arith; to = ge-of _ _ (or-none _ _ n.1).0; most = s }
let_through (Description w) s b = tt

pub reads-counted : (s : List ℕ) → Counted (read_of s).unit
reads-counted s =
    each-unit Counted s tt tt tt tt
    (λ m l f w. let_through (fields_at s) (fields-small s (u8_at s 0 / 128) (u8_at s 0 % 8) (u16_at s 1)) f)

fields-there : (s : List ℕ) → 1 + u16_at s 1 ≤ length s → least (u8_at s 0 % 8) ≤ u16_at s 1 → bad_fields (fields_at s) ≡ false
    → SamplesThere s (fields_at s)
unfolding fields_of bad_whole
fields-there s m l =
    each H _ _ _
    (λ q f.
    let t = eq_of _ _ q in
    let k : 8 ≤ u16_at s 1 = subst (λ (n : ℕ). n ≤ u16_at s 1) (ap least t ∙ leasts.0) l in
    record { sample = length_part 9 (u16_at s 1 - 8) s (omega arith); string = ge-of _ _ (or-none _ _ f).0 })
    (λ q. each H _ _ _ (λ q f. tt)
    (λ q. each H _ _ _ (λ q f. tt)
    (λ q. each H _ _ _ (λ q f. tt) (λ q. each H _ _ _ (λ q f. tt) (λ q f. tt)))))
  where
    H : Unit → Type 0
    H x = bad_fields x ≡ false → SamplesThere s x

pub reads-there : (s : List ℕ) → SamplesThere s (read_of s).unit
reads-there s = each-unit (SamplesThere s) s tt tt tt tt (λ m l f w. fields-there s m l f)

-- ---- whatever is read as TYPE 1 has a well-formed string, and as TYPE 2 well-formed data
pub read-well : (s : List ℕ) → WellText (read_of s).unit (data_of s (read_of s).unit)
read-well s =
    each-unit (λ (x : Unit). WellText x (data_of s x)) s (empty-well 0 [] refl) (empty-well 0 [] refl) (empty-well 0 [] refl)
    (empty-well 0 [] refl) (λ m l f w. passed-well s (fields_at s) w)

pub whole-read-well : (s : List ℕ) (w : W.Whole) → (read_of s).unit ≡ Whole w → WellFormed w.u (take w.tlen (data_of s (Whole w)))
whole-read-well s w e = subst (λ (x : Unit). WellText x (data_of s x)) e (read-well s)

pub string-read-well : (s : List ℕ) (w : P.Part) → (read_of s).unit ≡ Part w → w.kind ≡ 2 → WellFormed w.u (data_of s (Part w))
string-read-well s w e k =
    subst (WellFormed w.u) (string-text w (data_of s (Part w)) k) (subst (λ (x : Unit). WellText x (data_of s x)) e (read-well s))
