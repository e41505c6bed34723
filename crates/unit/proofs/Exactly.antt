-- Refusals 4 and 17, exactly. Of the rests of bytes that pass 1 to 3 and skipped, 4 is given to those at whose front no unit stands whose
-- numbers fit their fields; of all rests of bytes, 17 to those at whose front one stands whose text is not well-formed, and a unit with
-- data is read of those at whose front one stands whose text is. Assumes nothing.
use Rattle.std.specs.Prelude.{ℕ, ◌+◌, ◌%◌, ◌<◌, ◌≤◌, ◌≡◌, refl, true, false, ◌⊎◌, List, ◌++◌, length, drop}
use Rattle.std.proofs.Common.{arith, sym, ap, subst, ◌∙◌, true≢false, ⊎_elim, take-append-drop}
use Rattle.std.proofs.Math.Logic.{inl, inr}
use Rattle.laws.specs.Exactly.{Exactly}
use Rattle.laws.specs.Rows.{each, ne_of}
use Rattle.octets.specs.Be.{u8_at, u16_at, Bytes}
use Rattle.paper.specs.declared.Refusal.TheVariants.{Fields, IllFormed}
use Rattle.unit.specs.declared.Unit.{Unit}
use Rattle.unit.specs.declared.Unit.TheVariants.{End, Skipped, Refused, Whole, Part, Description}
use Rattle.unit.specs.declared.Reading.{Reading}
use Rattle.unit.specs.Layout.{fields_of, fields_at, least, bad_fields, data_of, text_of, ill_text, broken, text_judged, read_of}
use Rattle.unit.specs.Text.{WellText}
use Rattle.unit.proofs.Text.{text-each, passed-well, well-not-ill, text-passes, no_text}
use Rattle.unit.specs.Again.{FitsFields, whole-unit, string-unit, modifiers-unit, description-unit, bytes_of}
use Rattle.unit.proofs.Again.{data-again, fields-again}
use Rattle.unit.specs.Converse.{plainly, HasData}
use Rattle.unit.proofs.Converse.{plainly-read, fields_back}
use Rattle.unit.specs.Reads.{refusal_of}
use Rattle.unit.proofs.Readings.{each_read, fields-bare}
use Rattle.unit.specs.Exactly.{Leads, LeadsIll, LeadsWell}

fields_data : {x : Unit} {d : List ℕ} → FitsFields x d → HasData x
fields_data (whole-unit hu hi hs ht hl) = tt
fields_data (string-unit hu h1 h2 h3 hs hi hl hd hn) = tt
fields_data (modifiers-unit ht h1 h2 h3 hs hd hn) = tt
fields_data (description-unit hi hd hn) = tt

-- ---- where one stands, it is read, or refused by 17
module _ (s : List ℕ) (u : Leads s) where
  abbrev there : List ℕ
  there = bytes_of u.x u.d ++ u.more

  leads-to : (read_of s).unit ≡ text_judged there u.x
  leads-to = ap (λ (r : Reading). r.unit) (plainly-read s ∙ ap read_of u.same ∙ fields-again u.x u.d u.more u.fields)

  its-data : data_of there u.x ≡ u.d
  its-data = data-again u.x u.d u.more u.fields

  pub leads-read : WellText u.x u.d → (read_of s).unit ≡ u.x
  leads-read w = leads-to ∙ text-passes there u.x (subst (WellText u.x) (sym its-data) w)

  leads-refused : (WellText u.x u.d → ⊥) → (read_of s).unit ≡ Refused IllFormed
  leads-refused n =
      leads-to
      ∙ text-each (λ (y : Unit). y ≡ Refused IllFormed) there u.x refl
      (λ h. absurd (n (subst (WellText u.x) its-data (passed-well there u.x h))))

-- ---- and where 4 lets one through, it stands
module _ (s : List ℕ) (b : Bytes s) (m : 1 + u16_at s 1 ≤ length s) (l : least (u8_at s 0 % 8) ≤ u16_at s 1)
    (f : bad_fields (fields_at s) ≡ false) where
  abbrev fields-lead : HasData (fields_at s) → Leads s
  fields-lead h =
      let r = fields_back s b m l f h in
      record {
        x = fields_at s;
        d = data_of s (fields_at s);
        more = drop (1 + u16_at s 1) (plainly s);
        fields = r.fields;
        same = sym (rw r.again (take-append-drop (1 + u16_at s 1) (plainly s)));
      }

-- what the table says of a unit: one with data, or a TYPE that is skipped
module _ (s : List ℕ) where
  abbrev TYPE : ℕ
  TYPE = u8_at s 0 % 8

  abbrev Sorted : Unit → Type 0
  Sorted x = HasData x ⊎ ((x ≡ Skipped TYPE) × (1 ≤ TYPE → TYPE ≤ 5 → ⊥))

  sorted : Sorted (fields_at s)
  unfolding fields_of
  sorted =
      each Sorted _ _ _ (λ q. inl tt)
      (λ a. each Sorted _ _ _ (λ q. inl tt)
      (λ b. each Sorted _ _ _ (λ q. inl tt)
      (λ c. each Sorted _ _ _ (λ q. inl tt)
      (λ d. each Sorted _ _ _ (λ q. inl tt)
      (λ e. inr (refl, λ h k. omega (arith, ne_of _ _ a, ne_of _ _ b, ne_of _ _ c, ne_of _ _ d, ne_of _ _ e)))))))

has-none : (x : Unit) → HasData x → refusal_of x ≡ 0
has-none (Whole w) h = refl
has-none (Part w) h = refl
has-none (Description w) h = refl
has-none End h = refl
has-none (Skipped t) h = refl
has-none (Refused r) h = absurd h

-- ---- refusal 4 is given exactly if no unit stands at the front whose numbers fit
module _ (s : List ℕ) (some : 0 < length s) (framed : broken s ≡ false) (low : 1 ≤ u8_at s 0 % 8) (high : u8_at s 0 % 8 ≤ 5) where
  pub four-exactly : Bytes s → Exactly ((read_of s).unit ≡ Refused Fields) (Leads s → ⊥)
  four-exactly b = (
    (λ e u.
        text-each (λ (y : Unit). y ≡ Refused Fields → ⊥) (there s u) u.x (λ q. omega (arith, ap refusal_of q))
        (λ w q. omega (arith, ap refusal_of q, has-none u.x (fields_data u.fields))) (sym (leads-to s u) ∙ e)),
    (λ n.
        each_read (λ (r : Reading). r.unit ≡ Refused Fields) s (λ z. absurd (omega arith)) (λ k. absurd (true≢false (sym k ∙ framed)))
        (λ k m. refl) (λ k m l f w. absurd (stands n m l f)) (λ k m l f w. absurd (stands n m l f))),
  )
    where
      stands : (Leads s → ⊥) → 1 + u16_at s 1 ≤ length s → least (u8_at s 0 % 8) ≤ u16_at s 1 → bad_fields (fields_at s) ≡ false → ⊥
      stands n m l f = ⊎_elim (λ h. n (fields-lead s b m l f h)) (λ k. k.1 low high) (sorted s)

pub seventeen-exactly : (s : List ℕ) → Bytes s → Exactly ((read_of s).unit ≡ Refused IllFormed) (LeadsIll s)
seventeen-exactly s b = (
  each_read (λ (r : Reading). r.unit ≡ Refused IllFormed → LeadsIll s) s (λ z e. absurd (omega (arith, ap refusal_of e)))
      (λ k e. absurd (omega (arith, ap refusal_of e))) (λ k m e. absurd (omega (arith, ap refusal_of e))) (λ k m l f w e. ill m l f w)
      (λ k m l f w e. absurd (omega (arith, ap refusal_of e, fields-bare s))),
  λ i. leads-refused s i.leads i.text,
)
  where
    no-ill : {A : Type 0} → ill_text s (fields_at s) ≡ true → WellText (fields_at s) (data_of s (fields_at s)) → A
    no-ill w t = absurd (true≢false (sym w ∙ well-not-ill s (fields_at s) t))

    ill : 1 + u16_at s 1 ≤ length s → least (u8_at s 0 % 8) ≤ u16_at s 1 → bad_fields (fields_at s) ≡ false → ill_text s (fields_at s) ≡ true
        → LeadsIll s
    ill m l f w =
        ⊎_elim (λ h. record { leads = fields-lead s b m l f h; text = λ t. no-ill w t })
        (λ k. no-ill w (no_text s (fields_at s) (ap (λ (x : Unit). text_of x (data_of s x)) k.0))) (sorted s)

pub read-exactly : (s : List ℕ) → Bytes s → Exactly (HasData (read_of s).unit) (LeadsWell s)
read-exactly s b = (
  each_read (λ (r : Reading). HasData r.unit → LeadsWell s) s (λ z h. absurd h) (λ k h. absurd h) (λ k m h. absurd h)
      (λ k m l f w h. absurd h) (λ k m l f w h. record { leads = fields-lead s b m l f h; text = passed-well s (fields_at s) w }),
  λ i. subst HasData (sym (leads-read s i.leads i.text)) (fields_data i.leads.fields),
)
