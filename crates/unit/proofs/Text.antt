-- The text of a unit, and what 17 lets through. Assumes nothing.
use Rattle.std.specs.Prelude.{ℕ, ◌≡◌, refl, false, not, List, [], length}
use Rattle.std.proofs.Common.{sym, ap}
use Rattle.laws.specs.Rows.{each, yes, no, eq, ne, not-of}
use Rattle.paper.specs.declared.Refusal.TheVariants.{IllFormed}
use Rattle.text.specs.Unicode.{well_formed}
use Rattle.text.proofs.Strings.{well-formed, well-found, empty-well}
use Rattle.unit.specs.declared.Part as P
use Rattle.unit.specs.declared.Unit.{Unit}
use Rattle.unit.specs.declared.Unit.TheVariants.{Refused, Part}
use Rattle.unit.specs.Layout.{data_of, text_of, ill_text, text_judged}
use Rattle.unit.specs.Text.{WellText}

-- the text of a TYPE 2 is all its data
pub string-text : (w : P.Part) (d : List ℕ) → w.kind ≡ 2 → text_of (Part w) d ≡ d
string-text w d k = sym (yes _ _ (eq _ _ k) refl)

-- and another part has none
pub modifiers-text : (w : P.Part) (d : List ℕ) → (w.kind ≡ 2 → ⊥) → text_of (Part w) d ≡ []
modifiers-text w d k = sym (no _ _ (ne _ _ k) refl)

-- what holds of a unit that 17 lets through, and of the refusal, holds behind 17
pub text-each : (P : Unit → Type 0) (s : List ℕ) (x : Unit) → P (Refused IllFormed) → (ill_text s x ≡ false → P x) → P (text_judged s x)
unfolding text_judged
text-each P s x r k = each P _ _ _ (λ q. r) k

-- 17 lets through exactly the units whose text is well-formed
pub passed-well : (s : List ℕ) (x : Unit) → ill_text s x ≡ false → WellText x (data_of s x)
unfolding ill_text
passed-well s x h = well-formed _ _ (not-of _ h)

pub well-not-ill : (s : List ℕ) (x : Unit) → WellText x (data_of s x) → ill_text s x ≡ false
unfolding ill_text
well-not-ill s x w = ap not (well-found _ _ w)

pub text-passes : (s : List ℕ) (x : Unit) → WellText x (data_of s x) → text_judged s x ≡ x
unfolding text_judged
text-passes s x w = sym (no _ _ (well-not-ill s x w) refl)

-- and so what has no text
pub no_text : (s : List ℕ) (x : Unit) → text_of x (data_of s x) ≡ [] → WellText x (data_of s x)
no_text s x e = empty-well _ _ (ap (length {A = ℕ}) e)

pub bare-not-ill : (s : List ℕ) (x : Unit) → text_of x (data_of s x) ≡ [] → ill_text s x ≡ false
bare-not-ill s x e = well-not-ill s x (no_text s x e)

-- of a part: a TYPE 2 is asked for its data, and another has no text
pub string-ill : (s : List ℕ) (w : P.Part) → w.kind ≡ 2 → not (well_formed w.u (data_of s (Part w))) ≡ ill_text s (Part w)
unfolding ill_text
string-ill s w k = ap (λ (d : List ℕ). not (well_formed w.u d)) (sym (string-text w (data_of s (Part w)) k))

pub modifiers-not-ill : (s : List ℕ) (w : P.Part) → (w.kind ≡ 2 → ⊥) → false ≡ ill_text s (Part w)
modifiers-not-ill s w k = sym (bare-not-ill s (Part w) (modifiers-text w (data_of s (Part w)) k))
