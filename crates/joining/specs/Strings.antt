-- The string of a joined sample: where each TYPE 2 part is well-formed in one U, so is the string, and where the parts are in order it
-- stands at the front of what is put together. Assumes nothing.
use Rattle.std.specs.Prelude.{ℕ, ◌≤◌, ◌≡◌, refl, true, length, take}
use Rattle.std.proofs.Common.{arith, sym, ap, ◌∙◌, length-take}
use mathlib.Core.List.{List, [], ◌∷◌, ◌++◌, flatten}
use Rattle.laws.specs.Rows.{◌=?◌, each, yes, no, eq, ne, eq_of, ne_of, and-of}
use Rattle.text.specs.Unicode.{WellFormed}
use Rattle.text.proofs.Strings.{empty-well, join-well}
use Rattle.joining.specs.Joining.{Piece, kinds, together, string_of, laters, going, ordered}

-- each TYPE 2 part is well-formed in U
abbrev pub WellParts : (U : ℕ) → List Piece → Type 0
WellParts U [] = Unit {0}
WellParts U (p ∷ ps) = (p.kind ≡ 2 → WellFormed U p.bytes) × WellParts U ps

pub string-well : (U : ℕ) (ps : List Piece) → WellParts U ps → WellFormed U (string_of ps)
unfolding flatten
string-well U [] w = empty-well U [] refl
string-well U (p ∷ ps) w =
    join-well U _ _
    (each (WellFormed U) (p.kind =? 2) p.bytes [] (λ k. w.0 (eq_of _ _ k)) (λ k. empty-well U [] refl))
    (string-well U ps w.1)

-- modifiers are no part of the string
no-string : (p : Piece) (ps : List Piece) → (p.kind ≡ 2 → ⊥) → string_of (p ∷ ps) ≡ string_of ps
unfolding flatten
no-string p ps n = ap (λ (x : List ℕ). x ++ string_of ps) (sym (no _ _ (ne _ _ n) refl))

laters-none : (ps : List Piece) → laters (kinds ps) ≡ true → string_of ps ≡ []
unfolding laters flatten
laters-none [] h = refl
laters-none (p ∷ ps) h =
    let a = and-of _ _ h in
    no-string p ps (λ k. four (eq_of _ _ a.0) k) ∙ laters-none ps a.1
  where
    four : p.kind ≡ 4 → p.kind ≡ 2 → ⊥
    four a b = omega arith

take_behind : (a b c : List ℕ) → take (length (a ++ b)) (a ++ c) ≡ a ++ take (length b) c
take_behind [] b c = refl
take_behind (x ∷ a) b c = ap (λ (l : List ℕ). x ∷ l) (take_behind a b c)

-- a TYPE 2 part in front of others
string-front : (p : Piece) (ps : List Piece) → p.kind ≡ 2 → take (length (string_of ps)) (together ps) ≡ string_of ps
    → take (length (string_of (p ∷ ps))) (together (p ∷ ps)) ≡ string_of (p ∷ ps)
unfolding flatten
string-front p ps k h =
    let e : string_of (p ∷ ps) ≡ p.bytes ++ string_of ps = ap (λ (x : List ℕ). x ++ string_of ps) (sym (yes _ _ (eq _ _ k) refl)) in
    rw e (take_behind p.bytes (string_of ps) (together ps) ∙ ap (λ (l : List ℕ). p.bytes ++ l) h)

going-first : (ps : List Piece) → going (kinds ps) ≡ true → take (length (string_of ps)) (together ps) ≡ string_of ps
unfolding going flatten
going-first [] = λ h. refl
going-first (p ∷ ps) =
    each (λ g. g ≡ true → First) (p.kind =? 2) _ _
    (λ k h. string-front p ps (eq_of _ _ k) (going-first ps h))
    (λ k h.
    let e = no-string p ps (ne_of _ _ k) ∙ laters-none ps (and-of _ _ h).1 in
    rw e)
  where
    First : Type 0
    First = take (length (string_of (p ∷ ps))) (together (p ∷ ps)) ≡ string_of (p ∷ ps)

-- the string stands first
pub string-first : (ps : List Piece) → ordered (kinds ps) ≡ true → take (length (string_of ps)) (together ps) ≡ string_of ps
unfolding ordered flatten
string-first [] h = refl
string-first (p ∷ ps) h = let a = and-of _ _ h in string-front p ps (eq_of _ _ a.0) (going-first ps a.1)

-- so it is no longer than the sample
pub string-short : (ps : List Piece) → ordered (kinds ps) ≡ true → length (string_of ps) ≤ length (together ps)
string-short ps h =
    omega (arith, ap (length {A = ℕ}) (string-first ps h), length-take (length (string_of ps)) (together ps))
