-- 'Cutting': what the writer's parts are, for every sample that it does not refuse. Assumes nothing.
use Rattle.std.specs.Prelude.{ℕ, ◌-◌, ◌≤◌, ◌<◌, min, ◌≡◌, refl, true, length, take, drop, get_or}
use Rattle.std.proofs.Common.{arith, sym, ap, ◌∙◌, length-drop, length-take-le}
use Rattle.std.proofs.Math.Path.{ap₂}
use mathlib.Core.List.{List, [], ◌∷◌, ◌++◌, map, flatten, append-nil, append_assoc}
use Rattle.std.proofs.Math.Decide.{ℕ_discrete}
use Rattle.laws.specs.Lists.{by_length}
use Rattle.laws.specs.Rows.{eq, ne}
use Rattle.laws.specs.Rows as Rows
use Rattle.text.specs.Unicode.{reach, WellFormed}
use Rattle.text.proofs.Boundary.{boundary-whole, boundary-largest, cut-at-boundary, boundary-moves}
use Rattle.joining.specs.Joining.{Piece, piece, kinds, together, string_of, laters, going, ordered}
use Rattle.writer.specs.Cut.{strings, blocks, modified, pieces}
use Rattle.writer.proofs.Parts.{cuts-end, cuts-turn, cuts-all, cuts-each}
use Rattle.writer.proofs.Find.{string-within}
use Rattle.writer.proofs.Cuts.{strings-all}
use Rattle.writer.specs.Write.{Caption, sample, parts}
use Rattle.writer.specs.Cutting.{StringPart, Longest}

pub string-each : (U k i : ℕ) (s : List ℕ) → WellFormed U s → i < length (strings U k s) → StringPart U k (get_or (strings U k s) i [])
string-each U k i s w h =
    cuts-each (λ t. reach U t k) (string-within U k) (WellFormed U) (λ t p. (cut-at-boundary U t k p).1) (StringPart U k)
    (λ t p n.
    let r = boundary-whole U t k in
    let l = length-take-le (reach U t k) t r.there in
    record { some = omega arith; fits = omega (arith, r.within); well = r.whole })
    i s w h

pub longest : (U k : ℕ) → 4 ≤ k → (s : List ℕ) → WellFormed U s → Longest U k s (strings U k s)
unfolding Longest
longest U k h = by_length (λ (s : List ℕ). WellFormed U s → Longest U k s (strings U k s)) (λ s ih w. go s ih w (ℕ_discrete (length s) 0))
  where
    go : (s : List ℕ) → ((t : List ℕ) → length t < length s → WellFormed U t → Longest U k t (strings U k t)) → WellFormed U s → Dec (length s ≡ 0)
        → Longest U k s (strings U k s)
    go s ih w (yes z) = rw (cuts-end (λ t. reach U t k) (string-within U k) s (omega (arith, string-within U k s))) z
    go s ih w (no z) =
        let m = boundary-moves U s k w (omega arith) h in
        let l : length (take (reach U s k) s) ≡ reach U s k = length-take-le (reach U s k) s (string-within U k s) in
        rw (cuts-turn (λ t. reach U t k) (string-within U k) s (λ q. omega arith))
        (rw l (refl, boundary-largest U s k, ih (drop (reach U s k) s) (simp length-drop (omega arith)) (cut-at-boundary U s k w).1))

-- ---- the modifiers' parts: none is empty, each fits k bytes
pub block-each : (k i : ℕ) (s : List ℕ) → 0 < k → i < length (blocks k s) → (0 < length (get_or (blocks k s) i [])) × (length (get_or (blocks k s) i []) ≤ k)
block-each k i s h =
    cuts-each (λ t. min k (length t)) (λ t. omega arith) (λ t. Unit {0}) (λ t p. tt) (λ p. (0 < length p) × (length p ≤ k))
    (λ t p n. let l = length-take-le (min k (length t)) t (omega arith) in (omega arith, omega arith))
    i s tt

pub blocks-all : (k : ℕ) (s : List ℕ) → 0 < k → flatten (blocks k s) ≡ s
blocks-all k s h = cuts-all (λ t. min k (length t)) (λ t. omega arith) (λ t. Unit {0}) (λ t p. tt) (λ t p l. omega arith) s tt

-- ---- all the parts together: the string's are TYPE 2, of the modifiers' the first is TYPE 3 and the others are TYPE 4
together-strings : (ss : List (List ℕ)) (ps : List Piece) → together (map (piece 2) ss ++ ps) ≡ flatten ss ++ together ps
unfolding flatten
together-strings [] ps = refl
together-strings (s ∷ ss) ps = ap (λ (l : List ℕ). s ++ l) (together-strings ss ps) ∙ sym (append_assoc s (flatten ss) (together ps))

together-fours : (bs : List (List ℕ)) → together (map (piece 4) bs) ≡ flatten bs
unfolding flatten
together-fours [] = refl
together-fours (b ∷ bs) = ap (λ (l : List ℕ). b ++ l) (together-fours bs)

together-modified : (bs : List (List ℕ)) → together (modified bs) ≡ flatten bs
unfolding modified flatten
together-modified [] = refl
together-modified (b ∷ bs) = ap (λ (l : List ℕ). b ++ l) (together-fours bs)

string-strings : (ss : List (List ℕ)) (ps : List Piece) → string_of (map (piece 2) ss ++ ps) ≡ flatten ss ++ string_of ps
unfolding flatten
string-strings [] ps = refl
string-strings (s ∷ ss) ps =
    ap₂ (λ (a b : List ℕ). a ++ b) (sym (Rows.yes _ _ (eq _ _ refl) refl)) (string-strings ss ps) ∙ sym (append_assoc s (flatten ss) (string_of ps))

string-fours : (bs : List (List ℕ)) → string_of (map (piece 4) bs) ≡ []
unfolding flatten
string-fours [] = refl
string-fours (b ∷ bs) = ap₂ (λ (a b : List ℕ). a ++ b) (sym (Rows.no _ _ (ne _ _ (λ q. omega arith)) refl)) (string-fours bs)

string-modified : (bs : List (List ℕ)) → string_of (modified bs) ≡ []
unfolding modified flatten
string-modified [] = refl
string-modified (b ∷ bs) = ap₂ (λ (a b : List ℕ). a ++ b) (sym (Rows.no _ _ (ne _ _ (λ q. omega arith)) refl)) (string-fours bs)

going-strings : (ss : List (List ℕ)) (ps : List Piece) → going (kinds (map (piece 2) ss ++ ps)) ≡ going (kinds ps)
unfolding going
going-strings [] ps = refl
going-strings (s ∷ ss) ps = sym (Rows.yes _ _ (eq _ _ refl) (sym (going-strings ss ps)))

laters-fours : (bs : List (List ℕ)) → laters (kinds (map (piece 4) bs)) ≡ true
unfolding laters
laters-fours [] = refl
laters-fours (b ∷ bs) = Rows.and_is _ _ (eq _ _ refl) (laters-fours bs)

going-modified : (bs : List (List ℕ)) → going (kinds (modified bs)) ≡ true
unfolding going modified
going-modified [] = refl
going-modified (b ∷ bs) = sym (Rows.no _ _ (ne _ _ (λ q. omega arith)) (sym (Rows.and_is _ _ (eq _ _ refl) (laters-fours bs))))

ordered-parts : (ss : List (List ℕ)) (bs : List (List ℕ)) → 0 < length ss → ordered (kinds (map (piece 2) ss ++ modified bs)) ≡ true
unfolding ordered
ordered-parts [] bs h = absurd (omega arith)
ordered-parts (s ∷ ss) bs h = Rows.and_is _ _ (eq _ _ refl) (going-strings ss (modified bs) ∙ going-modified bs)

-- a string that is not empty has a part
pub strings-some : (U k : ℕ) (s : List ℕ) → 4 ≤ k → WellFormed U s → 0 < length s → 0 < length (strings U k s)
strings-some U k s h w l =
    let m = boundary-moves U s k w l h in
    omega (arith, ap (length {A = List ℕ}) (cuts-turn (λ t. reach U t k) (string-within U k) s (λ q. omega arith)))

module _ (c : Caption) (M : ℕ) (room : 14 ≤ M) (w : WellFormed c.U c.string) where
  -- their data in order are the string and then the modifiers
  pub parts-together : together (parts c M) ≡ sample c
  unfolding pieces
  parts-together =
      together-strings (strings c.U (M - 10) c.string) (modified (blocks (M - 7) c.modifiers))
      ∙ ap₂ (λ (a b : List ℕ). a ++ b) (strings-all c.U (M - 10) c.string (omega arith) w)
      (together-modified (blocks (M - 7) c.modifiers) ∙ blocks-all (M - 7) c.modifiers (omega arith))

  pub parts-string : string_of (parts c M) ≡ c.string
  unfolding pieces
  parts-string =
      string-strings (strings c.U (M - 10) c.string) (modified (blocks (M - 7) c.modifiers))
      ∙ ap₂ (λ (a b : List ℕ). a ++ b) (strings-all c.U (M - 10) c.string (omega arith) w) (string-modified (blocks (M - 7) c.modifiers))
      ∙ append-nil c.string

  -- one or more TYPE 2, then nothing or one TYPE 3 and any number of TYPE 4
  pub parts-ordered : 0 < length c.string → ordered (kinds (parts c M)) ≡ true
  unfolding pieces
  parts-ordered h =
      ordered-parts (strings c.U (M - 10) c.string) (blocks (M - 7) c.modifiers) (strings-some c.U (M - 10) c.string (omega arith) w h)
