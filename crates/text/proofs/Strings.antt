-- Well-formed strings: the walk from character to character finds them, they are joined, and cut behind whole characters.
-- Assumes nothing.
use Rattle.std.specs.Prelude.{ℕ, zero, suc, ◌<◌, ◌≤◌, ◌≡◌, refl, true, List, [], ◌∷◌, ◌++◌, length, take, drop}
use Rattle.std.proofs.Common.{arith, sym, ap, ◌∙◌, append_assoc, append-nil, length-append, take-append-drop, drop_at}
use Rattle.laws.specs.Rows.{no, ne, eq_of, ne_of, each, and-of, and_is}
use Rattle.text.specs.Unicode.{scalar, encoded, character, encodings, scalars, WellFormed, well_within, well_formed}
use Rattle.text.proofs.Encoding.{encoded-sized}
use Rattle.text.proofs.Finder.{finder-sound, finder-complete}
use Rattle.text.proofs.Walk.{behind, well-turn}

-- the character in front is passed over
well-step : (U c : ℕ) (rest : List ℕ) → scalar c ≡ true → well_formed U (encoded U c ++ rest) ≡ well_formed U rest
well-step U c rest good =
    let x = encoded U c in
    let k : character U (x ++ rest) ≡ length x = finder-complete U c rest good in
    let z = encoded-sized U c in
    well-turn U (x ++ rest)
    ∙ sym
    (no _ _ (ne _ _ (λ h. omega (arith, length-append x rest)))
    (no _ _ (ne _ _ (λ h. omega arith))
    (ap (well_formed U) (sym (drop_at x rest (character U (x ++ rest)) (sym k))))))

-- whole characters in front are passed over
well-past : (U : ℕ) (cs rest : List ℕ) → scalars cs ≡ true → well_formed U (encodings U cs ++ rest) ≡ well_formed U rest
unfolding encodings scalars
well-past U [] rest good = refl
well-past U (c ∷ cs) rest good =
    let g = and-of _ _ good in
    rw append_assoc (well-step U c (encodings U cs ++ rest) g.0 ∙ well-past U cs rest g.1)

pub empty-well : (U : ℕ) (s : List ℕ) → length s ≡ 0 → WellFormed U s
unfolding encodings scalars
empty-well U [] h = record { values = []; good = refl; same = refl }
empty-well U (a ∷ s) h = absurd (omega arith)

-- the character that s begins with, in front of a well-formed string
pub front-well : (U : ℕ) (s t : List ℕ) → 0 < character U s → WellFormed U t → WellFormed U (take (character U s) s ++ t)
unfolding encodings scalars
front-well U s t h w =
    let f = finder-sound U s h in
    let e : take (character U s) s ++ t ≡ encoded U f.value ++ encodings U w.values = cc in
    record { values = f.value ∷ w.values; good = and_is _ _ f.good w.good; same = e }

walked-well : (n U : ℕ) (s : List ℕ) → length s ≤ n → well_within n U s ≡ true → WellFormed U s
unfolding well_within
walked-well zero U s h = λ e. empty-well U s (omega arith)
walked-well (suc n) U s h =
    each (λ w. w ≡ true → WellFormed U s) _ _ _
    (λ a e. empty-well U s (eq_of _ _ a))
    (λ a. each (λ w. w ≡ true → WellFormed U s) _ _ _
    (λ b e. let z : ◌≡◌ {A = ℕ} 0 1 = cc in absurd (omega arith))
    (λ b e. let q = ne_of _ _ b in
    let w = walked-well n U (drop (character U s) s) (behind U s n h b) e in
    rw take-append-drop at (front-well U s (drop (character U s) s) (omega arith) w)))

-- what is found to be well-formed is the encodings of scalar values, one after the other
pub well-formed : (U : ℕ) (s : List ℕ) → well_formed U s ≡ true → WellFormed U s
unfolding well_formed
well-formed U s h = walked-well (length s) U s (omega arith) h

-- and such encodings are found to be well-formed
pub well-found : (U : ℕ) (s : List ℕ) → WellFormed U s → well_formed U s ≡ true
unfolding well_formed well_within
well-found U s w =
    ap (well_formed U) (w.same ∙ sym (append-nil (encodings U w.values))) ∙ well-past U w.values [] w.good

pub behind-well : (U : ℕ) (a b : List ℕ) → WellFormed U a → well_formed U (a ++ b) ≡ well_formed U b
behind-well U a b w = ap (λ (x : List ℕ). well_formed U (x ++ b)) w.same ∙ well-past U w.values b w.good

-- two well-formed strings, one behind the other, are one
pub join-well : (U : ℕ) (a b : List ℕ) → WellFormed U a → WellFormed U b → WellFormed U (a ++ b)
join-well U a b v w = well-formed U (a ++ b) (behind-well U a b v ∙ well-found U b w)

-- what stands behind a well-formed part of a well-formed string is well-formed
pub cut-well : (U : ℕ) (a b : List ℕ) → WellFormed U (a ++ b) → WellFormed U a → WellFormed U b
cut-well U a b v w = well-formed U b (sym (behind-well U a b w) ∙ well-found U (a ++ b) v)
