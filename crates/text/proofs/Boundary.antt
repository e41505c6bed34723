-- The boundary: the longest run of whole characters within a limit. Assumes nothing.
use Rattle.std.specs.Prelude.{ℕ, zero, suc, ◌+◌, ◌-◌, ◌<◌, ◌≤◌, ◌≡◌, refl, Bool, true, false, List, [], ◌∷◌, ◌++◌, length, take, drop}
use Rattle.std.proofs.Common.{arith, sym, ap, ◌∙◌, append_assoc, append-nil, length-append, length-drop, take-append-drop, drop_at, take-add, length-take-le}
use Rattle.laws.specs.Rows.{◌<?◌, no, ge, ne, ne_of, lt_of, ge-of, each, and-of}
use Rattle.text.specs.Unicode.{scalar, encoded, character, encodings, scalars, WellFormed, reach_within, reach}
use Rattle.text.proofs.Encoding.{encoded-sized}
use Rattle.text.proofs.Finder.{finder-complete, character-within, character-at}
use Rattle.text.proofs.Walk.{reach-turn}
use Rattle.text.proofs.Strings.{join-well, cut-well, empty-well, front-well}
use Rattle.text.specs.Boundary.{Reached}

-- the character in front is passed over
reach_step : (U c : ℕ) (rest : List ℕ) (limit : ℕ) → scalar c ≡ true → length (encoded U c) ≤ limit
    → reach U (encoded U c ++ rest) limit ≡ length (encoded U c) + reach U rest (limit - length (encoded U c))
reach_step U c rest limit good h =
    let x = encoded U c in
    let k : character U (x ++ rest) ≡ length x = finder-complete U c rest good in
    let z = encoded-sized U c in
    let d : drop (length x) (x ++ rest) ≡ rest = drop_at x rest (length x) refl in
    reach-turn U (x ++ rest) limit
    ∙ sym (no _ _ (ne _ _ (λ h. omega arith)) (no _ _ (ge _ _ (omega arith)) (rw (k, d))))

-- whole characters in front are passed over
reach-past : (U : ℕ) (cs rest : List ℕ) (limit : ℕ) → scalars cs ≡ true → length (encodings U cs) ≤ limit
    → length (encodings U cs) ≤ reach U (encodings U cs ++ rest) limit
unfolding encodings scalars
reach-past U [] rest limit good h = omega arith
reach-past U (c ∷ cs) rest limit good h =
    let g = and-of _ _ good in
    let x = encoded U c in
    let l = length-append x (encodings U cs) in
    rw append_assoc (omega (
      arith,
      reach_step U c (encodings U cs ++ rest) limit g.0 (omega arith),
      reach-past U cs rest (limit - length x) g.1 (omega arith),
    ))

not-reached : (U : ℕ) (s : List ℕ) (limit : ℕ) → Reached U s limit 0
not-reached U s limit = record { within = omega arith; there = omega arith; whole = empty-well U [] refl }

walked-reach : (n U : ℕ) (s : List ℕ) (limit : ℕ) → Reached U s limit (reach_within n U s limit)
unfolding reach_within
walked-reach zero U s limit = not-reached U s limit
walked-reach (suc n) U s limit =
    each (Reached U s limit) _ _ _
    (λ a. not-reached U s limit)
    (λ a. each (Reached U s limit) _ _ _
    (λ b. not-reached U s limit)
    (λ b.
    let k = character U s in
    let m = reach_within n U (drop k s) (limit - k) in
    let r : Reached U (drop k s) (limit - k) m = walked-reach n U (drop k s) (limit - k) in
    let p = ne_of _ _ a in
    let q = ge-of _ _ b in
    let w = character-within U s in
    record {
      within = omega (arith, r.within);
      there = omega (arith, r.there, length-drop k s);
      whole = rw take-add (front-well U s (take m (drop k s)) (omega arith) r.whole);
    }))

-- the boundary is within the limit and within the bytes, and whole characters lead to it
pub boundary-whole : (U : ℕ) (s : List ℕ) (limit : ℕ) → Reached U s limit (reach U s limit)
unfolding reach
boundary-whole U s limit = walked-reach (length s) U s limit

-- and no place behind it is so
pub boundary-largest : (U : ℕ) (s : List ℕ) (limit e : ℕ) → Reached U s limit e → e ≤ reach U s limit
boundary-largest U s limit e h =
    let w = h.whole in
    let x = encodings U w.values in
    let l : length x ≡ e = sym (ap length w.same) ∙ length-take-le e s h.there in
    let t : x ++ drop e s ≡ s = ap (λ (y : List ℕ). y ++ drop e s) (sym w.same) ∙ take-append-drop e s in
    omega (arith, h.within, rw t at (reach-past U w.values (drop e s) limit w.good (omega (arith, h.within))))

-- so the character that stands there goes on beyond the limit
pub boundary-next : (U : ℕ) (s : List ℕ) (limit : ℕ) → 0 < character U (drop (reach U s limit) s)
    → limit < reach U s limit + character U (drop (reach U s limit) s)
boundary-next U s limit h = go (limit <? reach U s limit + character U (drop (reach U s limit) s)) refl
  where
    r : ℕ
    r = reach U s limit

    k : ℕ
    k = character U (drop r s)

    go : (b : Bool) → (limit <? r + k) ≡ b → limit < r + k
    go true e = lt_of _ _ e
    go false e =
        let w = boundary-whole U s limit in
        let one : WellFormed U (take k (drop r s)) = rw append-nil at (front-well U (drop r s) [] h (empty-well U [] refl)) in
        let further : Reached U s limit (r + k) =
        record { within = ge-of _ _ e; there = character-at U s r w.there; whole = rw take-add (join-well U _ _ w.whole one) } in
        absurd (omega (arith, h, boundary-largest U s limit (r + k) further))

-- a well-formed string cut at the boundary has two well-formed parts
pub cut-at-boundary : (U : ℕ) (s : List ℕ) (limit : ℕ) → WellFormed U s
    → WellFormed U (take (reach U s limit) s) × WellFormed U (drop (reach U s limit) s)
cut-at-boundary U s limit h =
    let r = reach U s limit in
    let w = (boundary-whole U s limit).whole in
    (w, cut-well U (take r s) (drop r s) (rw take-append-drop h) w)

-- with room for any character, the boundary of a string that is not empty lies behind one
pub boundary-moves : (U : ℕ) (s : List ℕ) (limit : ℕ) → WellFormed U s → 0 < length s → 4 ≤ limit → 1 ≤ reach U s limit
unfolding encodings scalars
boundary-moves U s limit w h k = go w.values w.good w.same
  where
    go : (cs : List ℕ) → scalars cs ≡ true → s ≡ encodings U cs → 1 ≤ reach U s limit
    go [] good e = absurd (omega (arith, ap length e))
    go (c ∷ cs) good e =
        let z = encoded-sized U c in
        rw e (omega (arith, reach_step U c (encodings U cs) limit (and-of _ _ good).0 (omega arith)))
