-- Bytes that the code takes together: ASCII, and the characters of a block. No part of any public promise. Assumes nothing.
-- ---- ASCII
use Rattle.std.specs.Prelude.{ℕ, ◌+◌, ◌-◌, ◌<◌, ◌≤◌, min, ◌≡◌, Bool}
use native.Mathlib.Omega.{arith}
use Rattle.std.proofs.Common.{add-one, ◌∙◌, inl, length-take, take-append-drop, drop-cons, take-take}
use Rattle.std.proofs.Math.Path.{refl, sym, ap}
use Rattle.std.proofs.Math.Bool.{true, false}
use mathlib.Core.List.{List, [], ◌∷◌}
use Rattle.std.proofs.Math.ListN.{length, take, drop, length-drop}
use Rattle.std.proofs.Math.Seq.{drop-drop, take-length}
use Rattle.laws.specs.Rows.{◌⇒◌⁏◌, ◌and◌, ◌<?◌, yes, no, lt, ge, lt_of, ge-of, eq_of, ne_of, eq, ne, each, and-of, and_is}
use Rattle.laws.specs.Region.{part}
use Rattle.octets.specs.Be.{u8_at}
use Rattle.text.specs.Unicode.{encoded, character, encodings, scalars, well_formed, reach, boundary}
use Rattle.text.proofs.Encoding.{scalar_is}
use Rattle.text.proofs.Eight.{utf8-one}
use Rattle.text.proofs.Walk.{well-on, well-not, reach-on, reach-none, reach-over, reach-end}
use Rattle.text.proofs.Finder.{character-at}
use Rattle.text.proofs.Strings.{behind-well}
use Rattle.text.specs.Boundary.{Reached}
use Rattle.text.proofs.Boundary.{boundary-whole, boundary-largest, boundary-next}
use Rattle.text.specs.Runs.{ascii, seen, over, walked_to, Passed, block_most, block_end}

encoded-ascii : (b : ℕ) → b < 0x80 → encoded 0 b ≡ b ∷ []
unfolding encoded
encoded-ascii b h = sym (yes _ _ (eq 0 0 refl) (sym (utf8-one b h)))

-- each of them is the encoding of its own number
ascii-encodings : (s : List ℕ) → ascii s ≡ true → (encodings 0 s ≡ s) × (scalars s ≡ true)
unfolding ascii encodings scalars
ascii-encodings [] h = (refl, refl)
ascii-encodings (b ∷ s) h =
    let t = and-of _ _ h in
    let low = lt_of _ _ t.0 in
    let e = ascii-encodings s t.1 in
    (rw (encoded-ascii b low) (ap (λ (l : List ℕ). b ∷ l) e.0), and_is _ _ (scalar_is b (inl (omega arith))) e.1)

pub seen_none : (s : List ℕ) → ascii s ≡ seen true s
unfolding seen
seen_none s = yes _ _ refl refl

seen-not : (all : Bool) (s : List ℕ) → ascii s ≡ false → seen all s ≡ false
unfolding seen ◌⇒◌⁏◌
seen-not true s h = h
seen-not false s h = refl

-- a turn at i, where the byte is one of ASCII or is not, and the end
module _ (s : List ℕ) (i : ℕ) (all : Bool) where
  turn : i < length s → ascii (drop i s) ≡ (u8_at s i <? 0x80 and ascii (drop (i + 1) s))
  unfolding ascii
  turn h = rw (drop-cons s i 0 h, add-one)

  pub seen_one : i < length s → u8_at s i < 0x80 → seen all (drop i s) ≡ seen all (drop (i + 1) s)
  unfolding seen
  seen_one h k = ap (λ (b : Bool). all and b) (turn h ∙ sym (yes _ _ (lt _ _ k) refl))

  pub seen_other : i < length s → 0x7F < u8_at s i → seen all (drop i s) ≡ seen false (drop (i + 1) s)
  unfolding seen
  seen_other h k = seen-not all (drop i s) (turn h ∙ sym (no _ _ (ge _ _ k) refl)) ∙ no _ _ refl refl

  pub seen_end : length s ≤ i → all ≡ seen all (drop i s)
  unfolding seen ascii ◌⇒◌⁏◌
  seen_end h = go all (drop i s) (simp length-drop (omega arith))
    where
      go : (b : Bool) (l : List ℕ) → length l ≡ 0 → b ≡ (b and ascii l)
      go true [] e = refl
      go false [] e = refl
      go b (x ∷ l) e = absurd (omega arith)

module _ (U : ℕ) (s : List ℕ) (at to : ℕ) where
  over-there : (b : ℕ) → to ≤ b → b ≡ over U s at to b
  unfolding over
  over-there b h = no _ _ (ge _ _ h) refl

  over_none : (b : ℕ) → b < to → character U (drop b s) ≡ 0 → at ≡ over U s at to b
  unfolding over
  over_none b h k = yes _ _ (lt _ _ h) (yes _ _ (eq _ _ k) refl)

  over-beyond : (b k : ℕ) → k ≡ character U (drop b s) → b < to → 0 < k → b + k ≡ over U s at to b
  unfolding over
  over-beyond b k e h l = yes _ _ (lt _ _ h) (no _ _ (ne _ _ (λ z. omega arith)) (ap (λ (n : ℕ). b + n) e))

  -- a turn of the loop over characters at i, its early end, and its end
  module _ (i k : ℕ) (found : k ≡ character U (drop i s)) where
    pub walk-on : i < to → 0 < k → over U s at to (boundary U s i to) ≡ over U s at to (boundary U s (i + k) to)
    unfolding boundary
    walk-on h l = go (to - i <? k) refl
      where
        go : (b : Bool) → (to - i <? k) ≡ b → over U s at to (boundary U s i to) ≡ over U s at to (boundary U s (i + k) to)
        go false e = ap (over U s at to) (reach-on U s to i k found l (ge-of _ _ e))
        go true e =
            let m = lt_of _ _ e in
            ap (over U s at to) (sym (reach-over U s to i k found m))
            ∙ sym (over-beyond i k found h l)
            ∙ over-there (i + k) (omega arith)
            ∙ ap (over U s at to) (reach-end U s to (i + k) (omega arith))

    pub walk-not : i < to → k ≡ 0 → at ≡ over U s at to (boundary U s i to)
    unfolding boundary
    walk-not h z = over_none i h (sym found ∙ z) ∙ ap (over U s at to) (reach-none U s to i k found z)

  pub walk_end : (i : ℕ) → to ≤ i → i ≡ over U s at to (boundary U s i to)
  unfolding boundary
  walk_end i h = over-there i h ∙ ap (over U s at to) (reach-end U s to i h)

module _ (U : ℕ) (s : List ℕ) (at to : ℕ) (h : at ≤ to) (l : to ≤ length s) where
  -- whole characters lead to the boundary
  leads : (at ≤ boundary U s at to) × ((boundary U s at to ≤ to) × (well_formed U (drop at s) ≡ well_formed U (drop (boundary U s at to) s)))
  unfolding boundary
  leads =
      let x = drop at s in
      let n = reach U x (to - at) in
      let w = boundary-whole U x (to - at) in (
        omega arith,
        (
          omega (arith, w.within),
          ap (well_formed U) (sym (take-append-drop n x)) ∙ behind-well U (take n x) (drop n x) w.whole
              ∙ ap (well_formed U) (drop-drop n at s),
        ),
      )

  -- and the character there goes on beyond `to`
  beyond : 0 < character U (drop (boundary U s at to) s) → to < boundary U s at to + character U (drop (boundary U s at to) s)
  unfolding boundary
  beyond k =
      let e = drop-drop (reach U (drop at s) (to - at)) at s in
      omega (arith, rw e at (boundary-next U (drop at s) (to - at) (rw e k)))

  pub walked-tells : Passed U s at to (walked_to U s at to)
  unfolding walked_to over
  walked-tells =
      let b = boundary U s at to in
      let k = character U (drop b s) in
      let t = leads in
      each (Passed U s at to) _ _ _
      (λ p. each (Passed U s at to) _ _ _
      (λ q.
      let z = eq_of _ _ q in
      let m = lt_of _ _ p in
      record {
        there = omega arith;
        same = λ y. refl;
        not = λ y. (refl, t.1.1 ∙ sym (well-not U s b k refl (omega arith) z));
      })
      (λ q.
      let z = ne_of _ _ q in
      let m = lt_of _ _ p in
      record {
        there = character-at U s b (omega arith);
        same = λ y. t.1.1 ∙ well-on U s b k refl (omega arith) (omega arith);
        not = λ y. absurd (omega (arith, beyond (omega arith)));
      }))
      (λ p.
      let m = ge-of _ _ p in
      record { there = omega (arith, t.1.0); same = λ y. t.1.1; not = λ y. absurd (omega arith) })

module _ (s b : List ℕ) (at : ℕ) (e : b ≡ part at block_most s) where
  block-length : length b ≡ min block_most (length s - at)
  block-length = ap length e ∙ length-take block_most (drop at s) ∙ ap (min block_most) (length-drop at s)

  pub block-end : at + length b ≡ block_end s at
  unfolding block_end
  block-end = ap (λ (n : ℕ). at + n) block-length

  pub block_within : length b ≤ length s - at
  block_within = omega (arith, block-length)

  -- the characters of a block of ASCII end with it
  pub ascii-walked : ascii b ≡ true → at + length b ≡ walked_to 0 s at (at + length b)
  unfolding walked_to boundary
  ascii-walked all =
      let x = drop at s in
      let n = length b in
      let t = ascii-encodings b all in
      let front : take n x ≡ b = sym (take-take n block_most x (omega (arith, block-length))) ∙ ap (take n) (sym e) ∙ take-length b in
      let r : Reached 0 x n n =
      record {
        within = omega arith;
        there = omega (arith, block_within, length-drop at s);
        whole = record { values = b; good = t.1; same = front ∙ sym t.0 };
      } in
      let m : reach 0 x n ≡ n = omega (arith, boundary-largest 0 x n n r, (boundary-whole 0 x n).within) in
      let q : at + n - at ≡ n = omega arith in
      rw (q, m) (over-there 0 s at (at + n) (at + n) (omega arith))

-- the place that a block leads to tells
module _ (s : List ℕ) (at e : ℕ) (h : at < length s) (w : e ≡ walked_to 0 s at (block_end s at)) where
  passed : Passed 0 s at (block_end s at) e
  unfolding block_end
  passed = rw w (walked-tells 0 s at (block_end s at) (omega arith) (omega arith))

  pub block-there : e ≤ length s
  block-there = passed.there

  pub block-not : e ≡ at → well_formed 0 (drop at s) ≡ false
  unfolding block_end
  block-not z = (passed.not (omega arith)).1

  pub block_on : (e ≡ at → ⊥) → (at < e) × (well_formed 0 (drop at s) ≡ well_formed 0 (drop e s))
  unfolding block_end
  block_on z = go (e <? block_end s at) refl
    where
      go : (b : Bool) → (e <? block_end s at) ≡ b → (at < e) × (well_formed 0 (drop at s) ≡ well_formed 0 (drop e s))
      go true l = absurd (z (passed.not (lt_of _ _ l)).0)
      go false l = let m = ge-of _ _ l in (omega arith, passed.same m)
