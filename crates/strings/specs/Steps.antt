-- A block in small blocks: a walk over characters is one walk, and another from where it led to. No part of any public promise.
-- Assumes nothing.
use Rattle.std.specs.Prelude.{ℕ, zero, suc, ◌+◌, ◌-◌, ◌<◌, ◌≤◌, min, ◌≡◌, ◌⊎◌, true, false, Option, Some, None, is_some, List, [], ◌∷◌, ◌++◌, length, take, drop}
use native.Mathlib.Omega.{arith}
use Rattle.std.proofs.Common.{true≢false, zero-add, ◌∙◌, ⊎_elim, length-take, length-drop, drop-drop, take-add, take_all}
use Rattle.std.proofs.Math.Nat.{sub-zero}
use Rattle.std.proofs.Math.Path.{refl, sym, ap}
use Rattle.std.proofs.Math.Logic.{inl, inr}
use Rattle.laws.specs.Rows.{◌⇒◌⁏◌, ◌and◌, ◌<?◌, ◌=?◌, yes, no, lt, ge, eq, ne, lt_of, ge-of, eq_of, ne_of, each, and-of, and_is}
use Rattle.laws.specs.Region.{part}
use Rattle.text.specs.Unicode.{character, well_formed, WellFormed, reach_within, reach, boundary}
use Rattle.text.proofs.Walk.{reach-turn, well-end}
use Rattle.text.proofs.Strings.{well-formed}
use Rattle.text.specs.Boundary.{Reached}
use Rattle.text.proofs.Boundary.{boundary-whole, boundary-largest}
use Rattle.text.specs.Runs.{ascii, over, walked_to, Passed, block_most, block_end}
use Rattle.text.proofs.Runs.{walk-on, walk-not, walked-tells, ascii-walked}

-- ---- two walks

-- the characters that are passed over within l are passed over within any larger limit
reach-two : (n U : ℕ) (s : List ℕ) (l m : ℕ) → l ≤ m
    → reach U s m ≡ reach_within n U s l + reach U (drop (reach_within n U s l) s) (m - reach_within n U s l)
unfolding reach_within
reach-two zero U s l m h = rw (zero-add, sub-zero)
reach-two (suc n) U s l m h =
    let P : ℕ → Type 0 = λ r. reach U s m ≡ r + reach U (drop r s) (m - r) in
    each P _ _ _ (λ a. rw (zero-add, sub-zero)) (λ a. each P _ _ _ (λ b. rw (zero-add, sub-zero)) (λ b.
    let k = character U s in
    let r = reach_within n U (drop k s) (l - k) in
    let q = ge-of _ _ b in
    let d : m - k - r ≡ m - (k + r) = omega arith in
    let t : reach U s m ≡ k + reach U (drop k s) (m - k) = reach-turn U s m ∙ sym (no _ _ a (no _ _ (ge _ _ (omega arith)) refl)) in
    let o = rw (drop-drop r k s, d) at (reach-two n U (drop k s) (l - k) (m - k) (omega arith)) in
    omega arith))

module _ (U : ℕ) (s : List ℕ) (at i to : ℕ) where
  -- where e lies, that the characters before some place lead to from i, and what it tells
  abbrev Step : (e : ℕ) → Type 0
  Step e =
      ((e ≡ i) × (at ≡ over U s at to (boundary U s i to)))
      ⊎ ((i < e) × (over U s at to (boundary U s i to) ≡ over U s at to (boundary U s e to)))

  boundary-two : (m : ℕ) → m ≤ to → boundary U s i to ≡ boundary U s (boundary U s i m) to
  unfolding boundary reach
  boundary-two m l =
      let r = reach U (drop i s) (m - i) in
      let d : to - i - r ≡ to - (i + r) = omega arith in
      let o = rw (drop-drop r i s, d) at (reach-two (length (drop i s)) U (drop i s) (m - i) (to - i) (omega arith)) in
      omega arith

  step : (m : ℕ) → i < m → m ≤ to → Step (walked_to U s i m)
  unfolding walked_to over boundary
  step m h l =
      let b = boundary U s i m in
      let k = character U (drop b s) in
      let two = ap (over U s at to) (boundary-two m l) in
      each Step _ _ _
      (λ p.
      let y = lt_of _ _ p in
      each Step _ _ _
      (λ q. inl (refl, walk-not U s at to b k refl (omega arith) (eq_of _ _ q) ∙ sym two))
      (λ q. let z = ne_of _ _ q in inr (omega arith, two ∙ walk-on U s at to b k refl (omega arith) (omega arith))))
      (λ p. let y = ge-of _ _ p in inr (omega arith, two))

-- ---- what is answered of a walk

-- where a walk from `at` to `to` led that ended at e, if it did: one that stayed at its start met a character that is not well-formed
unfoldable pub led : (at to e : ℕ) → Option ℕ
led at to e = at <? to and e =? at ⇒ None ⁏ Some e

pub led_there : (at to e : ℕ) → (at < to → at < e) → Some e ≡ led at to e
unfolding led
led_there at to e h =
    no _ _ (each (λ c. c ≡ false) _ _ _ (λ p. let q = h (lt_of _ _ p) in ne _ _ (λ w. omega arith)) (λ p. refl)) refl

pub led_nowhere : (at to e : ℕ) → at < to → e ≡ at → None ≡ led at to e
unfolding led
led_nowhere at to e h q = yes _ _ (and_is _ _ (lt _ _ h) (eq _ _ q)) refl

-- and back
pub led_on : (at to e x : ℕ) → led at to e ≡ Some x → (x ≡ e) × (at < to → e ≡ at → ⊥)
unfolding led
led_on at to e x =
    each (λ r. r ≡ Some x → (x ≡ e) × (at < to → e ≡ at → ⊥)) _ _ _
    (λ p h. cc)
    (λ p h. (cc, λ l q. let z = sym (and_is _ _ (lt _ _ l) (eq _ _ q)) ∙ p in true≢false z))

pub led_none : (at to e : ℕ) → led at to e ≡ None → (at < to) × (e ≡ at)
unfolding led
led_none at to e =
    each (λ r. r ≡ None → (at < to) × (e ≡ at)) _ _ _
    (λ p h. let b = and-of _ _ p in (lt_of _ _ b.0, eq_of _ _ b.1))
    (λ p h. cc)

-- a block that was passed over tells where it ends, behind its start
pub led-block : (s : List ℕ) (i e : ℕ) (r : Option ℕ) → i < length s
    → r ≡ led i (block_end s i) (walked_to 0 s i (block_end s i)) → r ≡ Some e → (e ≡ walked_to 0 s i (block_end s i)) × (e ≡ i → ⊥)
unfolding block_end
led-block s i e r h w z = let f = led_on _ _ _ _ (sym w ∙ z) in (f.0, λ q. f.1 (omega arith) (sym f.0 ∙ q))

-- a string is well-formed where a walk leads to its end
pub led-well : (U : ℕ) (s : List ℕ) (r : Option ℕ) → r ≡ led 0 (length s) (walked_to U s 0 (length s)) → is_some r ≡ well_formed U s
led-well U s r w = go r refl
  where
    p : Passed U s 0 (length s) (walked_to U s 0 (length s))
    p = walked-tells U s 0 (length s) (omega arith) (omega arith)

    go : (v : Option ℕ) → r ≡ v → is_some v ≡ well_formed U s
    go None z = let f = led_none _ _ _ (sym w ∙ z) in sym (p.not (omega arith)).1
    go (Some x) z =
        let f = led_on _ _ _ _ (sym w ∙ z) in
        let n : walked_to U s 0 (length s) < length s → ⊥ = λ h. f.1 (omega arith) (p.not h).0 in
        let l : length s ≤ walked_to U s 0 (length s) = omega arith in
        well-end U s (walked_to U s 0 (length s)) l ∙ sym (p.same l)

-- ---- small blocks

-- how many bytes they have, and where the one at `at` ends, within `to`
abbrev pub small_most : ℕ
small_most = 16

unfoldable pub small_end : (at to : ℕ) → ℕ
small_end at to = at + min small_most (to - at)

-- the place that the one at i leads to tells, on the way from `at` to `to`
module _ (s : List ℕ) (at i to e : ℕ) (h : i < to) (w : e ≡ walked_to 0 s i (small_end i to)) where
  told : Step 0 s at i to e
  unfolding small_end
  told = rw w (step 0 s at i to (small_end i to) (omega arith) (omega arith))

  -- a character that begins in it and is not well-formed begins before `to`
  pub small-not : e ≡ i → at ≡ over 0 s at to (boundary 0 s i to)
  small-not z = ⊎_elim (λ p. p.1) (λ p. absurd (omega (arith, p.0))) told

  -- else to go on from i is to go on from e
  pub small-on : (e ≡ i → ⊥) → (i < e) × (over 0 s at to (boundary 0 s i to) ≡ over 0 s at to (boundary 0 s e to))
  small-on z = ⊎_elim (λ p. absurd (z p.0)) (λ p. p) told

-- so what was answered of it tells
module _ (s : List ℕ) (at i to : ℕ) (r : Option ℕ) (h : i < to) (w : r ≡ led i (small_end i to) (walked_to 0 s i (small_end i to))) where
  pub small_none : r ≡ None → at ≡ over 0 s at to (boundary 0 s i to)
  small_none z = small-not s at i to _ h refl (led_none _ _ _ (sym w ∙ z)).1

  pub small_some : (e : ℕ) → r ≡ Some e → (i < e) × (over 0 s at to (boundary 0 s i to) ≡ over 0 s at to (boundary 0 s e to))
  unfolding small_end
  small_some e z =
      let f = led_on _ _ _ _ (sym w ∙ z) in
      small-on s at i to e h f.0 (λ q. f.1 (omega arith) (sym f.0 ∙ q))

-- ASCII is well-formed, as far as a block's law says it
ascii-well : (b : List ℕ) → length b ≤ block_most → ascii b ≡ true → WellFormed 0 b
ascii-well b h all =
    let e : b ≡ part 0 block_most b = sym (take_all block_most b h) in
    let w : length b ≡ walked_to 0 b 0 (length b) = rw zero-add at (ascii-walked b b 0 e all) in
    let p = walked-tells 0 b 0 (length b) (omega arith) (omega arith) in
    well-formed 0 b (p.same (omega arith) ∙ sym (well-end 0 b (walked_to 0 b 0 (length b)) (omega arith)))

ascii-behind : (a b : List ℕ) → ascii (a ++ b) ≡ true → ascii b ≡ true
unfolding ascii
ascii-behind [] b h = h
ascii-behind (x ∷ a) b h = ascii-behind a b (and-of _ _ h).1

-- the characters from `at` on end at `to`, where all bytes from some earlier place on are ASCII
ascii-ends : (s : List ℕ) (from at to : ℕ) → from ≤ at → at ≤ to → to ≤ from + block_most → to ≤ length s
    → ascii (part from (to - from) s) ≡ true → to ≡ walked_to 0 s at to
unfolding walked_to over boundary
ascii-ends s from at to f h k l all =
    let x = drop at s in
    let n = to - at in
    let d : to - from ≡ at - from + n = omega arith in
    let g : from + (at - from) ≡ at = omega arith in
    let y = rw (d, take-add, drop-drop, g) at all in
    let w = ascii-well (take n x) (simp length-take (omega arith)) (ascii-behind (take (at - from) (drop from s)) (take n x) y) in
    let r : Reached 0 x n n = record { within = omega arith; there = simp length-drop (omega arith); whole = w } in
    let m : reach 0 x n ≡ n = omega (arith, boundary-largest 0 x n n r, (boundary-whole 0 x n).within) in
    let q : at + n ≡ to = omega arith in
    rw (m, q) (no _ _ (ge _ _ (omega arith)) refl)

module _ (at to n m : ℕ) (l : n ≡ min small_most m) (k : m ≡ to - at) where
  pub small-end : at + n ≡ small_end at to
  unfolding small_end
  small-end = omega arith

  -- so do those of a small block, where as many bytes as it has at most are ASCII in front of its end
  pub small-walked : (s : List ℕ) → small_most ≤ at + n → at + n ≤ length s
      → ascii (part (at + n - small_most) (at + n - (at + n - small_most)) s) ≡ true → at + n ≡ walked_to 0 s at (small_end at to)
  small-walked s h i all =
      ascii-ends s (at + n - small_most) at (at + n) (omega arith) (omega arith) (omega arith) i all ∙ ap (walked_to 0 s at) small-end
