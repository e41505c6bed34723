-- A desk's store slot by slot: what the window says of numbers, what a record says of its bytes, and each slot when a description
-- is forgotten or stored. Assumes nothing.
use Prim.Native.Nat.{ℕ, zero, suc, ◌+◌, ◌-◌, ◌*◌, ◌%◌, ◌≤◌, ◌<◌}
use Rattle.std.proofs.Common.{arith, mod-lt, eq-or-lt_of_le, sym, ◌∙◌, inl, inr, drop_of_length-le, take_at, take_all}
use Rattle.std.specs.Prelude.{Bool, true, false, ◌≡◌, ◌⊎◌, replicate}
use Rattle.std.proofs.Math.Path.{refl, ap}
use Rattle.std.proofs.Math.Logic.{⊎_elim}
use mathlib.Core.List.{List, ◌∷◌, ◌++◌, append-nil}
use Rattle.std.proofs.Math.ListN.{length, drop}
use Rattle.std.proofs.lemmas.List.{length-replicate}
use Rattle.std.proofs.lemmas.List.Edits.{sets}
use Rattle.std.proofs.Math.Seq.{take-length, length-sets}
use Rattle.laws.specs.Rows.{◌⇒◌⁏◌, yes, no, lt, eq, lt_of, ge-of, eq_of, each, below, and-of, and_is, ◌<?◌}
use Rattle.laws.specs.Region.{part, length_part, length-part-le, drop-sets-past}
use Rattle.octets.specs.Be.{be16}
use Rattle.paper.specs.Limits.{record_size, description_most, in_band, window}
use Rattle.style.specs.Record.{record_at, index_of, length_of, description_of, blank, record_of}
use Rattle.style.specs.Store.{minus, in_window, moved, slot, carries, held, stays, forgotten_at, forgotten_from, forgotten, stored}
use Rattle.style.specs.Puts.{either, part-sets-other, part-sets-same, sets-front, zeros-at}

-- ---- the window
pub in-window-of : (newest v : ℕ) → in_window newest v ≡ true → (newest < in_band) × ((v < in_band) × (minus newest v < window))
unfolding in_window
in-window-of newest v h =
    let p = and-of _ _ h in
    let q = and-of _ _ p.1 in
    (lt_of newest in_band p.0, (lt_of v in_band q.0, lt_of (minus newest v) window q.1))

pub in-window-is : (newest v : ℕ) → newest < in_band → v < in_band → minus newest v < window → in_window newest v ≡ true
unfolding in_window
in-window-is newest v a b c = and_is _ _ (lt _ _ a) (and_is _ _ (lt _ _ b) (lt _ _ c))

minus-sum : (a b : ℕ) → a < in_band → b < in_band → (minus a b + b ≡ a) ⊎ (minus a b + b ≡ a + in_band)
minus-sum a b ha hb =
    ⊎_elim
    (λ t. let h = lt_of a b t in inr (omega arith))
    (λ t. let h = ge-of a b t in inl (omega arith)) (either (a <? b))

one-slot : (n v w p q : ℕ) → p < window → q < window → v < in_band → w < in_band → v % window ≡ w % window
    → (p + v ≡ n) ⊎ (p + v ≡ n + in_band) → (q + w ≡ n) ⊎ (q + w ≡ n + in_band) → v ≡ w
one-slot n v w p q hp hq hv hw e a b =
    ⊎_elim
    (λ x. ⊎_elim (λ y. omega arith) (λ y. omega arith) b)
    (λ x. ⊎_elim (λ y. omega arith) (λ y. omega arith) b) a

-- two values of one window never share a slot
pub apart : (newest v w : ℕ) → in_window newest v ≡ true → in_window newest w ≡ true → v % window ≡ w % window → v ≡ w
apart newest v w p q e =
    let a = in-window-of newest v p in
    let b = in-window-of newest w q in
    one-slot newest v w (minus newest v) (minus newest w) a.1.1 b.1.1 a.1.0 b.1.0 e
    (minus-sum newest v a.0 a.1.0) (minus-sum newest w b.0 b.1.0)

-- a unit's value lies in the window that it leaves
pub moved-in-window : (newest sidx : ℕ) → sidx < in_band → in_window (moved newest sidx) sidx ≡ true
unfolding moved
moved-in-window newest sidx h =
    each (λ (n : ℕ). in_window n sidx ≡ true) _ _ _
    (λ f. in-window-is sidx sidx h h (omega arith))
    (λ f. let l = ge-of (in_band - 1) newest f in
    each (λ (n : ℕ). in_window n sidx ≡ true) _ _ _
    (λ z. let e = eq_of (minus sidx newest) 0 z in in-window-is newest sidx (omega arith) h (omega arith))
    (λ z. each (λ (n : ℕ). in_window n sidx ≡ true) _ _ _
    (λ g. let m = lt_of window (minus sidx newest) g in in-window-is newest sidx (omega arith) h (omega arith))
    (λ g. in-window-is sidx sidx h h (omega arith))))

-- ---- the record of a description, read back
length-blank : length blank ≡ record_size
length-blank = length-replicate {A = ℕ} record_size 0

sets-all : (vs l : List ℕ) → length vs ≡ length l → sets l 0 vs ≡ vs
sets-all vs l e = sets-front vs l ∙ rw (← e, take-length vs, drop_of_length-le l {i = length vs} (omega arith)) (append-nil vs)

length-record : (v : ℕ) (d : List ℕ) → length (record_of v d) ≡ record_size
unfolding record_of
length-record v d = length-sets blank 0 (v % 256 ∷ 0 ∷ be16 (length d) ++ d) ∙ length-blank

module _ (v : ℕ) (d : List ℕ) (fits : length d ≤ description_most) where
  record-front : record_of v d ≡ v % 256 ∷ 0 ∷ be16 (length d) ++ d ++ drop (length d) (replicate description_most 0)
  unfolding record_of
  record-front =
      sets-front (v % 256 ∷ 0 ∷ be16 (length d) ++ d) blank
      ∙ rw (take_all description_most d fits)

  pub record-index : v < 256 → index_of (record_of v d) ≡ v
  record-index h = ap index_of record-front ∙ omega arith

  pub record-length : length_of (record_of v d) ≡ length d
  record-length = ap length_of record-front ∙ omega arith

  pub record-description : description_of (record_of v d) ≡ d
  record-description =
      rw record-length (ap (part 4 (length d)) record-front ∙ take_at d (drop (length d) (replicate description_most 0)) (length d) refl)

-- ---- a slot when another one is written, and when it is written itself
put_other : (s r : List ℕ) (i j : ℕ) → length r ≤ record_size → (i ≡ j → ⊥) → record_at (sets s (record_size * i) r) j ≡ record_at s j
put_other s r i j h n =
    part-sets-other r s (record_size * i) (record_size * j) record_size
    (⊎_elim
    (λ t. let l = lt_of i j t in inr (omega arith))
    (λ t. inl (⊎_elim (λ e. absurd (n (sym e))) (λ m. omega arith) (eq-or-lt_of_le (ge-of i j t)))) (either (i <? j)))

pub stored_other : (s : List ℕ) (v : ℕ) (d : List ℕ) (w : ℕ) → (v % window ≡ w % window → ⊥) → slot (stored s v d) w ≡ slot s w
stored_other s v d w n = put_other s (record_of v d) (v % window) (w % window) (omega (arith, length-record v d)) n

pub stored_same : (s : List ℕ) (v : ℕ) (d : List ℕ) → window * record_size ≤ length s → slot (stored s v d) v ≡ record_of v d
stored_same s v d long =
    let i = v % window in
    part-sets-same (record_of v d) s (record_size * i) record_size (omega (arith, length-record v d))
    ∙ sets-all (record_of v d) (record_at s i)
    (length-record v d ∙ sym (length_part (record_size * i) record_size s (omega (arith, mod-lt v {m = window} (omega arith)))))

-- ---- a slot when what lies outside the window is forgotten
unfoldable forgotten_record : (newest new : ℕ) → List ℕ → List ℕ
forgotten_record newest new r = stays newest new (index_of r) ⇒ r ⁏ sets r 0 blank

through : {A B : Type 0} (f : A → B) (b : Bool) (x y : A) → f (b ⇒ x ⁏ y) ≡ (b ⇒ f x ⁏ f y)
unfolding ◌⇒◌⁏◌
through f true x y = refl
through f false x y = refl

module _ (newest new : ℕ) where
  at_here : (s : List ℕ) (i : ℕ) → record_at (forgotten_at newest new s i) i ≡ forgotten_record newest new (record_at s i)
  unfolding forgotten_at forgotten_record
  at_here s i =
      through (λ (t : List ℕ). record_at t i) (stays newest new (index_of (record_at s i))) s (sets s (record_size * i) blank)
      ∙ below _ _ _ _ (λ h. part-sets-same blank s (record_size * i) record_size (omega (arith, length-blank)))

  at_other : (s : List ℕ) (i j : ℕ) → (i ≡ j → ⊥) → record_at (forgotten_at newest new s i) j ≡ record_at s j
  unfolding forgotten_at
  at_other s i j n =
      each (λ (t : List ℕ). record_at t j ≡ record_at s j) _ _ _
      (λ h. refl) (λ h. put_other s blank i j (omega (arith, length-blank)) n)

  from_past : (n : ℕ) (s : List ℕ) (i j : ℕ) → j < i → record_at (forgotten_from newest new s i n) j ≡ record_at s j
  unfolding forgotten_from
  from_past zero s i j h = refl
  from_past (suc n) s i j h =
      from_past n (forgotten_at newest new s i) (suc i) j (omega arith) ∙ at_other s i j (λ e. omega arith)

  from_in : (n : ℕ) (s : List ℕ) (i j : ℕ) → i ≤ j → j < i + n
      → record_at (forgotten_from newest new s i n) j ≡ forgotten_record newest new (record_at s j)
  unfolding forgotten_from
  from_in zero s i j l h = absurd (omega arith)
  from_in (suc n) s i j l h =
      ⊎_elim
      (λ e. rw (← e) (from_past n (forgotten_at newest new s i) (suc i) i (omega arith) ∙ at_here s i))
      (λ m.
      from_in n (forgotten_at newest new s i) (suc i) j m (omega arith)
      ∙ ap (forgotten_record newest new) (at_other s i j (λ e. omega arith))) (eq-or-lt_of_le l)

  slot-forgotten : (s : List ℕ) (v : ℕ) → slot (forgotten newest new s) v ≡ forgotten_record newest new (slot s v)
  slot-forgotten s v = from_in window s 0 (v % window) (omega arith) (omega (arith, mod-lt v {m = window} (omega arith)))

  from-beyond : (n : ℕ) (s : List ℕ) (i : ℕ) → i + n ≤ window
      → drop (window * record_size) (forgotten_from newest new s i n) ≡ drop (window * record_size) s
  unfolding forgotten_from forgotten_at
  from-beyond zero s i h = refl
  from-beyond (suc n) s i h =
      from-beyond n (forgotten_at newest new s i) (suc i) (omega arith)
      ∙ each (λ (t : List ℕ). drop (window * record_size) t ≡ drop (window * record_size) s) _ _ _ (λ k. refl)
      (λ k. drop-sets-past blank s (record_size * i) (window * record_size) (omega (arith, length-blank)))

  from-length : (n : ℕ) (s : List ℕ) (i : ℕ) → length (forgotten_from newest new s i n) ≡ length s
  unfolding forgotten_from forgotten_at
  from-length zero s i = refl
  from-length (suc n) s i =
      from-length n (forgotten_at newest new s i) (suc i)
      ∙ each (λ (t : List ℕ). length t ≡ length s) _ _ _ (λ h. refl) (λ h. length-sets s (record_size * i) blank)

  pub length-forgotten : (s : List ℕ) → length (forgotten newest new s) ≡ length s
  length-forgotten s = from-length window s 0

-- ---- the length, and what lies behind the 64 slots, when a description is stored
module _ (newest new : ℕ) (s : List ℕ) (v : ℕ) (d : List ℕ) where
  pub stored-length : length (stored (forgotten newest new s) v d) ≡ length s
  stored-length = length-sets (forgotten newest new s) (record_size * (v % window)) (record_of v d) ∙ length-forgotten newest new s

  pub stored-beyond : drop (window * record_size) (stored (forgotten newest new s) v d) ≡ drop (window * record_size) s
  stored-beyond =
      drop-sets-past (record_of v d) (forgotten newest new s) (record_size * (v % window)) (window * record_size)
      (omega (arith, length-record v d, mod-lt v {m = window} (omega arith)))
      ∙ from-beyond newest new window s 0 (omega arith)

-- ---- what is held
pub held_of : (s : List ℕ) (newest v : ℕ) → held s newest v ≡ true → (in_window newest v ≡ true) × ((index_of (slot s v) ≡ v) × (0 < length_of (slot s v)))
unfolding held carries
held_of s newest v h =
    let p = and-of _ _ h in
    let q = and-of _ _ p.1 in
    (p.0, (eq_of (index_of (slot s v)) v q.0, lt_of 0 (length_of (slot s v)) q.1))

pub held-is : (s : List ℕ) (newest v : ℕ) → in_window newest v ≡ true → index_of (slot s v) ≡ v → 0 < length_of (slot s v) → held s newest v ≡ true
unfolding held carries
held-is s newest v a b c = and_is _ _ a (and_is _ _ (eq _ _ b) (lt _ _ c))

-- a forgotten record carries nothing: what is there still was there before, and its value stays
forgotten-of : (newest new : ℕ) (r : List ℕ) → length r ≤ record_size → 0 < length_of (forgotten_record newest new r)
    → (stays newest new (index_of r) ≡ true) × (forgotten_record newest new r ≡ r)
unfolding forgotten_record
forgotten-of newest new r h k =
    ⊎_elim
    (λ t. (t, sym (yes _ _ t refl)))
    (λ f.
    let e : forgotten_record newest new r ≡ sets r 0 blank = sym (no _ _ f refl) in
    absurd (omega (arith, ap length_of e, zeros-at record_size r 2 h, zeros-at record_size r 3 h))) (either (stays newest new (index_of r)))

pub stays-there : (newest new : ℕ) (s : List ℕ) (v : ℕ) → stays newest new (index_of (slot s v)) ≡ true → slot (forgotten newest new s) v ≡ slot s v
unfolding forgotten_record
stays-there newest new s v t = slot-forgotten newest new s v ∙ sym (yes _ _ t refl)

pub still-there : (newest new : ℕ) (s : List ℕ) (v : ℕ) (r : List ℕ) → r ≡ slot (forgotten newest new s) v → 0 < length_of r
    → (stays newest new (index_of r) ≡ true) × (r ≡ slot s v)
still-there newest new s v r e k =
    let f = e ∙ slot-forgotten newest new s v in
    let b = forgotten-of newest new (slot s v) (length-part-le (record_size * (v % window)) record_size s) (omega (arith, ap length_of f)) in
    (ap (stays newest new) (ap index_of (f ∙ b.1)) ∙ b.0, f ∙ b.1)
