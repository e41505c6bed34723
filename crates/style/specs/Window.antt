-- What becomes of a desk's descriptions when a unit comes, for any store, newest value and unit. Assumes nothing.
use Rattle.std.specs.Prelude.{ℕ, ◌-◌, ◌*◌, ◌%◌, ◌≤◌, ◌<◌, ◌≡◌, ◌⊎◌, List, [], length, drop}
use Rattle.std.proofs.Common.{arith, eq-zero-or-pos, ◌∙◌, inl, inr}
use Rattle.std.proofs.Math.Bool.{true, false, true≢false}
use Rattle.std.proofs.Math.Path.{refl, ap, sym}
use Rattle.std.proofs.Math.Logic.{⊎_elim}
use Rattle.laws.specs.Rows.{◌=?◌, yes, no, lt, ge, ne, lt_of, ge-of, eq_of, ne_of, each, and-of, and_is, or-none}
use Rattle.paper.specs.Limits.{record_size, description_most, in_band, window}
use Rattle.paper.specs.Words.{kind_of}
use Rattle.paper.specs.declared.Refusal.TheVariants.{Fields, Size, Conflict}
use Rattle.paper.specs.declared.Outcome.{Outcome}
use Rattle.paper.specs.declared.Outcome.TheVariants.{Repeat, Described, Refused}
use Rattle.octets.specs.Same.{same_of}
use Rattle.style.specs.declared.Noted.{Noted}
use Rattle.style.specs.Record.{index_of, length_of, description_of, record_of}
use Rattle.style.specs.Store.{in_window, moved, slot, carries, held, in_store, stays, forgotten, stored, repeated, improper, After, noted_as, left, noted}
use Rattle.style.specs.Shown.{shown}
use Rattle.style.specs.Puts.{either}
use Rattle.style.specs.Turns.{noted-described}
use Rattle.style.specs.Slots.{in-window-of, moved-in-window, apart, record-index, record-length, record-description, stored_other, stored_same}
use Rattle.style.specs.Slots.{length-forgotten, stored-length, stored-beyond, held_of, held-is, stays-there, still-there}

-- ---- what is shown of a value that is held
shown-held : (book store : List ℕ) (newest v : ℕ) → held store newest v ≡ true → shown book store newest v ≡ description_of (slot store v)
unfolding shown in_store
shown-held book store newest v h =
    let w = in-window-of newest v (held_of store newest v h).0 in sym (yes _ _ (lt _ _ w.1.0) (yes _ _ h refl))

module _ (store : List ℕ) (newest sidx : ℕ) (d : List ℕ) where
  -- the store, the newest value and the outcome when the unit d of the value sidx has come
  abbrev pub store_after : List ℕ
  store_after = (noted store newest sidx d).store

  abbrev pub newest_after : ℕ
  newest_after = (noted store newest sidx d).answer.newest

  abbrev pub outcome_after : Outcome
  outcome_after = (noted store newest sidx d).answer.outcome

  -- a unit leaves all as it was, or is stored
  noted-each : (P : After → Type 0)
      → ((o : Outcome) → (o ≡ Described → ⊥) → (o ≡ Repeat → repeated store newest sidx d ≡ true) → P (left (noted_as newest o) store))
      → (sidx < in_band → 0 < length d → length d ≤ description_most → held store newest sidx ≡ false
      → P (left (noted_as (moved newest sidx) Described) (stored (forgotten newest (moved newest sidx) store) sidx d)))
      → P (noted store newest sidx d)
  unfolding noted improper
  noted-each P stay new =
      each P _ _ _
      (λ i. stay (Refused Fields) (λ e. omega (arith, ap kind_of e)) (λ e. absurd (omega (arith, ap kind_of e))))
      (λ i. each P _ _ _
      (λ l. stay (Refused Size) (λ e. omega (arith, ap kind_of e)) (λ e. absurd (omega (arith, ap kind_of e))))
      (λ l. each P _ _ _
      (λ r. stay Repeat (λ e. omega (arith, ap kind_of e)) (λ e. r))
      (λ r. each P _ _ _
      (λ h. stay (Refused Conflict) (λ e. omega (arith, ap kind_of e)) (λ e. absurd (omega (arith, ap kind_of e))))
      (λ h.
      let p = or-none _ _ i in
      let a = ge-of (in_band - 1) sidx p.0 in
      let b = ne_of (length d) 0 p.1 in
      new (omega arith) (pos (length d) b) (ge-of description_most (length d) l) h))))
    where
      pos : (n : ℕ) → (n ≡ 0 → ⊥) → 0 < n
      pos n k = ⊎_elim (λ e. absurd (k e)) (λ m. m) (eq-zero-or-pos n)

  -- a slot of the new window is as it was, but for the unit's own
  kept_slot : sidx < in_band → (v : ℕ) → (v ≡ sidx → ⊥) → held (stored (forgotten newest (moved newest sidx) store) sidx d) (moved newest sidx) v ≡ true
      → (in_window newest v ≡ true) × (slot (stored (forgotten newest (moved newest sidx) store) sidx d) v ≡ slot store v)
  unfolding stays
  kept_slot hs v n h =
      let new = moved newest sidx in
      let s = forgotten newest new store in
      let w = held_of (stored s sidx d) new v h in
      let b = still-there newest new store v (slot (stored s sidx d) v)
      (stored_other s sidx d v (λ q. n (apart new v sidx w.0 (moved-in-window newest sidx hs) (sym q)))) w.1.1 in
      ((and-of _ _ (rw w.1.0 at b.0)).0, b.1)

  -- every value that is held lies in the window, and was held before or is the unit's own
  pub only-window : (v : ℕ) → held store_after newest_after v ≡ true
      → (in_window newest_after v ≡ true) × ((held store newest v ≡ true) ⊎ (v ≡ sidx))
  only-window =
      noted-each
      (λ (a : After). (v : ℕ) → held a.store a.answer.newest v ≡ true
      → (in_window a.answer.newest v ≡ true) × ((held store newest v ≡ true) ⊎ (v ≡ sidx)))
      (λ o n r v h. ((held_of store newest v h).0, inl h))
      (λ hs hd hl hh v h.
      let w = held_of (stored (forgotten newest (moved newest sidx) store) sidx d) (moved newest sidx) v h in (
        w.0,
        ⊎_elim
            (λ t. inr (eq_of v sidx t))
            (λ t.
            let k = kept_slot hs v (ne_of v sidx t) h in
            inl (held-is store newest v k.0 (ap index_of (sym k.1) ∙ w.1.0) (omega (arith, w, ap length_of k.1)))) (either (v =? sidx)),
      ))

  -- nothing else is forgotten: a value that is held and lies in the window after the unit is held still
  pub still-held : (v : ℕ) → held store newest v ≡ true → in_window newest_after v ≡ true → held store_after newest_after v ≡ true
  unfolding stays
  still-held v was =
      noted-each
      (λ (a : After). in_window a.answer.newest v ≡ true → held a.store a.answer.newest v ≡ true)
      (λ o n r h. was)
      (λ hs hd hl hh h.
      let new = moved newest sidx in
      let s = forgotten newest new store in
      let w = held_of store newest v was in
      let i : index_of (slot store v) ≡ v = w.1.0 in
      let e : slot (stored s sidx d) v ≡ slot store v =
      stored_other s sidx d v
      (λ q. true≢false (sym was ∙ ap (held store newest) (apart new v sidx h (moved-in-window newest sidx hs) (sym q)) ∙ hh))
      ∙ stays-there newest new store v (rw i (and_is _ _ w.0 h)) in
      held-is (stored s sidx d) new v h (ap index_of e ∙ i) (omega (arith, w, ap length_of e)))

  -- a value that is held before and after shows the same bytes
  pub never-changed : (book : List ℕ) (v : ℕ) → held store newest v ≡ true → held store_after newest_after v ≡ true
      → shown book store_after newest_after v ≡ shown book store newest v
  never-changed book v was =
      noted-each
      (λ (a : After). held a.store a.answer.newest v ≡ true → shown book a.store a.answer.newest v ≡ shown book store newest v)
      (λ o n r h. refl)
      (λ hs hd hl hh h.
      let k = kept_slot hs v (λ e. true≢false (sym was ∙ ap (held store newest) e ∙ hh)) h in
      shown-held book _ _ v h ∙ ap description_of k.1 ∙ sym (shown-held book store newest v was))

  -- a proper unit whose value is not held is described, and newest becomes what the rule says
  module _ (hs : sidx < in_band) (hd : 0 < length d) (hl : length d ≤ description_most) where
    pub described-as : held store newest sidx ≡ false → (noted store newest sidx d).answer ≡ noted_as (moved newest sidx) Described
    unfolding improper repeated
    described-as h =
        let i : improper sidx d ≡ false = sym (no _ _ (ge _ _ (omega arith)) (sym (ne _ _ (λ e. omega arith)))) in
        ap (λ (a : After). a.answer) (sym (noted-described store newest sidx d i hl (sym (no _ _ h refl)) h _ refl _ refl _ refl))

    -- and only then
    pub described-unless : (outcome_after ≡ Described → held store newest sidx ≡ false) × (held store newest sidx ≡ false → outcome_after ≡ Described)
    described-unless = (
      noted-each (λ (a : After). a.answer.outcome ≡ Described → held store newest sidx ≡ false) (λ o n r e. absurd (n e)) (λ hs hd hl hh e. hh),
      λ h. ap (λ (a : Noted). a.outcome) (described-as h),
    )

  -- what is described, or a repeat, is held from then on
  pub stored-held : window * record_size ≤ length store → (outcome_after ≡ Described) ⊎ (outcome_after ≡ Repeat) → held store_after newest_after sidx ≡ true
  unfolding repeated
  stored-held long =
      noted-each
      (λ (a : After). (a.answer.outcome ≡ Described) ⊎ (a.answer.outcome ≡ Repeat) → held a.store a.answer.newest sidx ≡ true)
      (λ o n r k. (and-of _ _ (r (⊎_elim (λ e. absurd (n e)) (λ e. e) k))).0)
      (λ hs hd hl hh k.
      let new = moved newest sidx in
      let s = forgotten newest new store in
      let e : slot (stored s sidx d) sidx ≡ record_of sidx d = stored_same s sidx d (omega (arith, length-forgotten newest new store)) in
      held-is (stored s sidx d) new sidx (moved-in-window newest sidx hs) (ap index_of e ∙ record-index sidx d hl (omega arith))
      (omega (arith, ap length_of e, record-length sidx d hl)))

  -- and shown byte for byte
  pub stored-shown : (book : List ℕ) → window * record_size ≤ length store → (outcome_after ≡ Described) ⊎ (outcome_after ≡ Repeat)
      → shown book store_after newest_after sidx ≡ d
  unfolding repeated
  stored-shown book long k =
      noted-each
      (λ (a : After). (a.answer.outcome ≡ Described) ⊎ (a.answer.outcome ≡ Repeat) → held a.store a.answer.newest sidx ≡ true
      → shown book a.store a.answer.newest sidx ≡ d)
      (λ o n r k h.
      let p = and-of _ _ (r (⊎_elim (λ e. absurd (n e)) (λ e. e) k)) in
      shown-held book store newest sidx h ∙ same_of (description_of (slot store sidx)) d p.1)
      (λ hs hd hl hh k h.
      let new = moved newest sidx in
      let s = forgotten newest new store in
      let e : slot (stored s sidx d) sidx ≡ record_of sidx d = stored_same s sidx d (omega (arith, length-forgotten newest new store)) in
      shown-held book (stored s sidx d) new sidx h ∙ ap description_of e ∙ record-description sidx d hl)
      k (stored-held long k)

  -- a value outside the window is not held, and nothing is shown of it
  pub forgotten-gone : (v : ℕ) → in_window newest_after v ≡ false
      → (held store_after newest_after v ≡ false) × ((book : List ℕ) → v < in_band → shown book store_after newest_after v ≡ [])
  unfolding held shown in_store
  forgotten-gone v out = (sym (no _ _ out refl), λ book hv. sym (yes _ _ (lt _ _ hv) (no _ _ (sym (no _ _ out refl)) refl)))

  -- and where the unit is described, no slot carries it any more
  pub forgotten-erased : window * record_size ≤ length store → outcome_after ≡ Described
      → (v : ℕ) → in_window newest_after v ≡ false → carries (slot store_after v) v ≡ true → ⊥
  unfolding carries stays
  forgotten-erased long =
      noted-each
      (λ (a : After). a.answer.outcome ≡ Described → (v : ℕ) → in_window a.answer.newest v ≡ false → carries (slot a.store v) v ≡ true → ⊥)
      (λ o n r k. absurd (n k))
      (λ hs hd hl hh k v out c.
      let new = moved newest sidx in
      let s = forgotten newest new store in
      let p = and-of _ _ c in
      let i = eq_of (index_of (slot (stored s sidx d) v)) v p.0 in
      ⊎_elim
      (λ t.
      let q = eq_of (sidx % window) (v % window) t in
      let e : slot (stored s sidx d) v ≡ record_of sidx d =
      rw (← q) (stored_same s sidx d (omega (arith, length-forgotten newest new store))) in
      let x : sidx ≡ v = sym (record-index sidx d hl (omega arith)) ∙ ap index_of (sym e) ∙ i in
      true≢false (sym (moved-in-window newest sidx hs) ∙ ap (in_window new) x ∙ out))
      (λ t.
      let b = still-there newest new store v (slot (stored s sidx d) v) (stored_other s sidx d v (ne_of (sidx % window) (v % window) t))
      (lt_of 0 (length_of (slot (stored s sidx d) v)) p.1) in
      true≢false (sym (and-of _ _ (rw i at b.0)).1 ∙ out)) (either (sidx % window =? v % window)))

  -- the store keeps its length, and only the 64 slots are ever written
  pub only-slots : (length store_after ≡ length store) × (drop (window * record_size) store_after ≡ drop (window * record_size) store)
  only-slots =
      noted-each
      (λ (a : After). (length a.store ≡ length store) × (drop (window * record_size) a.store ≡ drop (window * record_size) store))
      (λ o n r. (refl, refl))
      (λ hs hd hl hh. (stored-length newest (moved newest sidx) store sidx d, stored-beyond newest (moved newest sidx) store sidx d))
