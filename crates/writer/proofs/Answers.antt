-- What each answer of the writer says: of a payload, that its bytes are what the writer leaves; of 12, 13 and 14, that each is given
-- exactly when the paper says. Assumes nothing.
use Rattle.writer.specs.Written.{packed, packed-len, packed-count}
use Rattle.std.specs.Prelude.{ℕ, ◌+◌, ◌≤◌, ◌<◌, ◌≡◌, refl, Bool, true, false, ◌⊎◌, List, length, take, drop, Err}
use Rattle.std.proofs.Common.{arith, sym, ap, ◌∙◌, inl, inr, ⊎_elim, take_at}
use Rattle.std.proofs.lemmas.List.Edits.{sets, sets-eq}
use Rattle.laws.specs.Exactly.{Exactly}
use Rattle.laws.specs.Rows.{each, lt, eq_of, ne_of, lt_of, ge-of, and-of, and_is, or-of, or-none}
use Rattle.laws.specs.Region.{drop-sets-past}
use Rattle.paper.specs.Limits.{parts_most}
use Rattle.paper.specs.declared.Refusal.TheVariants as R
use Rattle.unit.specs.Layout.{description}
use Rattle.unit.specs.Again.{bytes_of}
use Rattle.writer.specs.Write.{written_number, Caption, sample, long, parts, count, payload, unsized, unwritable, uncut, After, after, written, undescribed, described}
use Rattle.writer.proofs.Returns.{writable, returns-12, returns-13, returns-none, returns-14, cut-count, described-12, described-13, described-14}
use Rattle.writer.proofs.Payloads.{payload-fits}
use Rattle.writer.specs.Answers.{PayloadWritten, Describable, DescriptionWritten}

-- bytes that were laid over the front of a list with room for them
laid-front : (p out : List ℕ) → length p ≤ length out → take (length p) (sets out 0 p) ≡ p
laid-front p out h = ap (take (length p)) (sets-eq p out 0 (omega arith)) ∙ take_at p (drop (0 + length p) out) (length p) refl

laid-behind : (p out : List ℕ) → drop (length p) (sets out 0 p) ≡ drop (length p) out
laid-behind p out = drop-sets-past p out 0 (length p) (omega arith)

-- 13: the sample plus 9 does not fit M, and there is no string to cut or the rules give over 15 parts
pub uncut-of : (c : Caption) (M : ℕ)
    → Exactly (uncut c M ≡ true) ((M < length (sample c) + 9) × ((length c.string ≡ 0) ⊎ (parts_most < length (parts c M))))
unfolding uncut long
uncut-of c M = (
  λ h.
      let a = and-of _ _ h in
      (lt_of _ _ a.0, ⊎_elim (λ e. inl (eq_of _ _ e)) (λ e. inr (omega (arith, lt_of _ _ e, cut-count c M a.0))) (or-of _ _ a.1)),
  λ w.
      let l : long c M ≡ true = lt _ _ w.0 in
      and_is _ _ l
      (each (λ (b : Bool). b ≡ true) _ _ _ (λ z. refl)
      (λ z. lt _ _ (⊎_elim (λ e. absurd (ne_of _ _ z e)) (λ e. omega (arith, cut-count c M l)) w.1))),
)

module _ (c : Caption) (M k : ℕ) (out : List ℕ) where
  -- each row with what is known where it is reached
  written-each : (P : After → Type 0) → (unwritable c M (length out) ≡ true → P (after (Err R.Writer) out))
      → (unwritable c M (length out) ≡ false → uncut c M ≡ true → P (after (Err R.Parts) out))
      → (unwritable c M (length out) ≡ false → uncut c M ≡ false → (k ≡ 0) ⊎ (count c M < k) → P (after (Err R.Payload) out))
      → (unwritable c M (length out) ≡ false → uncut c M ≡ false → 1 ≤ k → k ≤ count c M
      → P (after (packed (length (payload c M k)) (count c M)) (sets out 0 (payload c M k))))
      → P (written c M k out)
  unfolding written
  written-each P row-12 row-13 row-14 row-payload =
      each P _ _ _ row-12
      (λ w. each P _ _ _ (row-13 w)
      (λ u. each P _ _ _ (λ z. row-14 w u (inl (eq_of _ _ z)))
      (λ z. each P _ _ _ (λ l. row-14 w u (inr (lt_of _ _ l)))
      (λ l. let n = ne_of _ _ z in row-payload w u (omega arith) (ge-of _ _ l)))))

  -- what the writer leaves are the payload's bytes, and behind them the output as it was
  pub payload-written : (len N : ℕ) → (written c M k out).answer ≡ packed len N → PayloadWritten c M k out (written c M k out).out len N
  payload-written len N =
      written-each (λ (a : After). a.answer ≡ packed len N → PayloadWritten c M k out a.out len N)
      (λ w e. absurd (omega (arith, ap written_number e))) (λ w u e. absurd (omega (arith, ap written_number e)))
      (λ w u z e. absurd (omega (arith, ap written_number e)))
      (λ w u some within e.
      let v = writable c M (length out) w in
      let s : length (payload c M k) ≡ len = packed-len e in
      let n : count c M ≡ N = packed-count e in
      let f = payload-fits c M (length out) v u k some within in
      record {
        from = some;
        to = omega arith;
        total = sym n;
        size = sym s;
        front = rw (← s) (laid-front (payload c M k) out (omega (arith, v.lent)));
        behind = rw (← s) (laid-behind (payload c M k) out);
      })

  -- each refusal exactly
  pub twelve : Exactly ((written c M k out).answer ≡ Err R.Writer) (unwritable c M (length out) ≡ true)
  twelve = (
    written-each (λ (a : After). a.answer ≡ Err R.Writer → unwritable c M (length out) ≡ true) (λ w e. w)
        (λ w u e. absurd (omega (arith, ap written_number e))) (λ w u z e. absurd (omega (arith, ap written_number e)))
        (λ w u a b e. absurd (omega (arith, ap written_number e))),
    λ w. ap (λ (a : After). a.answer) (sym (returns-12 c M k out w)),
  )

  pub thirteen : Exactly ((written c M k out).answer ≡ Err R.Parts)
      ((unwritable c M (length out) ≡ false) × ((M < length (sample c) + 9) × ((length c.string ≡ 0) ⊎ (parts_most < length (parts c M)))))
  thirteen = (
    written-each
        (λ (a : After). a.answer ≡ Err R.Parts
        → (unwritable c M (length out) ≡ false) × ((M < length (sample c) + 9) × ((length c.string ≡ 0) ⊎ (parts_most < length (parts c M)))))
        (λ w e. absurd (omega (arith, ap written_number e))) (λ w u e. (w, (uncut-of c M).0 u)) (λ w u z e. absurd (omega (arith, ap written_number e)))
        (λ w u a b e. absurd (omega (arith, ap written_number e))),
    λ h. ap (λ (a : After). a.answer) (sym (returns-13 c M k out h.0 ((uncut-of c M).1 h.1))),
  )

  pub fourteen : Exactly ((written c M k out).answer ≡ Err R.Payload)
      ((unwritable c M (length out) ≡ false) × ((uncut c M ≡ false) × ((k ≡ 0) ⊎ (count c M < k))))
  fourteen = (
    written-each
        (λ (a : After). a.answer ≡ Err R.Payload → (unwritable c M (length out) ≡ false) × ((uncut c M ≡ false) × ((k ≡ 0) ⊎ (count c M < k))))
        (λ w e. absurd (omega (arith, ap written_number e))) (λ w u e. absurd (omega (arith, ap written_number e))) (λ w u z e. (w, (u, z)))
        (λ w u a b e. absurd (omega (arith, ap written_number e))),
    λ h. ap (λ (a : After). a.answer)
        (sym (⊎_elim (returns-none c M k out h.0 h.1.0) (λ l. returns-14 c M k out h.0 h.1.0 (omega arith) l) h.1.1)),
  )

-- the count does not depend on the payload that is asked for, nor on the output
pub same_count : (c : Caption) (M k k' : ℕ) (out out' : List ℕ) (len len' n n' : ℕ) → (written c M k out).answer ≡ packed len n
    → (written c M k' out').answer ≡ packed len' n' → n ≡ n'
same_count c M k k' out out' len len' n n' e e' = (payload-written c M k out len n e).total ∙ sym (payload-written c M k' out' len' n' e').total

pub describable : (SIDX n M room : ℕ) → undescribed SIDX n M room ≡ false → Describable SIDX n M room
unfolding undescribed unsized
describable SIDX n M room h =
    let a = or-none _ _ h in
    let b = or-none _ _ a.1 in
    let d = or-none _ _ b.1 in
    let e = or-none _ _ d.1 in
    let f = or-none _ _ e.1 in
    let z = ne_of _ _ b.0 in
    record {
      index = omega (arith, ge-of _ _ a.0);
      some = omega arith;
      few = ge-of _ _ d.0;
      least = ge-of _ _ e.0;
      most = ge-of _ _ f.0;
      lent = ge-of _ _ f.1;
    }

module _ (SIDX : ℕ) (d : List ℕ) (M k : ℕ) (out : List ℕ) where
  described-each : (P : After → Type 0) → (undescribed SIDX (length d) M (length out) ≡ true → P (after (Err R.Writer) out))
      → (undescribed SIDX (length d) M (length out) ≡ false → M < length d + 4 → P (after (Err R.Parts) out))
      → (undescribed SIDX (length d) M (length out) ≡ false → length d + 4 ≤ M → (k ≡ 1 → ⊥) → P (after (Err R.Payload) out))
      → (undescribed SIDX (length d) M (length out) ≡ false → length d + 4 ≤ M → k ≡ 1
      → P (after (packed (length d + 4) 1) (sets out 0 (bytes_of (description SIDX (length d)) d))))
      → P (described SIDX d M k out)
  unfolding described
  described-each P row-12 row-13 row-14 row-payload =
      each P _ _ _ row-12
      (λ w. each P _ _ _ (λ l. row-13 w (lt_of _ _ l))
      (λ l. each P _ _ _ (λ z. row-payload w (ge-of _ _ l) (eq_of _ _ z)) (λ z. row-14 w (ge-of _ _ l) (ne_of _ _ z))))

  pub described-written : (len N : ℕ) → (described SIDX d M k out).answer ≡ packed len N
      → DescriptionWritten SIDX d M k out (described SIDX d M k out).out len N
  described-written len N =
      described-each (λ (a : After). a.answer ≡ packed len N → DescriptionWritten SIDX d M k out a.out len N)
      (λ w e. absurd (omega (arith, ap written_number e))) (λ w l e. absurd (omega (arith, ap written_number e)))
      (λ w l z e. absurd (omega (arith, ap written_number e)))
      (λ w l z e.
      let v = describable SIDX (length d) M (length out) w in
      let b = bytes_of (description SIDX (length d)) d in
      let s : length d + 4 ≡ len = packed-len e in
      let n : ◌≡◌ {A = ℕ} 1 N = packed-count e in
      let t : length b ≡ len = omega arith in
      record {
        first = z;
        only = sym n;
        sent = v;
        size = sym t;
        front = rw (← t) (laid-front b out (omega (arith, v.lent)));
        behind = rw (← t) (laid-behind b out);
      })

  -- each refusal exactly
  pub described-twelve : Exactly ((described SIDX d M k out).answer ≡ Err R.Writer) (undescribed SIDX (length d) M (length out) ≡ true)
  described-twelve = (
    described-each (λ (a : After). a.answer ≡ Err R.Writer → undescribed SIDX (length d) M (length out) ≡ true) (λ w e. w)
        (λ w l e. absurd (omega (arith, ap written_number e))) (λ w l z e. absurd (omega (arith, ap written_number e)))
        (λ w l z e. absurd (omega (arith, ap written_number e))),
    λ w. ap (λ (a : After). a.answer) (sym (described-12 SIDX d M k out w)),
  )

  pub described-thirteen : Exactly ((described SIDX d M k out).answer ≡ Err R.Parts)
      ((undescribed SIDX (length d) M (length out) ≡ false) × (M < length d + 4))
  described-thirteen = (
    described-each (λ (a : After). a.answer ≡ Err R.Parts → (undescribed SIDX (length d) M (length out) ≡ false) × (M < length d + 4))
        (λ w e. absurd (omega (arith, ap written_number e))) (λ w l e. (w, l)) (λ w l z e. absurd (omega (arith, ap written_number e)))
        (λ w l z e. absurd (omega (arith, ap written_number e))),
    λ h. ap (λ (a : After). a.answer) (sym (described-13 SIDX d M k out h.0 h.1)),
  )

  pub described-fourteen : Exactly ((described SIDX d M k out).answer ≡ Err R.Payload)
      ((undescribed SIDX (length d) M (length out) ≡ false) × ((length d + 4 ≤ M) × (k ≡ 1 → ⊥)))
  described-fourteen = (
    described-each
        (λ (a : After). a.answer ≡ Err R.Payload → (undescribed SIDX (length d) M (length out) ≡ false) × ((length d + 4 ≤ M) × (k ≡ 1 → ⊥)))
        (λ w e. absurd (omega (arith, ap written_number e))) (λ w l e. absurd (omega (arith, ap written_number e))) (λ w l z e. (w, (l, z)))
        (λ w l z e. absurd (omega (arith, ap written_number e))),
    λ h. ap (λ (a : After). a.answer) (sym (described-14 SIDX d M k out h.0 h.1.0 h.1.1)),
  )
