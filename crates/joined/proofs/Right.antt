-- One call of a desk: what it is told and handed is what the ledger says, and place and page tally after it. Assumes nothing.
use Prim.Native.Nat.{ℕ, zero, suc, ◌+◌, ◌-◌, ◌≤◌, ◌<◌}
use native.Mathlib.Omega.{arith}
use Rattle.std.specs.Prelude.{◌≡◌, Bool, false, List, ◌++◌, length, drop, Some, None}
use Rattle.std.proofs.Math.Path.{refl, sym, ap, subst}
use Rattle.std.proofs.Common.{◌∙◌, true≢false, inl, inr, ⊎_elim}
use Rattle.std.proofs.Math.Bool.{true}
use Rattle.std.proofs.Math.Option.{Option, none, some}
use Rattle.std.proofs.lemmas.List.Edits.{sets, sets-eq}
use Rattle.laws.specs.Rows.{◌=?◌, each, yes, no, eq, ne, lt_of, ge-of, and-of, eq_of}
use Rattle.paper.specs.Limits.{sample_most}
use Rattle.paper.specs.Words.{number_of}
use Rattle.paper.specs.declared.Refusal.{Refusal}
use Rattle.paper.specs.declared.Refusal.TheVariants as R
use Rattle.paper.specs.Time.{Time}
use Rattle.joining.specs.Joining.{Piece, kinds, together, string_of, ordered, sound}
use Rattle.unit.specs.declared.Whole as W
use Rattle.paper.specs.declared.Outcome.TheVariants as O
use Rattle.unit.specs.declared.Part as P
use Rattle.unit.specs.declared.Unit as U
use Rattle.unit.specs.declared.Unit.TheVariants.{End, Skipped, Refused, Whole, Part, Description}
use Rattle.unit.specs.Layout.{read_of, data_of}
use Rattle.unit.specs.Reads.{ByReader, Counts, Counted}
use Rattle.unit.proofs.Readings.{read-by-reader, reads-counted}
use Rattle.sample.specs.declared.Place.{Place}
use Rattle.sample.specs.Place.{bare, closed, missing, pieces_of, kept, oversize}
use Rattle.sample.specs.Arrival.{in_order, or_blank}
use Rattle.sample.specs.Filled.{together-filled}
use Rattle.sample.specs.Repeat.{repeat-of}
use Rattle.sample.specs.Sound.{sound-of}
use Rattle.style.specs.Store.{noted}
use Rattle.style.specs.Store as S
use Rattle.desk.specs.declared.Shares.{Shares}
use Rattle.desk.specs.Desk.{Own, After, Given, refuse, facts, whole_taken, sample_of, conflicts, completed, joining, description_taken}
use Rattle.desk.specs.Desk.{taken, received, given_up}
use Rattle.desk.proofs.Effects.{not-ten, at-times}
use Rattle.memory.specs.Relay.{ordered as in-turn, yielded}
use Rattle.joined.specs.Ledger.{Entry, Parts, adding, entered, entered_by, given_up_by, is_entered, entered_piece, in_this_order}
use Rattle.joined.specs.Ledger.{different, Complete, Tell, KeptSays, JoinedSays, SaysPart, NoPart, Early, SaysUnit}
use Rattle.joined.specs.Tallies.{Tallies}
use Rattle.joined.proofs.Tallies.{closed-tallies, sample-tallies, missing-different, none-missing, pieces-in-order}
use Rattle.joined.proofs.Tallies.{total-stays, sdur-stays, not_entered, kept-tallies}

-- ---- what a complete place that tallies says
module _ (p : Place) (E : Parts) (t : Tallies p E) (TOTAL : ℕ) (e : p.total ≡ TOTAL) where
  abbrev ps : List Piece
  ps = in_this_order E TOTAL

  pieces_are : pieces_of p ≡ ps
  pieces_are = pieces-in-order p E t ∙ ap (in_this_order E) e

  all_there : missing p ≤ 0 → Complete E TOTAL
  all_there h = subst (Complete E) e (none-missing p E t (omega arith))

  -- where the TYPEs are in order, the first part is TYPE 2, and tells the place's SLEN
  first-tells : (n : ℕ) → ordered (kinds (in_this_order E n)) ≡ true → Complete E n → (U SIDX SLEN : ℕ) → Tell E U SIDX SLEN → SLEN ≡ p.slen
  unfolding in_order ordered
  first-tells zero o c U SIDX SLEN tell = absurd (true≢false (sym o))
  first-tells (suc n) o c U SIDX SLEN tell = go (E 1) refl (c 1 (omega arith) (omega arith)) (and-of _ _ o).0
    where
      go : (y : Option Entry) → E 1 ≡ y → is_entered (E 1) ≡ true → ((or_blank (entered_piece (E 1))).kind =? 2) ≡ true → SLEN ≡ p.slen
      go none q i k = absurd (true≢false (sym i ∙ ap is_entered q))
      go (some w) q i k =
          let h : w.part.kind ≡ 2 = eq_of _ _ (subst (λ (z : Option Entry). ((or_blank (entered_piece z)).kind =? 2) ≡ true) q k) in
          sym (tell 1 w q h).2 ∙ (t.tell 1 w q h).2

  spoiled-says : missing p ≤ 0 → sound p.slen (pieces_of p) ≡ false → (U SIDX SLEN : ℕ) → Tell E U SIDX SLEN → sound SLEN ps ≡ false
  spoiled-says z f U SIDX SLEN tell = go (sound SLEN ps) refl
    where
      go : (b : Bool) → sound SLEN ps ≡ b → b ≡ false
      go false h = refl
      go true h =
          let l = first-tells TOTAL (sound-of SLEN ps h).0 (all_there z) U SIDX SLEN tell in
          absurd (true≢false (sym h ∙ ap (λ (n : ℕ). sound n ps) l ∙ ap (sound p.slen) (sym pieces_are) ∙ f))

-- ---- a part: q is the sample that it belongs to, and was open or is opened by it
module _ (s : Own) (time used : ℕ) (next : Time) (E : Parts) (x : P.Part) (d : List ℕ) where
  -- what the call is told, and that place and page tally after it
  abbrev pub Right : After → Type 0
  Right a = SaysPart E time x d s.out a.answer.outcome a.own.out × Tallies a.own.place (entered E x d a.answer.outcome)

  module _ (q : Place) (t : Tallies q E) (opened : q.used ≡ true) (c : Counts x) (a : conflicts q x ≡ false)
      (b : oversize q x (length d) ≡ false) (room : sample_most ≤ length s.out) where
    abbrev p : Place
    p = kept q x d

    t' : Tallies p (adding E x d)
    t' = kept-tallies q E t opened x d c a b

    e : p.total ≡ x.total
    e = total-stays q E t opened x d c a b

    abbrev ps' : List Piece
    ps' = in_this_order (adding E x d) x.total

    same-pieces : pieces_of p ≡ ps'
    same-pieces = pieces_are p (adding E x d) t' x.total e

    kept-right : 0 < missing p → KeptSays E x d s.out (missing p) s.out
    kept-right h = record {
      new = not_entered q E t opened x d c a b;
      some-missing = h;
      missing = missing-different p (adding E x d) t' ∙ ap (λ (n : ℕ). n - different (adding E x d)) e;
      out_stays = refl;
    }

    joined-right : missing p ≤ 0 → sound p.slen (pieces_of p) ≡ true
        → JoinedSays E time x d s.out
        (facts time p.u p.sidx p.sdur (length (string_of (pieces_of p))) (length (together (pieces_of p))))
        (sets s.out 0 (together (pieces_of p)))
    joined-right z g =
        let o = sound-of p.slen (pieces_of p) g in
        let l = together-filled p t'.made in
        let m : 0 + length (together (pieces_of p)) ≡ length (together (pieces_of p)) = omega arith in
        record {
          complete = all_there p (adding E x d) t' x.total e z;
          in_order = subst (λ (ys : List Piece). ordered (kinds ys) ≡ true) same-pieces o.0;
          tell = λ k w h y. let r = t'.tell k w h y in (r.0, r.1, r.2 ∙ sym o.1);
          at = refl;
          lasting = sdur-stays q E t opened x d c a b;
          string = ap (λ (ys : List Piece). length (string_of ys)) same-pieces;
          sample = ap (λ (ys : List Piece). length (together ys)) same-pieces;
          fits = (omega (arith, l, t'.made.room), room);
          handed =
              sets-eq (together (pieces_of p)) s.out 0 (omega (arith, l, t'.made.room))
              ∙ ap (λ (n : ℕ). together (pieces_of p) ++ drop n s.out) m
              ∙ ap (λ (ys : List Piece). together ys ++ drop (length (together (pieces_of p))) s.out) same-pieces;
        }

    completed-right : Right (completed s time used next p)
    unfolding completed
    completed-right =
        each Right _ _ _ (λ k. (kept-right (lt_of _ _ k), t'))
        (λ k. each Right _ _ _ (λ g. (joined-right (ge-of _ _ k) g, closed-tallies))
        (λ g. (
          λ z. record {
            complete = all_there p (adding E x d) t' x.total e (ge-of _ _ k);
            no-sample = spoiled-says p (adding E x d) t' x.total e (ge-of _ _ k) g;
          },
          subst (Tallies closed) (yes _ _ (eq 10 10 refl) refl) closed-tallies,
        )))

  module _ (h : Shares) (desk : ℕ) (tp : Tallies s.place E) (c : Counts x) (room : sample_most ≤ length s.out) where
    refused-right : (r : Refusal) → (number_of r ≡ 10 → ⊥) → Right (refuse s used next r)
    refused-right r n = (λ z. absurd (n z), subst (Tallies s.place) (no _ _ (ne _ 10 n) refl) tp)

    opens : (sample_of s.place desk time x).used ≡ true
    unfolding sample_of bare
    opens = each (λ (q : Place). q.used ≡ true) s.place.used s.place _ (λ u. u) (λ u. refl)

    part_right : Right (joining h s time used next (sample_of s.place desk time x) x d)
    unfolding joining
    part_right =
        let q = sample_of s.place desk time x in
        let t = sample-tallies s.place E tp desk time x c in
        each Right _ _ _ (λ k. refused-right R.Late (λ z. omega arith))
        (λ k. each Right _ _ _ (λ y. ((sym (t.pieces x.this) ∙ (repeat-of q x d y).0, refl), tp))
        (λ k. each Right _ _ _ (λ k. refused-right R.Conflict (λ z. omega arith))
        (λ a. each Right _ _ _ (λ k. refused-right R.Size (λ z. omega arith))
        (λ b. each Right _ _ _ (λ k. refused-right R.Six (λ z. omega arith))
        (λ k. each Right _ _ _ (λ k. refused-right R.Common (λ z. omega arith))
        (λ k. completed-right q t opens c a b room))))))

-- ---- any unit
module _ (h : Shares) (s : Own) (desk : ℕ) (rest : List ℕ) (E : Parts) (tp : Tallies s.place E) where
  abbrev RightOf : U.Unit → Time → After → Type 0
  RightOf x t a =
      SaysUnit E t rest s.out x a.answer.outcome a.own.out
      × Tallies a.own.place (entered_by E rest x a.answer.outcome)

  -- 1, 2 and 18 are not 10
  not-spoiled : (r : Refusal) → Early (number_of r) → number_of r ≡ 10 → ⊥
  not-spoiled r k z = ⊎_elim (λ e. omega arith) (λ k. ⊎_elim (λ e. omega arith) (λ e. omega arith) k) k

  stays-entered : (r : Refusal) → Early (number_of r) → (x : P.Part) → Tallies s.place (entered_by E rest (Part x) (O.Refused r))
  stays-entered r k x = subst (Tallies s.place) (no _ _ (ne _ 10 (not-spoiled r k)) refl) tp

  refused-any : (x : U.Unit) (t : Time) (used : ℕ) (next : Time) (r : Refusal) → Early (number_of r) → RightOf x t (refuse s used next r)
  refused-any End t used next r k = (not-spoiled r k, tp)
  refused-any (Skipped y) t used next r k = (not-spoiled r k, tp)
  refused-any (Refused w) t used next r k = (not-spoiled r k, tp)
  refused-any (Whole w) t used next r k = (not-spoiled r k, tp)
  refused-any (Part x) (Some time) used next r k = (λ z. absurd (not-spoiled r k z), stays-entered r k x)
  refused-any (Part x) None used next r k = (k, stays-entered r k x)
  refused-any (Description w) t used next r k = (not-spoiled r k, tp)

  abbrev NoPartAfter : After → Type 0
  NoPartAfter a = NoPart a.answer.outcome × Tallies a.own.place E

  whole-right : (time used : ℕ) (next : Time) (w : W.Whole) (d : List ℕ) → NoPartAfter (whole_taken s time used next w d)
  unfolding whole_taken
  whole-right time used next w d =
      each NoPartAfter _ _ _ (λ k. (λ z. omega arith, tp))
      (λ k. each NoPartAfter _ _ _ (λ k. (λ z. omega arith, tp))
      (λ k. each NoPartAfter _ _ _ (λ k. (λ z. omega arith, tp)) (λ k. (tt, tp))))

  noted-no-part : (store : List ℕ) (newest sidx : ℕ) (d : List ℕ) → NoPart (noted store newest sidx d).answer.outcome
  unfolding noted
  noted-no-part store newest sidx d =
      each I _ _ _ (λ k z. omega arith)
      (λ k. each I _ _ _ (λ k z. omega arith) (λ k. each I _ _ _ (λ k. tt) (λ k. each I _ _ _ (λ k z. omega arith) (λ k. tt))))
    where
      I : S.After → Type 0
      I a = NoPart a.answer.outcome

  taken-right : sample_most ≤ length s.out → (t : Time) (used : ℕ) (x : U.Unit) → ByReader x → Counted x
      → RightOf x t (taken h s desk t used rest x)
  unfolding description_taken
  taken-right room t used End k c = (tt, tp)
  taken-right room t used (Skipped y) k c = (tt, tp)
  taken-right room t used (Refused r) k c = (not-ten r k, tp)
  taken-right room t used (Whole w) k c =
      at-times (λ u. NoPartAfter) s used _ (λ time. whole-right time used _ w (data_of rest (Whole w))) (λ z. omega arith, tp) t
  taken-right room t used (Part x) k c =
      at-times (RightOf (Part x)) s used _ (λ time. part_right s time used _ E x (data_of rest (Part x)) h desk tp c room)
      (refused-any (Part x) None used None R.Untimed (inr (inr refl))) t
  taken-right room t used (Description w) k c = (noted-no-part s.store _ w.sidx (data_of rest (Description w)), tp)

  pub receive-right : (t : Time) → RightOf (read_of rest).unit t (in-turn false h s desk t rest)
  unfolding in-turn received
  receive-right t =
      let x = (read_of rest).unit in
      each (RightOf x t) _ _ _ (λ k. refused-any x t 0 t R.Desk (inl refl))
      (λ k. each (RightOf x t) _ _ _ (λ k. refused-any x t 0 t R.Output (inr (inl refl)))
      (λ k. taken-right (ge-of _ _ k) t (read_of rest).used x (read-by-reader rest) (reads-counted rest)))

  -- ---- give-up
  pub give-up-right : (time : ℕ) → let g = yielded false s time in Tallies g.own.place (given_up_by E g.answer)
  unfolding yielded given_up
  give-up-right time = each G _ _ _ (λ k. tp) (λ k. each G _ _ _ (λ u. closed-tallies) (λ u. tp))
    where
      G : Given → Type 0
      G g = Tallies g.own.place (given_up_by E g.answer)
