-- 8 and 9, exactly: of all calls they are given to those that reach the test of the shares, 8 with six of the desk's samples open, 9 with
-- two to five open and the common use 2n; by the numbers that are stored, and in good tables by what a walk finds. Assumes nothing.
use Rattle.std.specs.Prelude.{ℕ, ◌<◌, ◌≡◌, Bool, ◌⊎◌, ◌≢◌, List, Some, None}
use Rattle.std.proofs.Common.{arith, subst, ◌∙◌, true≢false, inl, inr, ⊎_elim}
use Rattle.std.proofs.Math.Path.{refl, sym, ap}
use Rattle.std.proofs.Math.Bool.{true, false}
use Rattle.laws.specs.Exactly.{Exactly}
use Rattle.laws.specs.Rows.{◌⇒◌⁏◌, ◌<?◌, ◌=?◌, yes, no, lt, ge, eq, lt_of, ge-of, eq_of, ne_of, or-none, not_is}
use Rattle.paper.specs.Limits.{own_places, open_most, common}
use Rattle.paper.specs.Words.{number_of}
use Rattle.paper.specs.declared.Refusal.{Refusal}
use Rattle.paper.specs.declared.Refusal.TheVariants as R
use Rattle.paper.specs.declared.Outcome.{Outcome}
use Rattle.paper.specs.declared.Outcome.TheVariants as O
use Rattle.paper.specs.Time.{Time}
use Rattle.unit.specs.declared.Part as P
use Rattle.unit.specs.declared.Unit.{Unit}
use Rattle.unit.specs.declared.Unit.TheVariants.{End, Skipped, Refused, Whole, Part, Description}
use Rattle.unit.specs.Layout.{read_of, data_of}
use Rattle.sample.specs.declared.Place.{Place}
use Rattle.sample.specs.Place.{kept}
use Rattle.desk.specs.declared.Shares.{Shares}
use Rattle.desk.specs.Desk.{Own, After, refuse, six, used_up, completed, joining, taken, received}
use Rattle.desk.specs.Effects.{asks_part, asks}
use Rattle.memory.specs.Relay.{Tables, desks_of, places_of, own_of, shares_of, stored_shares, ordered, received_among, received_at, sender}
use Rattle.good.specs.Good.{Good, shares-are, below}
use Rattle.good.specs.Fair.{Passed}
use Rattle.good.specs.Served.{Serves, let_through}
use Rattle.peace.specs.Run.{receive, reaches}
use Rattle.peace.specs.Exactly.{Full, Spent}

-- there is no other way not to be let through
sorted : (h : Shares) → Full h ⊎ (Spent h ⊎ Passed h)
sorted h = go (h.opens <? open_most) refl (h.opens <? own_places) refl (h.common =? common h.desks) refl
  where
    go : (a : Bool) → (h.opens <? open_most) ≡ a → (b : Bool) → (h.opens <? own_places) ≡ b → (c : Bool) → (h.common =? common h.desks) ≡ c
        → Full h ⊎ (Spent h ⊎ Passed h)
    go false k b l c m = inl (ge-of _ _ k)
    go true k true l c m = inr (inr (record { below = lt_of _ _ k; share = inl (lt_of _ _ l) }))
    go true k false l true m = inr (inl (record { from = ge-of _ _ l; to = lt_of _ _ k; gone = eq_of _ _ m }))
    go true k false l false m = inr (inr (record { below = lt_of _ _ k; share = inr (ne_of _ _ m) }))

-- ---- a part that reaches the test
-- a row that would answer false was passed over
past : (b d : Bool) → (b ⇒ false ⁏ d) ≡ true → (b ≡ false) × (d ≡ true)
unfolding ◌⇒◌⁏◌
past true d e = absurd (true≢false (sym e))
past false d e = (refl, e)

module _ (h : Shares) (s : Own) (time used : ℕ) (next : Time) (q : Place) (x : P.Part) (d : List ℕ)
    (k : asks_part s time q x d ≡ true) where
  -- it is a new one, and all that is left of the order is 8, 9, 10
  asked : (s.place.used ≡ false)
      × ((six s.place h ⇒ refuse s used next R.Six ⁏ used_up s.place h ⇒ refuse s used next R.Common ⁏ completed s time used next (kept q x d))
      ≡ joining h s time used next q x d)
  unfolding joining asks_part
  asked =
      let a = past _ _ k in
      let b = past _ _ a.1 in
      let c = past _ _ b.1 in
      let e = past _ _ c.1 in
      (not_is s.place.used e.1, no _ _ a.0 (no _ _ b.0 (no _ _ c.0 (no _ _ e.0 refl))))

  part-eight : Full h → joining h s time used next q x d ≡ refuse s used next R.Six
  unfolding six
  part-eight f = sym (yes _ _ (sym (no _ false asked.0 (sym (lt _ _ f)))) refl ∙ asked.1)

  part-nine : Spent h → joining h s time used next q x d ≡ refuse s used next R.Common
  unfolding six used_up
  part-nine f =
      sym (no _ _ (sym (no _ false asked.0 (sym (ge _ _ (omega (arith, f.to))))))
      (yes _ _ (sym (no _ false asked.0 (no _ false (ge _ _ f.from) (sym (eq _ _ f.gone))))) refl)
      ∙ asked.1)

-- ---- a call, of any tables, by the numbers in their head; n is the first of them
module _ (s : Tables) (desk : ℕ) (t : Time) (rest out : List ℕ) where
  abbrev n : ℕ
  n = desks_of s.marks

  abbrev its : Own
  its = own_of n s desk t out

  abbrev pub shares : Shares
  shares = stored_shares n desk s.marks

  abbrev pub Asking : Type 0
  Asking = reaches s (receive desk t rest out) ≡ true

  abbrev pub outcome : Outcome
  outcome = (received_at s (sender desk t) rest out).answer.outcome

  -- what a part is refused by, where it reaches the test, the call is
  lifted : (r : Refusal) → Asking
      → ((time used : ℕ) (next : Time) (q : Place) (x : P.Part) (d : List ℕ) → asks_part its time q x d ≡ true
      → joining shares its time used next q x d ≡ refuse its used next r)
      → outcome ≡ O.Refused r
  unfolding received_among ordered received
  lifted r k part =
      let a = past _ _ k in
      let b = past _ _ a.1 in
      ap (λ (x : After). x.answer.outcome) (sym (no _ _ a.0 (no _ _ b.0 refl))) ∙ go (read_of rest).unit t b.1
    where
      go : (x : Unit) (u : Time) → asks its desk u rest x ≡ true
          → (taken shares its desk u (read_of rest).used rest x).answer.outcome ≡ O.Refused r
      go End u e = absurd (true≢false (sym e))
      go (Skipped y) u e = absurd (true≢false (sym e))
      go (Refused w) u e = absurd (true≢false (sym e))
      go (Whole w) u e = absurd (true≢false (sym e))
      go (Part x) (Some time) e = ap (λ (x : After). x.answer.outcome) (part time (read_of rest).used _ _ x (data_of rest (Part x)) e)
      go (Part x) None e = absurd (true≢false (sym e))
      go (Description w) u e = absurd (true≢false (sym e))

  neither : (Asking → Passed shares) → Serves outcome
  neither k = let_through s (sender desk t) rest out (λ a b c. k (sym (no _ _ a (no _ _ b (sym c)))))

  -- whoever is answered 8 or 9 reached the test and was not let through
  by-shares : (r : Refusal) → outcome ≡ O.Refused r → ((number_of r ≢ 8) × (number_of r ≢ 9) → ⊥) → Asking × (Full shares ⊎ Spent shares)
  by-shares r e k = go (reaches s (receive desk t rest out)) refl
    where
      go : (b : Bool) → reaches s (receive desk t rest out) ≡ b → Asking × (Full shares ⊎ Spent shares)
      go false l = absurd (k (neither (λ a. absurd (true≢false (sym a ∙ l))) r e))
      go true l = (l, ⊎_elim inl (λ w. ⊎_elim inr (λ p. absurd (k (neither (λ a. p) r e))) w) (sorted shares))

  is-eight : Asking → Full shares → outcome ≡ O.Refused R.Six
  is-eight k f = lifted R.Six k (λ time used next q x d a. part-eight shares _ time used next q x d a f)

  is-nine : Asking → Spent shares → outcome ≡ O.Refused R.Common
  is-nine k f = lifted R.Common k (λ time used next q x d a. part-nine shares _ time used next q x d a f)

  not-both : {A : Type 0} → outcome ≡ O.Refused R.Six → outcome ≡ O.Refused R.Common → A
  not-both e f =
      let q : O.Refused R.Six ≡ O.Refused R.Common = sym e ∙ f in
      let k : number_of R.Six ≡ number_of R.Common = cc in
      absurd (omega arith)

  pub eight : Exactly (outcome ≡ O.Refused R.Six) (Asking × Full shares)
  eight = (
    λ e. let w = by-shares R.Six e (λ k. k.0 refl) in (w.0, ⊎_elim (λ f. f) (λ f. not-both e (is-nine w.0 f)) w.1),
    λ w. is-eight w.0 w.1,
  )

  pub nine : Exactly (outcome ≡ O.Refused R.Common) (Asking × Spent shares)
  nine = (
    λ e. let w = by-shares R.Common e (λ k. k.1 refl) in (w.0, ⊎_elim (λ f. not-both (is-eight w.0 f) e) (λ f. f) w.1),
    λ w. is-nine w.0 w.1,
  )

-- ---- in good tables, by what a walk over the places finds
module _ (n : ℕ) (s : Tables) (g : Good n s) (desk : ℕ) (t : Time) (rest out : List ℕ) where
  -- a call that reaches the test is one of a desk below n
  by-walk : Asking s desk t rest out → shares s desk t rest out ≡ shares_of n desk (places_of n s)
  by-walk k =
      let h = below (desks_of s.marks) desk (or-none _ _ (past _ _ k).0).0 in
      ap (λ (m : ℕ). stored_shares m desk s.marks) g.head ∙ shares-are n desk s g (subst (λ (m : ℕ). desk < m) g.head h)

  walked : (A : Type 0) (P : Shares → Type 0) → Exactly A (Asking s desk t rest out × P (shares s desk t rest out))
      → Exactly A (Asking s desk t rest out × P (shares_of n desk (places_of n s)))
  walked A P e = (
    λ a. let w = e.0 a in (w.0, subst P (by-walk w.0) w.1),
    λ w. e.1 (w.0, subst P (sym (by-walk w.0)) w.1),
  )

  pub eight-walked : Exactly (outcome s desk t rest out ≡ O.Refused R.Six)
      (Asking s desk t rest out × Full (shares_of n desk (places_of n s)))
  eight-walked = walked _ Full (eight s desk t rest out)

  pub nine-walked : Exactly (outcome s desk t rest out ≡ O.Refused R.Common)
      (Asking s desk t rest out × Spent (shares_of n desk (places_of n s)))
  nine-walked = walked _ Spent (nine s desk t rest out)
