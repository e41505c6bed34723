-- Joining, for every sender: in every run from set-up, of every desk, whatever it and all others send, each part that is kept is told
-- TOTAL less the different parts kept, and each sample that is joined is its parts in THIS order, and fits the output. Assumes nothing.
use Rattle.memory.specs.Started.{Ready}
use Rattle.std.specs.Prelude.{ℕ, ◌<◌, ◌≡◌, Bool, Some, None}
use Rattle.std.proofs.Math.Path.{refl}
use Rattle.std.proofs.Common.{sym, ap, subst}
use Rattle.std.proofs.Math.Bool.{true, false}
use mathlib.Core.List.{List, [], ◌∷◌}
use Rattle.laws.specs.Rows.{◌⇒◌⁏◌, ◌=?◌, eq_of, ne_of}
use Rattle.paper.specs.Time.{Time}
use Rattle.unit.specs.Layout.{read_of}
use Rattle.sample.specs.declared.Place.{Place}
use Rattle.memory.specs.Table.{is_time}
use Rattle.memory.specs.Relay.{Tables, places_of, shares_of, set_up, Done, Released}
use Rattle.good.specs.Places.{time-of}
use Rattle.good.specs.Good.{Good, set-up-good}
use Rattle.good.specs.View.{View, view, seen_at, own_in, seen_after, receives, gives_up, receive-is, receive-own, give-up-is, give-up-own}
use Rattle.good.specs.Fresh.{set-up-view}
use Rattle.peace.specs.Run.{Call, receive, give-up, lookup, caller, Got, answered, released, got, next, run, to, only}
use Rattle.peace.proofs.Alone.{next-good, next-other}
use Rattle.joined.specs.Ledger.{Parts, Ledger, page_at, entered_by, given_up_by, ledger_after, SaysCall, AllSay, blank_ledger}
use Rattle.joined.specs.Tallies.{Tallies}
use Rattle.joined.proofs.Tallies.{closed-tallies}
use Rattle.joined.proofs.Right.{receive-right, give-up-right}
use Rattle.joined.specs.Joined.{Tally}

-- so do those of a call
tally-at : (v : View) (L : Ledger) → Tally v L → (at : Time) → Tallies (seen_at v at) (page_at L at)
tally-at v L y (Some time) = y time
tally-at v L y None = closed-tallies

-- the place of a time is left as p, and its page E as F E
turned-page : (v : View) (L : Ledger) → Tally v L → (at : Time) (p : Place) (F : Parts → Parts) → Tallies p (F (page_at L at))
    → (t : ℕ) → Tallies (is_time at t ⇒ p ⁏ v.at t) (is_time at t ⇒ F (L t) ⁏ L t)
unfolding ◌⇒◌⁏◌
turned-page v L y at p F h t = go (is_time at t) refl
  where
    go : (b : Bool) → is_time at t ≡ b → Tallies (b ⇒ p ⁏ v.at t) (b ⇒ F (L t) ⁏ L t)
    go true e = subst (λ (u : Time). Tallies p (F (page_at L u))) (time-of at t e) h
    go false e = y t

module _ (n : ℕ) (s : Tables) (g : Good n s) where
  -- one call of a desk below n: what it got is what the ledger says, and the desk's places tally with it after the call
  own-call : (c : Call) → caller c < n → (L : Ledger) → Tally (view n (caller c) s) L
      → SaysCall L c (got s c) × Tally (view n (caller c) (next s c)) (ledger_after L c (got s c))
  own-call (receive desk at rest out) h L y =
      let v = view n desk s in
      let a = receives (shares_of n desk (places_of n s)) v desk at rest out in
      let r = receive-right (shares_of n desk (places_of n s)) (own_in v at out) desk rest (page_at L at) (tally-at v L y at) at in
      let c = receive desk at rest out in
      let q : answered a.answer a.own.out ≡ got s c =
      sym (ap (λ (x : Done). answered x.answer x.out) (receive-is n s g desk h at rest out)) in (
        subst (SaysCall L c) q r.0,
        subst (λ (w : View). Tally w (ledger_after L c (got s c))) (sym (receive-own n s g desk h at rest out))
            (subst (λ (x : Got). Tally (seen_after v at a.own) (ledger_after L c x)) q
            (turned-page v L y at a.own.place (λ E. entered_by E rest (read_of rest).unit a.answer.outcome) r.1)),
      )
  own-call (give-up desk at) h L y =
      let v = view n desk s in
      let a = gives_up v at in
      let r = give-up-right (shares_of n desk (places_of n s)) (own_in v (Some at) []) desk [] (L at) (y at) at in
      let c = give-up desk at in
      let q : released a.answer ≡ got s c =
      sym (ap (λ (x : Released). released x.answer) (give-up-is n s g desk h at)) in (
        tt,
        subst (λ (w : View). Tally w (ledger_after L c (got s c))) (sym (give-up-own n s g desk h at))
            (subst (λ (x : Got). Tally (seen_after v (Some at) a.own) (ledger_after L c x)) q
            (turned-page v L y (Some at) a.own.place (λ E. given_up_by E a.answer) r)),
      )
  own-call (lookup desk index book) h L y = (tt, y)

module _ (n d : ℕ) (h : d < n) where
  all_say : (xs : List Call) (s : Tables) → Good n s → (L : Ledger) → Tally (view n d s) L → AllSay L (only d xs) (to d (run s xs))
  unfolding ◌⇒◌⁏◌
  all_say [] s g L y = tt
  all_say (c ∷ cs) s g L y = go (caller c =? d) refl (all_say cs (next s c) (next-good n s g c))
    where
      go : (b : Bool) → (caller c =? d) ≡ b
          → ((M : Ledger) → Tally (view n d (next s c)) M → AllSay M (only d cs) (to d (run (next s c) cs)))
          → AllSay L (b ⇒ c ∷ only d cs ⁏ only d cs) (b ⇒ got s c ∷ to d (run (next s c) cs) ⁏ to d (run (next s c) cs))
      go true e ih =
          let i : caller c ≡ d = eq_of _ _ e in
          let o = own-call n s g c (subst (λ (k : ℕ). k < n) (sym i) h) L (subst (λ (k : ℕ). Tally (view n k s) L) (sym i) y) in
          (o.0, ih (ledger_after L c (got s c)) (subst (λ (k : ℕ). Tally (view n k (next s c)) (ledger_after L c (got s c))) i o.1))
      go false e ih = ih L (subst (λ (w : View). Tally w L) (sym (next-other n s g c d (ne_of _ _ e))) y)

-- In every run from set-up, and for every desk below n.
pub every-sender : (n d : ℕ) → d < n → (s : Tables) → (set_up n s).answer ≡ Ready → (xs : List Call)
    → AllSay blank_ledger (only d xs) (to d (run (set_up n s).tables xs))
every-sender n d h s e xs =
    all_say n d h xs (set_up n s).tables (set-up-good n s e) blank_ledger
    (subst (λ (v : View). Tally v blank_ledger) (sym (set-up-view n d s e h)) (λ t. closed-tallies))
