-- The desk alone: what it gets is settled by its own view and its own calls. In good tables a modest desk gets, among all others, what it
-- gets alone. Assumes nothing.
use Rattle.std.specs.Prelude.{ℕ, ◌<◌, ◌≡◌, Bool}
use Rattle.std.proofs.Math.Path.{refl, ap, ap₂, subst}
use Rattle.std.proofs.Common.{sym, ◌∙◌}
use Rattle.std.proofs.Math.Bool.{true, false}
use mathlib.Core.List.{List, [], ◌∷◌}
use Rattle.laws.specs.Rows.{◌⇒◌⁏◌, ◌or◌, ◌=?◌, no, below, eq_of, ne_of}
use Rattle.laws.specs.Table.{count}
use Rattle.paper.specs.Time.{Time}
use Rattle.desk.specs.declared.Shares.{Shares}
use Rattle.desk.specs.Desk.{Own, After}
use Rattle.desk.proofs.Effects.{unheard}
use Rattle.memory.specs.Table.{mine}
use Rattle.memory.specs.Relay.{Tables, places_of, own_of, shares_of, stranger, lacking, ordered, Done, Released, sender}
use Rattle.good.specs.Good.{name, Good, no-stranger, no-lack, receive-good, give-up-good}
use Rattle.good.specs.View.{View, view, own_in, own-seen, seen_after, receives, receive-others, give-up-others}
use Rattle.good.specs.View.{receive-is, receive-own, give-up-is, give-up-own, lookup-is}
use Rattle.peace.specs.Run.{Call, receive, give-up, lookup, caller, Got, answered, released, shown, got, next, run, to, only}
use Rattle.peace.specs.Run.{arrives, reaches, Few, Modest}
use Rattle.peace.specs.Alone.{lone, own_got, own_view, own_reaches, Sparing, alone, Frugal}

-- ---- what one call does, of whatever desk it is
pub next-good : (n : ℕ) (s : Tables) → Good n s → (c : Call) → Good n (next s c)
next-good n s g (receive desk t rest out) = receive-good n s g (sender desk t) _ out
next-good n s g (give-up desk time) = give-up-good n s g (name _ time)
next-good n s g (lookup desk index book) = g

pub next-other : (n : ℕ) (s : Tables) → Good n s → (c : Call) (d : ℕ) → (caller c ≡ d → ⊥) → view n d (next s c) ≡ view n d s
next-other n s g (receive desk t rest out) d q = receive-others n s g (sender desk t) _ out d (λ e. q (sym e))
next-other n s g (give-up desk time) d q = give-up-others n s g (name desk time) d (λ e. q (sym e))
next-other n s g (lookup desk index book) d q = refl

-- what the shares say of the others is not heard
unheard-alone : (h : Shares) (v : View) (desk : ℕ) (t : Time) (rest out : List ℕ) → h.opens ≡ v.opens
    → Sparing v (receive desk t rest out) → receives h v desk t rest out ≡ receives (lone v) v desk t rest out
unfolding ordered
unheard-alone h v desk t rest out e k =
    below _ _ _ _
    (λ a. below _ _ _ _ (λ b. unheard h (lone v) (own_in v t out) desk t rest e (λ c. subst Few (sym e) (k (sym (no _ _ b (sym c)))))))

module _ (n : ℕ) (s : Tables) (g : Good n s) where
  pub reaches-own : (c : Call) → caller c < n → reaches s c ≡ own_reaches (view n (caller c) s) c
  reaches-own (receive desk t rest out) h =
      ap (λ (k : ℕ). stranger k desk or lacking k s ⇒ false ⁏ arrives (own_of k s desk t out) desk t rest) g.head
      ∙ sym (no _ false (sym (no _ true (no-stranger n desk s g h) (sym (no-lack n s g)))) refl)
      ∙ ap (λ (o : Own). arrives o desk t rest) (own-seen n desk s t out)
  reaches-own (give-up desk time) h = refl
  reaches-own (lookup desk index book) h = refl

  next-own : (c : Call) → caller c < n → Sparing (view n (caller c) s) c → view n (caller c) (next s c) ≡ own_view (view n (caller c) s) c
  next-own (receive desk t rest out) h k =
      receive-own n s g desk h t rest out
      ∙ ap (λ (a : After). seen_after (view n desk s) t a.own)
      (unheard-alone (shares_of n desk (places_of n s)) (view n desk s) desk t rest out refl k)
  next-own (give-up desk time) h k = give-up-own n s g desk h time
  next-own (lookup desk index book) h k = refl

  got-own : (c : Call) → caller c < n → Sparing (view n (caller c) s) c → got s c ≡ own_got (view n (caller c) s) c
  got-own (receive desk t rest out) h k =
      ap (λ (r : Done). answered r.answer r.out) (receive-is n s g desk h t rest out)
      ∙ ap (λ (a : After). answered a.answer a.own.out)
      (unheard-alone (shares_of n desk (places_of n s)) (view n desk s) desk t rest out refl k)
  got-own (give-up desk time) h k = ap (λ (r : Released). released r.answer) (give-up-is n s g desk h time)
  got-own (lookup desk index book) h k = ap shown (lookup-is n s g desk h index book)

-- ---- a run
module _ (n d : ℕ) (h : d < n) where
  -- a call of desk d
  module _ (s : Tables) (g : Good n s) (c : Call) (e : (caller c =? d) ≡ true) where
    its : caller c ≡ d
    its = eq_of _ _ e

    reaches-its : reaches s c ≡ own_reaches (view n d s) c
    reaches-its =
        subst (λ (x : ℕ). reaches s c ≡ own_reaches (view n x s) c) its (reaches-own n s g c (subst (λ (x : ℕ). x < n) (sym its) h))

    module _ (k : Sparing (view n d s) c) where
      view-its : view n d (next s c) ≡ own_view (view n d s) c
      view-its =
          subst (λ (x : ℕ). Sparing (view n x s) c → x < n → view n x (next s c) ≡ own_view (view n x s) c) its
          (λ k h. next-own n s g c h k) k h

      got-its : got s c ≡ own_got (view n d s) c
      got-its = subst (λ (x : ℕ). Sparing (view n x s) c → x < n → got s c ≡ own_got (view n x s) c) its (λ k h. got-own n s g c h k) k h

  -- among k desks, few of desk d's samples are open
  abbrev opens-few : Tables → (k : ℕ) → Type 0
  opens-few s k = Few (count (mine d) (places_of k s))

  -- modest among the others is frugal alone, and back
  pub modest-frugal : (xs : List Call) (s : Tables) → Good n s → Modest d s xs → Frugal (view n d s) (only d xs)
  unfolding ◌⇒◌⁏◌
  modest-frugal [] s g m = tt
  modest-frugal (c ∷ cs) s g m = go (caller c =? d) refl (modest-frugal cs (next s c) (next-good n s g c) m.1)
    where
      go : (b : Bool) → (caller c =? d) ≡ b → Frugal (view n d (next s c)) (only d cs) → Frugal (view n d s) (b ⇒ c ∷ only d cs ⁏ only d cs)
      go true e ih =
          let k : Sparing (view n d s) c = (λ q. subst (opens-few s) g.head (m.0 (its s g c e) (reaches-its s g c e ∙ q))) in
          (k, subst (λ (v : View). Frugal v (only d cs)) (view-its s g c e k) ih)
      go false e ih = subst (λ (v : View). Frugal v (only d cs)) (next-other n s g c d (ne_of _ _ e)) ih

  pub frugal-modest : (xs : List Call) (s : Tables) → Good n s → Frugal (view n d s) (only d xs) → Modest d s xs
  unfolding ◌⇒◌⁏◌
  frugal-modest [] s g f = tt
  frugal-modest (c ∷ cs) s g f = go (caller c =? d) refl f (frugal-modest cs (next s c) (next-good n s g c))
    where
      go : (b : Bool) → (caller c =? d) ≡ b → Frugal (view n d s) (b ⇒ c ∷ only d cs ⁏ only d cs)
          → (Frugal (view n d (next s c)) (only d cs) → Modest d (next s c) cs) → Modest d s (c ∷ cs)
      go true e f ih =
          let k : Frugal (view n d (next s c)) (only d cs) =
          subst (λ (v : View). Frugal v (only d cs)) (sym (view-its s g c e f.0)) f.1 in
          (λ p q. subst (opens-few s) (sym g.head) (f.0 (sym (reaches-its s g c e) ∙ q)), ih k)
      go false e f ih =
          (λ p. absurd (ne_of _ _ e p), ih (subst (λ (v : View). Frugal v (only d cs)) (sym (next-other n s g c d (ne_of _ _ e))) f))

  -- what the run collects for a frugal desk is what it gets alone
  pub as-frugal : (xs : List Call) (s : Tables) → Good n s → Frugal (view n d s) (only d xs)
      → to d (run s xs) ≡ alone (view n d s) (only d xs)
  unfolding ◌⇒◌⁏◌
  as-frugal [] s g f = refl
  as-frugal (c ∷ cs) s g f = go (caller c =? d) refl f (as-frugal cs (next s c) (next-good n s g c))
    where
      go : (b : Bool) → (caller c =? d) ≡ b → Frugal (view n d s) (b ⇒ c ∷ only d cs ⁏ only d cs)
          → (Frugal (view n d (next s c)) (only d cs) → to d (run (next s c) cs) ≡ alone (view n d (next s c)) (only d cs))
          → (b ⇒ got s c ∷ to d (run (next s c) cs) ⁏ to d (run (next s c) cs)) ≡ alone (view n d s) (b ⇒ c ∷ only d cs ⁏ only d cs)
      go true e f ih =
          let v = view-its s g c e f.0 in
          ap₂ (λ (x : Got) (l : List Got). x ∷ l) (got-its s g c e f.0)
          (ih (subst (λ (w : View). Frugal w (only d cs)) (sym v) f.1) ∙ ap (λ (w : View). alone w (only d cs)) v)
      go false e f ih =
          let v = next-other n s g c d (ne_of _ _ e) in
          ih (subst (λ (w : View). Frugal w (only d cs)) (sym v) f) ∙ ap (λ (w : View). alone w (only d cs)) v

  pub as-alone : (xs : List Call) (s : Tables) → Good n s → Modest d s xs → to d (run s xs) ≡ alone (view n d s) (only d xs)
  as-alone xs s g m = as-frugal xs s g (modest-frugal xs s g m)
