-- Peace: what a desk that keeps to two open samples gets is the same whatever all others do. Assumes nothing.
use Rattle.memory.specs.Started.{Ready}
use Rattle.std.specs.Prelude.{ℕ, ◌<◌, ◌≡◌, refl, Bool, true, false, List, [], ◌∷◌}
use Rattle.std.proofs.Common.{sym, ap₂, subst, ◌∙◌}
use Rattle.laws.specs.Rows.{◌⇒◌⁏◌, ◌=?◌}
use Rattle.memory.specs.Relay.{Tables, set_up}
use Rattle.good.specs.Good.{Good, set-up-good}
use Rattle.good.specs.View.{View, view}
use Rattle.good.specs.Fresh.{fresh_view, set-up-view}
use Rattle.peace.specs.Run.{Call, caller, run, to, only, Modest}
use Rattle.peace.specs.Alone.{alone, Frugal}
use Rattle.peace.proofs.Alone.{modest-frugal, frugal-modest, as-frugal}

-- Two runs, from good tables of which desk d sees the same. If its calls are the same in both, and it is modest in the one, it gets the
-- same in both, and it is modest in the other.
pub peace : (n d : ℕ) → d < n → (s r : Tables) → Good n s → Good n r → view n d s ≡ view n d r → (xs ys : List Call) → only d xs ≡ only d ys
    → Modest d s xs → (to d (run s xs) ≡ to d (run r ys)) × Modest d r ys
peace n d h s r gs gr v xs ys e m =
    let f = modest-frugal n d h xs s gs m in
    let k : Frugal (view n d r) (only d ys) = subst (Frugal (view n d r)) e (subst (λ (w : View). Frugal w (only d xs)) v f) in
    (as-frugal n d h xs s gs f ∙ ap₂ alone v e ∙ sym (as-frugal n d h ys r gr k), frugal-modest n d h ys r gr k)

-- The same from set-up for n desks, in whatever lent memory each run starts. Set-up answered `Ready`, so n is 1 to 8 and what is lent is
-- long enough; n stands in its head from then on, where the calls read it.
pub two_runs : (n d : ℕ) → d < n → (s r : Tables) → (set_up n s).answer ≡ Ready → (set_up n r).answer ≡ Ready
    → (xs ys : List Call) → only d xs ≡ only d ys → Modest d (set_up n s).tables xs
    → (to d (run (set_up n s).tables xs) ≡ to d (run (set_up n r).tables ys)) × Modest d (set_up n r).tables ys
two_runs n d h s r a b =
    peace n d h (set_up n s).tables (set_up n r).tables (set-up-good n s a) (set-up-good n r b)
    (set-up-view n d s a h ∙ sym (set-up-view n d r b h))

-- the calls of d among the calls of d are those
only-only : (d : ℕ) (xs : List Call) → only d (only d xs) ≡ only d xs
unfolding ◌⇒◌⁏◌
only-only d [] = refl
only-only d (c ∷ cs) = go (caller c =? d) refl (only-only d cs)
  where
    go : (b : Bool) → (caller c =? d) ≡ b → only d (only d cs) ≡ only d cs
        → only d (b ⇒ c ∷ only d cs ⁏ only d cs) ≡ (b ⇒ c ∷ only d cs ⁏ only d cs)
    go true e ih = rw (e, ih)
    go false e ih = ih

-- What a modest desk gets in a run is what it gets in the run of its own calls alone, on the same relay; and it is modest there too.
pub by_itself : (n d : ℕ) → d < n → (s : Tables) → (set_up n s).answer ≡ Ready → (xs : List Call) → Modest d (set_up n s).tables xs
    → (to d (run (set_up n s).tables xs) ≡ to d (run (set_up n s).tables (only d xs))) × Modest d (set_up n s).tables (only d xs)
by_itself n d h s a xs = two_runs n d h s s a a xs (only d xs) (sym (only-only d xs))

-- Among all others, from set-up: a desk that is frugal with fresh things gets what it gets alone with them, and is modest.
module _ (n d : ℕ) (h : d < n) (s : Tables) (e : (set_up n s).answer ≡ Ready) (xs ys : List Call) (q : only d xs ≡ ys)
    (f : Frugal fresh_view ys) where
  is-fresh : view n d (set_up n s).tables ≡ fresh_view
  is-fresh = set-up-view n d s e h

  frugal : Frugal (view n d (set_up n s).tables) (only d xs)
  frugal = subst (λ (w : View). Frugal w (only d xs)) (sym is-fresh) (subst (Frugal fresh_view) (sym q) f)

  pub as-fresh : to d (run (set_up n s).tables xs) ≡ alone fresh_view ys
  as-fresh = as-frugal n d h xs (set_up n s).tables (set-up-good n s e) frugal ∙ ap₂ alone is-fresh q

  pub fresh-modest : Modest d (set_up n s).tables xs
  fresh-modest = frugal-modest n d h xs (set_up n s).tables (set-up-good n s e) frugal
