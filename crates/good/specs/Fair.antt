-- Shares of the places: what holds of the 4n places after every call, and the pigeonhole: a desk that the shares let through finds a
-- free place. Assumes nothing.
use Rattle.std.specs.Prelude.{ℕ, suc, ◌+◌, ◌-◌, ◌≤◌, ◌<◌, ◌≡◌, refl, Bool, true, false, ◌⊎◌, ◌≢◌, List, [], ◌∷◌, length, replicate, Some, None}
use Rattle.std.proofs.Common.{zero-le, arith, ap, inl, inr, ⊎_elim}
use Rattle.std.proofs.Math.Decide.{dec_lt, ℕ_discrete}
use Rattle.laws.specs.Rows.{◌⇒◌⁏◌, and_is, eq}
use Rattle.laws.specs.Table.{bit, seek, count, seek-not, count_none}
use Rattle.laws.specs.Sums.{sum, sum_more, sum-add, sum-gap, sum-ge, sum-zero, sum-changed}
use Rattle.paper.specs.Limits.{own_places, open_most, places, common}
use Rattle.paper.specs.Time.{Time}
use Rattle.sample.specs.declared.Place.{Place}
use Rattle.sample.specs.Place.{bare, closed}
use Rattle.memory.specs.Table.{vacant, mine, is_time, is_at}
use Rattle.desk.specs.declared.Shares.{Shares}
use Rattle.memory.specs.Relay.{open_at, common_use, shares_of}
use Rattle.memory.proofs.Back.{open_unknown}
use Rattle.good.specs.Places.{time-of, closed-free, open_none, Moved}

-- a sample is open once at most; a desk has six open at most, and only desks below n have any; the common use is at most the common places
pub record Fair (n : ℕ) (l : List Place) : Type 0 where
  pub once : (d time : ℕ) → count (is_at d (Some time)) l ≤ 1
  pub six : (d : ℕ) → count (mine d) l ≤ open_most
  pub whose : (d : ℕ) → n ≤ d → count (mine d) l ≡ 0
  pub shared : common_use n l ≤ common n

-- at whatever time, known or not
pub once-at : (n : ℕ) (l : List Place) → Fair n l → (d : ℕ) (t : Time) → count (is_at d t) l ≤ 1
once-at n l f d (Some time) = f.once d time
once-at n l f d None = omega (arith, open_none d None l (closed-free (open_at d None l) (open_unknown d l)))

-- the shares let a desk through: fewer than six are open, and fewer than two or the common use is not all of the common places
pub record Passed (h : Shares) : Type 0 where
  pub below : h.opens < open_most
  pub share : (h.opens < own_places) ⊎ (h.common ≢ common h.desks)

-- ---- the pigeonhole
open-sum : (n : ℕ) (y : Place) → ((d : ℕ) → n ≤ d → bit (mine d y) ≡ 0) → bit y.used ≤ sum n (λ (e : ℕ). bit (mine e y))
open-sum n y h = go y.used refl (dec_lt y.desk n)
  where
    go : (b : Bool) → y.used ≡ b → Dec (y.desk < n) → bit b ≤ sum n (λ (e : ℕ). bit (mine e y))
    go false e k = zero-le
    go true e k =
        let one = ap bit (and_is y.used _ e (eq y.desk y.desk refl)) in
        elim k [
          | yes k ↦ omega (arith, sum-ge n y.desk (λ (e : ℕ). bit (mine e y)) k)
          | no k ↦ absurd (omega (arith, h y.desk (omega arith)))
        ]

-- each open place is that of a desk below n
all-open : (n : ℕ) (l : List Place) → ((d : ℕ) → n ≤ d → count (mine d) l ≡ 0) → count (λ (y : Place). y.used) l ≤ sum n (λ (e : ℕ). count (mine e) l)
all-open n [] h = zero-le
all-open n (y ∷ ys) h =
    omega (
      arith,
      sum-add n (λ (e : ℕ). bit (mine e y)) (λ (e : ℕ). count (mine e) ys),
      open-sum n y (λ d k. omega (arith, h d k)),
      all-open n ys (λ d k. omega (arith, h d k)),
    )

pub room : (n d : ℕ) (l : List Place) → Fair n l → Passed (shares_of n d l) → length l ≡ places n → d < n → seek vacant l < length l
room n d l f p size h =
    let a = all-open n l f.whose in
    let g = sum-gap n d (λ (e : ℕ). count (mine e) l) (λ (e : ℕ). own_places + (count (mine e) l - own_places)) h (λ e k. omega arith) in
    let t = sum_more n own_places (λ (e : ℕ). count (mine e) l - own_places) in
    seek-not (λ (y : Place). y.used) l (⊎_elim (λ k. omega arith) (λ k. omega (arith, f.shared)) p.share)

-- ---- of closed places none is anybody's, and they are fair
pub none-mine : (d k : ℕ) → count (mine d) (replicate k closed) ≡ 0
unfolding bare ◌⇒◌⁏◌
none-mine d k = count_none (mine d) k closed refl

pub none-common : (n k : ℕ) → common_use n (replicate k closed) ≡ 0
none-common n k = sum-zero n (λ (e : ℕ). count (mine e) (replicate k closed) - own_places) (λ e. omega (arith, none-mine e k))

pub fair-closed : (n k : ℕ) → Fair n (replicate k closed)
unfolding bare ◌⇒◌⁏◌
fair-closed n k = record {
  once = λ d time. omega (arith, count_none (is_at d (Some time)) k closed refl);
  six = λ d. omega (arith, none-mine d k);
  whose = λ d h. none-mine d k;
  shared = omega (arith, none-common n k);
}

-- ---- a desk below n leaves its sample of a time: the common use changes by what the desk has open beyond two
pub common-moved : (n d : ℕ) (t : Time) (p : Place) (l k : List Place) → d < n → Moved d t p l k
    → common_use n k + (count (mine d) l - own_places) ≡ common_use n l + (count (mine d) k - own_places)
common-moved n d t p l k h m =
    sum-changed n d (λ (e : ℕ). count (mine e) k - own_places) (λ (e : ℕ). count (mine e) l - own_places) h
    (λ e q. omega (arith, m.other-mine e q))

-- and fairness is kept, if a new one is let through
module _ (n d : ℕ) (t : Time) (p : Place) (l k : List Place) (f : Fair n l) (h : d < n) (m : Moved d t p l k)
    (passed : p.used ≡ true → (open_at d t l).used ≡ false → Passed (shares_of n d l)) where
  -- no more of the desk's samples are open than before; or one more, and the shares let it through
  abbrev Grows : Type 0
  Grows =
      ((count (is_at d t) k ≤ count (is_at d t) l) × (count (mine d) k ≤ count (mine d) l))
      ⊎ ((count (is_at d t) k ≤ 1) × ((count (mine d) k ≡ suc (count (mine d) l)) × Passed (shares_of n d l)))

  grows : Grows
  grows = go p.used refl (open_at d t l).used refl
    where
      go : (b : Bool) → p.used ≡ b → (c : Bool) → (open_at d t l).used ≡ c → Grows
      go true u true o = inl (omega (arith, m.own-is_at, m.own-mine, ap bit u, ap bit o))
      go true u false o =
          inr (omega (arith, m.own-is_at, ap bit u, ap bit o, open_none d t l o), (omega (arith, m.own-mine, ap bit u, ap bit o), passed u o))
      go false u c o = inl (omega (arith, m.own-is_at, m.own-mine, ap bit u))

  pub fair-moved : Fair n k
  fair-moved = record {
    once = λ e u. once e u (ℕ_discrete e d) (is_time t u) refl;
    six = λ e. six e (ℕ_discrete e d);
    whose = λ e q. omega (arith, f.whose e q, m.other-mine e (λ c. omega arith));
    shared =
        let b = f.shared in
        let c = common-moved n d t p l k h m in
        ⊎_elim (λ w. omega arith) (λ w. ⊎_elim (λ q. omega arith) (λ q. omega arith) w.1.1.share) grows;
  }
    where
      once : (e u : ℕ) → Dec (e ≡ d) → (b : Bool) → is_time t u ≡ b → count (is_at e (Some u)) k ≤ 1
      once e u (yes q) true r =
          rw (q, ← (time-of t u r)) (⊎_elim (λ w. omega (arith, once-at n l f d t)) (λ w. w.0) grows)
      once e u (yes q) false r = omega (arith, f.once e u, m.other-is_at e u (λ a. r))
      once e u (no q) b r = omega (arith, f.once e u, m.other-is_at e u (λ a. absurd (q a)))

      six : (e : ℕ) → Dec (e ≡ d) → count (mine e) k ≤ open_most
      six e (yes q) = rw q (⊎_elim (λ w. omega (arith, f.six d)) (λ w. omega (arith, w.1.1.below)) grows)
      six e (no q) = omega (arith, f.six e, m.other-mine e q)
