-- What a call finds in the table of places, and where what it keeps goes: the definitions' place. Assumes nothing.
use Rattle.std.specs.Prelude.{ℕ, ◌≤◌, ◌<◌, min, ◌≡◌, Bool, Option, get_or, take, Some, None}
use Rattle.std.proofs.Common.{arith, ◌∙◌, true≢false, take-append-drop, get_or-set_same, get_or-take, length-take-le}
use Rattle.std.proofs.Math.Path.{refl, sym, ap}
use Rattle.std.proofs.Math.Bool.{true, false}
use mathlib.Core.List.{List, ◌++◌}
use Rattle.std.proofs.Math.ListN.{length, set, drop, get_or-eq_default}
use Rattle.std.proofs.Math.Seq.{set_out, set-get_or}
use Rattle.std.proofs.lemmas.List.{set-append_left}
use Rattle.laws.specs.Rows.{◌⇒◌⁏◌, ◌and◌, ◌<?◌, each, yes, no, lt, ge, lt_of, ge-of, and-of, not_is}
use Rattle.laws.specs.Table.{seek, seek_hit}
use Rattle.paper.specs.Limits.{desks_most, places}
use Rattle.paper.specs.Time.{Time}
use Rattle.sample.specs.declared.Place.{Place}
use Rattle.sample.specs.Place.{bare, closed}
use Rattle.asks.specs.Settled.{open_in, laid}
use Rattle.table.specs.Table.{holds}
use Rattle.memory.specs.Table.{vacant, is_at}
use Rattle.memory.specs.Relay.{stands_at, placed, was_open, is_open}
use Rattle.memory.proofs.Counted.{is_open_lem, is_none}
use Rattle.looks.specs.Looks.{reach_of, reach_at, spot_of, spot_in}
use Rattle.steps.specs.Kept.{before_at, kept_places, open_none}

-- ---- the table
pub reach-all : (n len : ℕ) → n ≤ desks_most → places n ≤ len → reach_of n len ≡ places n
unfolding reach_of
reach-all n len h k = let q : min (places n) len ≡ places n = omega arith in sym (no _ _ (ge _ _ h) (sym q))

pub reach-most : (n : ℕ) (t : Time) (len : ℕ) → reach_at n t len ≤ len
unfolding reach_of
reach-most n (Some time) len = each (λ (m : ℕ). m ≤ len) _ _ _ (λ e. omega arith) (λ e. omega arith)
reach-most n None len = omega arith

-- where there are m places, a store among them leaves what lies beyond
pub set_front : (m i : ℕ) (p : Place) (l : List Place) → m ≤ length l → i < m → set l i p ≡ set (take m l) i p ++ drop m l
set_front m i p l k h =
    ap (λ (x : List Place). set x i p) (sym (take-append-drop m l))
    ∙ set-append_left (take m l) (drop m l) i p (omega (arith, length-take-le m l k))

set-none : (m i : ℕ) (p : Place) (l : List Place) → m ≤ length l → m ≤ i → l ≡ set (take m l) i p ++ drop m l
set-none m i p l k h =
    sym (ap (λ (x : List Place). x ++ drop m l) (set_out (take m l) i p (omega (arith, length-take-le m l k))) ∙ take-append-drop m l)

module _ (desk : ℕ) (t : Time) (m : ℕ) (l : List Place) (fits : m ≤ length l) where
  abbrev pub at : ℕ
  at = seek (is_at desk t) (take m l)

  abbrev low : ℕ
  low = seek vacant (take m l)

  long : length (take m l) ≡ m
  long = length-take-le m l fits

  -- the sample that was found, or none
  abbrev pub found : Place
  found = get_or (take m l) at closed

  pub found-used : found.used ≡ (at <? m)
  unfolding bare
  found-used = go (at <? m) refl
    where
      go : (b : Bool) → (at <? m) ≡ b → found.used ≡ b
      go true e = (and-of _ _ (seek_hit (is_at desk t) (take m l) closed (omega (arith, lt_of _ _ e, long)))).0
      go false e = ap (λ (y : Place). y.used) (get_or-eq_default (take m l) closed (omega (arith, ge-of _ _ e, long)))

  pub found-holds : found.used ≡ holds (is_at desk t) (take m l)
  found-holds = found-used ∙ ap (λ (k : ℕ). at <? k) (sym long)

  -- where it stands
  pub stands-found : at < m → (p : Place) → stands_at desk t p (take m l) ≡ at
  unfolding stands_at
  stands-found h p = sym (yes _ _ (lt _ _ (omega (arith, long))) refl)

  stands-new : m ≤ at → (p : Place) → stands_at desk t p (take m l) ≡ (p.used ⇒ low ⁏ m)
  unfolding stands_at
  stands-new h p = sym (no _ _ (ge _ _ (omega (arith, long))) (ap (λ (k : ℕ). p.used ⇒ low ⁏ k) (sym long)))

  -- p, laid where the part was kept, is where the definition puts it, and that place was and is open as it says
  abbrev spot : (total : ℕ) → ℕ
  spot total = spot_of at low m (length l) total

  pub record Goes (i : ℕ) (p : Place) : Type 0 where
    pub goes : kept_places i l p ≡ placed desk t p (take m l) ++ drop m l
    pub was : (before_at i l).used ≡ was_open desk t (take m l)
    pub is : (before_at i (kept_places i l p)).used ≡ is_open desk t p (take m l)

  pub before-found : at < m → before_at at l ≡ found
  before-found h = sym (get_or-take m l at closed h)

  goes-found : at < m → (p : Place) → Goes at p
  unfolding laid
  goes-found h p =
      let u : (before_at at l).used ≡ true = ap (λ (y : Place). y.used) (before-found h) ∙ found-used ∙ lt _ _ h in
      let q : p ≡ laid (before_at at l) p = yes _ _ u refl in
      let i = stands-found h p in
      record {
        goes = ap (set l at) (sym q) ∙ set_front m at p l fits h ∙ ap (λ (i : ℕ). set (take m l) i p ++ drop m l) (sym i);
        was = ap (λ (y : Place). y.used) (before-found h);
        is =
            ap (λ (y : Place). y.used) (get_or-set_same l at _ closed (omega arith) ∙ sym q)
            ∙ sym (is_open_lem desk t (take m l) p (omega (arith, i, long)));
      }

  before-low : low < m → (before_at low l).used ≡ false
  before-low h =
      let e = seek_hit vacant (take m l) closed (omega (arith, long)) in
      ap (λ (y : Place). y.used) (sym (get_or-take m l low closed h)) ∙ not_is _ e

  was-none : m ≤ at → was_open desk t (take m l) ≡ false
  was-none h = found-used ∙ ge _ _ h

  goes-new : m ≤ at → low < m → (p : Place) → Goes low p
  unfolding laid bare ◌⇒◌⁏◌
  goes-new h k p = record {
    goes =
        ap (λ (b : Bool). set l low (b ⇒ p ⁏ p.used ⇒ p ⁏ before_at low l)) (before-low k)
        ∙ put p.used ∙ ap (λ (i : ℕ). set (take m l) i p ++ drop m l) (sym (stands-new h p));
    was = before-low k ∙ sym (was-none h);
    is =
        ap (λ (y : Place). y.used) (get_or-set_same l low _ closed (omega arith))
        ∙ ap (λ (b : Bool). (b ⇒ p ⁏ p.used ⇒ p ⁏ before_at low l).used) (before-low k) ∙ open-in p.used (stands-new h p);
  }
    where
      put : (b : Bool) → set l low (b ⇒ p ⁏ before_at low l) ≡ set (take m l) (b ⇒ low ⁏ m) p ++ drop m l
      put true = set_front m low p l fits k
      put false = set-get_or l low closed ∙ set-none m m p l fits (omega arith)

      open-in : (b : Bool) → stands_at desk t p (take m l) ≡ (b ⇒ low ⁏ m)
          → (b ⇒ p ⁏ before_at low l).used ≡ is_open desk t p (take m l)
      open-in true q = sym (is_open_lem desk t (take m l) p (omega (arith, q, long)))
      open-in false q = before-low k ∙ sym (is_none desk t (take m l) p (omega (arith, q, long)))

  -- where it is kept in none, it is not to be kept, or there is none
  goes_none : m ≤ at → (p : Place) → (p.used ≡ true → m ≤ low) → Goes (length l) p
  unfolding bare ◌⇒◌⁏◌
  goes_none h p k = record {
    goes =
        set_out l (length l) _ (omega arith) ∙ put p.used k ∙ ap (λ (i : ℕ). set (take m l) i p ++ drop m l) (sym (stands-new h p));
    was = none ∙ sym (was-none h);
    is =
        ap (λ (k : List Place). (before_at (length l) k).used) (set_out l (length l) _ (omega arith))
        ∙ none ∙ sym (is_none desk t (take m l) p (past p.used k (stands-new h p)));
  }
    where
      put : (b : Bool) → (b ≡ true → m ≤ low) → l ≡ set (take m l) (b ⇒ low ⁏ m) p ++ drop m l
      put true k = set-none m low p l fits (k refl)
      put false k = set-none m m p l fits (omega arith)

      past : (b : Bool) → (b ≡ true → m ≤ low) → stands_at desk t p (take m l) ≡ (b ⇒ low ⁏ m)
          → length (take m l) ≤ stands_at desk t p (take m l)
      past true k q = omega (arith, q, k refl, long)
      past false k q = omega (arith, q, long)

      none : (before_at (length l) l).used ≡ false
      none = ap (λ (y : Place). y.used) (get_or-eq_default l closed (omega arith))

  pub goes : (total : ℕ) (p : Place) → (total ≤ 1 → m ≤ at → p.used ≡ false) → Goes (spot total) p
  unfolding spot_of ◌⇒◌⁏◌
  goes total p lone =
      each (λ (i : ℕ). Goes i p) _ _ _ (λ e. goes-found (lt_of _ _ e) p)
      (λ e. new (ge-of _ _ e) (low <? m) refl (1 <? total) refl)
    where
      new : m ≤ at → (a : Bool) → (low <? m) ≡ a → (b : Bool) → (1 <? total) ≡ b → Goes ((a and b) ⇒ low ⁏ length l) p
      new h true e true f = goes-new h (lt_of _ _ e) p
      new h true e false f = goes_none h p (λ u. absurd (true≢false (sym u ∙ lone (ge-of _ _ f) h)))
      new h false e b f = goes_none h p (λ u. ge-of _ _ e)

  -- the sample that the part is shown at the place where it is kept
  pub open-spot : (total : ℕ) → open_in (before_at (spot total) l) ≡ found
  unfolding spot_of open_in
  open-spot total =
      each (λ (i : ℕ). open_in (before_at i l) ≡ found) _ _ _
      (λ e.
      let h = lt_of _ _ e in
      let u : (before_at at l).used ≡ true = ap (λ (y : Place). y.used) (before-found h) ∙ found-used ∙ e in
      sym (yes _ _ u refl) ∙ before-found h)
      (λ e. each (λ (i : ℕ). open_in (before_at i l) ≡ found) _ _ _
      (λ f. sym (no _ _ (before-low (lt_of _ _ (and-of _ _ f).0)) refl) ∙ sym (none (ge-of _ _ e)))
      (λ f. ap open_in (get_or-eq_default l closed (omega arith)) ∙ open_none ∙ sym (none (ge-of _ _ e))))
    where
      none : m ≤ at → found ≡ closed
      none h = get_or-eq_default (take m l) closed (omega (arith, long))

  -- where the code keeps a part is that place, and nowhere where that lies past the end
  abbrev spotted : (k total : ℕ) → Option ℕ
  spotted k total =
      at <? k ⇒ (at <? k ⇒ Some at ⁏ None)
      ⁏ 1 <? total ⇒ (low <? k ⇒ Some low ⁏ None)
      ⁏ None

  spotted_is : (total : ℕ) (r : Option ℕ) → r ≡ spot_in desk t m total l → r ≡ spotted m total
  unfolding spot_in
  spotted_is total r e = e ∙ ap (λ (k : ℕ). spotted k total) long

  pub spot-some : (total i : ℕ) → Some i ≡ spot_in desk t m total l → (i ≡ spot total) × (i < length l)
  unfolding spot_of ◌⇒◌⁏◌
  spot-some total i e = go (at <? m) (low <? m) (1 <? total) refl refl (spotted_is total (Some i) e)
    where
      go : (a b c : Bool) → (at <? m) ≡ a → (low <? m) ≡ b
          → Some i ≡ (a ⇒ (a ⇒ Some at ⁏ None) ⁏ c ⇒ (b ⇒ Some low ⁏ None) ⁏ None)
          → (i ≡ (a ⇒ at ⁏ b and c ⇒ low ⁏ length l)) × (i < length l)
      go true b c f g h = let k : i ≡ at = cc in (k, omega (arith, lt_of _ _ f, fits))
      go false true true f g h = let k : i ≡ low = cc in (k, omega (arith, lt_of _ _ g, fits))
      go false true false f g h = cc
      go false false true f g h = cc
      go false false false f g h = cc

  pub spot-none : (total : ℕ) → None ≡ spot_in desk t m total l → length l ≤ spot total
  unfolding spot_of ◌⇒◌⁏◌
  spot-none total e = go (at <? m) (low <? m) (1 <? total) refl refl (spotted_is total None e)
    where
      go : (a b c : Bool) → (at <? m) ≡ a → (low <? m) ≡ b
          → None ≡ (a ⇒ (a ⇒ Some at ⁏ None) ⁏ c ⇒ (b ⇒ Some low ⁏ None) ⁏ None)
          → length l ≤ (a ⇒ at ⁏ b and c ⇒ low ⁏ length l)
      go true b c f g h = cc
      go false true true f g h = cc
      go false true false f g h = omega arith
      go false false c f g h = omega arith
