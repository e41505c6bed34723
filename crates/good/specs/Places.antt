-- What `placed` does to the open samples of the desk that calls, and that it does nothing to those of every other desk. (d, t) is the
-- desk and time of the call; at an unknown time no sample is open. Assumes nothing.
use Rattle.std.specs.Prelude.{ℕ, ◌+◌, ◌≤◌, ◌<◌, ◌≡◌, Bool, true, false, ◌≢◌, List, length, get_or, Some, None}
use Rattle.std.proofs.Math.Decide.{dec_lt}
use Rattle.std.proofs.Common.{arith, ap, ◌∙◌, true≢false}
use Rattle.std.proofs.Math.Path.{refl, sym}
use Rattle.std.proofs.Math.Option
use Rattle.std.proofs.Math.Option.{Option}
use Rattle.std.proofs.Math.ListN.{get_or-eq_default}
use Rattle.std.proofs.Math.Seq.{set_out}
use Rattle.laws.specs.Rows.{each, eq, ne, eq_of, lt_of, ge-of, and_is, and-of, not_is}
use Rattle.laws.specs.Table.{bit, seek, first, count, seek_hit, seek-first, seek-none, count-zero, count_set, first-set-here, first-set-other}
use Rattle.paper.specs.Time.{Time}
use Rattle.sample.specs.declared.Place.{Place}
use Rattle.sample.specs.Place.{bare, closed}
use Rattle.memory.specs.Table.{vacant, mine, is_time, is_at}
use Rattle.memory.specs.Relay.{open_at, stands_at, placed, is_open}
use Rattle.memory.proofs.Counted.{is_open_lem, is_none}

-- ---- a number that is the running time: that is known, and is the number
pub time-of : (t : Time) (u : ℕ) → is_time t u ≡ true → t ≡ Some u
time-of (Some time) u e = ap Some (sym (eq_of u time e))
time-of None u e = absurd (true≢false (sym e))

-- ---- where a place is open, it is the desk's sample of that time; and a named one is closed otherwise
abbrev pub Its : (d : ℕ) → Time → Place → Type 0
Its d t y = y.used ≡ true → (y.desk ≡ d) × (is_time t y.time ≡ true)

pub record Named (d : ℕ) (t : Time) (p : Place) : Type 0 where
  pub name : Its d t p
  pub free : p.used ≡ false → p ≡ closed

pub closed-free : (p : Place) → p ≡ closed → p.used ≡ false
unfolding bare
closed-free p e = ap (λ (y : Place). y.used) e

unused : (p : Place) {A : Type 0} → p.used ≡ false → p.used ≡ true → A
unused p f u = absurd (true≢false (sym u ∙ f))

pub closed-named : (d : ℕ) (t : Time) → Named d t closed
closed-named d t = record { name = unused closed (closed-free closed refl); free = λ f. refl }

-- ---- the tests on such a place: one passes exactly if it is open, or never does
abbrev Sees : (d : ℕ) → Time → (Place → Bool) → Type 0
Sees d t q = (y : Place) → Its d t y → q y ≡ y.used

abbrev Blind : (d : ℕ) → Time → (Place → Bool) → Type 0
Blind d t q = (y : Place) → Its d t y → q y ≡ false

mine-sees : (d : ℕ) (t : Time) → Sees d t (mine d)
mine-sees d t y h = each (λ (b : Bool). b ≡ y.used) _ _ _ (λ u. eq _ _ (h u).0 ∙ sym u) (λ u. sym u)

mine-blind : (d : ℕ) (t : Time) (e : ℕ) → e ≢ d → Blind d t (mine e)
mine-blind d t e n y h = each (λ (b : Bool). b ≡ false) _ _ _ (λ u. ne _ _ (λ q. n (sym q ∙ (h u).0))) (λ u. refl)

is_at-sees : (d : ℕ) (t : Time) → Sees d t (is_at d t)
is_at-sees d t y h = each (λ (b : Bool). b ≡ y.used) _ _ _ (λ u. and_is _ _ (eq _ _ (h u).0) (h u).1 ∙ sym u) (λ u. sym u)

is_at-blind : (d : ℕ) (t : Time) (e u : ℕ) → (e ≡ d → is_time t u ≡ false) → Blind d t (is_at e (Some u))
is_at-blind d t e u n y h =
    each (λ (b : Bool). b ≡ false) _ _ _
    (λ k. each (λ (b : Bool). b ≡ false) _ _ _
    (λ a. ne _ _ (λ q. true≢false (sym (h k).1 ∙ ap (is_time t) q ∙ n (sym (eq_of _ _ a) ∙ (h k).0)))) (λ a. refl))
    (λ k. refl)

-- ---- the open sample of (d, t)
either : {P : Type 0} (a b : ℕ) → (a < b → P) → (b ≤ a → P) → P
either a b h k = elim (dec_lt a b) [ yes l ↦ h l | no l ↦ k (omega arith) ]

module _ (d : ℕ) (t : Time) (l : List Place) where
  absent : length l ≤ seek (is_at d t) l → open_at d t l ≡ closed
  absent h = get_or-eq_default l closed h

  present : seek (is_at d t) l < length l
      → ((open_at d t l).used ≡ true) × (((open_at d t l).desk ≡ d) × (is_time t (open_at d t l).time ≡ true))
  present h =
      let a = and-of _ _ (seek_hit (is_at d t) l closed h) in
      let b = and-of _ _ a.1 in
      (a.0, (eq_of _ _ b.0, b.1))

  pub open-named : Named d t (open_at d t l)
  open-named =
      either (seek (is_at d t) l) (length l)
      (λ h. record { name = λ u. (present h).1; free = λ f. unused (open_at d t l) f (present h).0 })
      (λ h. rw (absent h) (closed-named d t))

  pub open_none : (open_at d t l).used ≡ false → count (is_at d t) l ≡ 0
  open_none f = either (seek (is_at d t) l) (length l) (λ h. unused (open_at d t l) f (present h).0) (λ h. seek-none (is_at d t) l h)

-- ---- p has become the desk's sample of the time: what the desk, and every other, sees of l and of k
pub record Moved (d : ℕ) (t : Time) (p : Place) (l k : List Place) : Type 0 where
  pub own-mine : count (mine d) k + bit (open_at d t l).used ≡ count (mine d) l + bit p.used
  pub own-is_at : count (is_at d t) k + bit (open_at d t l).used ≡ count (is_at d t) l + bit p.used
  pub own_open : count (is_at d t) l ≤ 1 → open_at d t k ≡ p
  pub other-mine : (e : ℕ) → e ≢ d → count (mine e) k ≡ count (mine e) l
  pub other-is_at : (e u : ℕ) → (e ≡ d → is_time t u ≡ false) → count (is_at e (Some u)) k ≡ count (is_at e (Some u)) l
  pub other-open : (e u : ℕ) → (e ≡ d → is_time t u ≡ false) → open_at e (Some u) k ≡ open_at e (Some u) l

-- p stands at i: no test tells what stood there from the open sample of (d, t)
record Stands (d : ℕ) (t : Time) (p : Place) (l : List Place) (i : ℕ) : Type 0 where
  ahead : i ≤ seek (is_at d t) l
  past : length l ≤ i → p ≡ closed
  its : Its d t (get_or l i closed)
  alike : (get_or l i closed).used ≡ (open_at d t l).used

module _ (d : ℕ) (t : Time) (p : Place) (l : List Place) (named : Named d t p)
    (room : p.used ≡ true → (open_at d t l).used ≡ false → seek vacant l < length l) where
  stands : Stands d t p l (stands_at d t p l)
  unfolding stands_at
  stands =
      each (Stands d t p l) _ _ _
      (λ h. let k = lt_of _ _ h in record { ahead = omega arith; past = λ q. absurd (omega arith); its = (open-named d t l).name; alike = refl })
      (λ h.
      let k = ge-of _ _ h in
      let new = closed-free (open_at d t l) (absent d t l k) in
      each (Stands d t p l) _ _ _
      (λ u.
      let r = room u new in
      let f = not_is (get_or l (seek vacant l) closed).used (seek_hit vacant l closed r) in
      record { ahead = omega arith; past = λ q. absurd (omega arith); its = unused (get_or l (seek vacant l) closed) f; alike = f ∙ sym new })
      (λ u.
      let f = closed-free (get_or l (length l) closed) (get_or-eq_default l closed (omega arith)) in
      record { ahead = k; past = λ q. named.free u; its = unused (get_or l (length l) closed) f; alike = f ∙ sym new }))

  stored : (q : Place → Bool) → count q (placed d t p l) + bit (q (get_or l (stands_at d t p l) closed)) ≡ count q l + bit (q p)
  stored q =
      either (stands_at d t p l) (length l) (λ h. count_set q l (stands_at d t p l) p closed h)
      (λ h. rw (set_out l (stands_at d t p l) p h, get_or-eq_default l closed h, stands.past h))

  counted : (q : Place → Bool) → Sees d t q → count q (placed d t p l) + bit (open_at d t l).used ≡ count q l + bit p.used
  counted q s = rw (s (get_or l (stands_at d t p l) closed) stands.its, stands.alike, s p named.name) at (stored q)

  uncounted : (q : Place → Bool) → Blind d t q → count q (placed d t p l) ≡ count q l
  uncounted q b = omega (arith, rw (b (get_or l (stands_at d t p l) closed) stands.its, b p named.name) at (stored q))

  inside : p.used ≡ true → stands_at d t p l < length l
  inside u = either (stands_at d t p l) (length l) (λ h. h) (λ h. unused p (closed-free p (stands.past h)) u)

  -- the place that the call is about is open after it where p is
  pub is-used : is_open d t p l ≡ p.used
  is-used = either (stands_at d t p l) (length l) (λ h. is_open_lem d t l p h) (λ h. is_none d t l p h ∙ sym (closed-free p (stands.past h)))

  gone : p.used ≡ false → count (is_at d t) l ≤ 1 → count (is_at d t) (placed d t p l) ≡ 0
  gone f once = go (open_at d t l).used refl (counted (is_at d t) (is_at-sees d t))
    where
      go : (b : Bool) → (open_at d t l).used ≡ b → count (is_at d t) (placed d t p l) + bit (open_at d t l).used ≡ count (is_at d t) l + bit p.used
          → count (is_at d t) (placed d t p l) ≡ 0
      go true u c = omega (arith, ap bit u, ap bit f)
      go false n c = omega (arith, ap bit n, ap bit f, open_none d t l n)

  now-open : count (is_at d t) l ≤ 1 → open_at d t (placed d t p l) ≡ p
  now-open once = seek-first (is_at d t) (placed d t p l) closed ∙ go p.used refl
    where
      go : (b : Bool) → p.used ≡ b → Option.get_or (first (is_at d t) (placed d t p l)) closed ≡ p
      go true u = rw (first-set-here (is_at d t) l (stands_at d t p l) p (inside u) stands.ahead (is_at-sees d t p named.name ∙ u))
      go false f = rw (count-zero (is_at d t) (placed d t p l) (gone f once)) (sym (named.free f))

  still_open : (e : ℕ) (u : Time) → Blind d t (is_at e u) → open_at e u (placed d t p l) ≡ open_at e u l
  still_open e u b =
      seek-first (is_at e u) (placed d t p l) closed
      ∙ ap (λ (o : Option Place). Option.get_or o closed)
      (first-set-other (is_at e u) l (stands_at d t p l) p closed (b (get_or l (stands_at d t p l) closed) stands.its) (b p named.name))
      ∙ sym (seek-first (is_at e u) l closed)

  pub moved : Moved d t p l (placed d t p l)
  moved = record {
    own-mine = counted (mine d) (mine-sees d t);
    own-is_at = counted (is_at d t) (is_at-sees d t);
    own_open = now-open;
    other-mine = λ e n. uncounted (mine e) (mine-blind d t e n);
    other-is_at = λ e u n. uncounted (is_at e (Some u)) (is_at-blind d t e u n);
    other-open = λ e u n. still_open e (Some u) (is_at-blind d t e u n);
  }
