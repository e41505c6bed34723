-- The act of a call as the code carries it out: what it found in the table, what the desk made of it, and the place where that goes.
-- Assumes nothing.
use Prim.Native.Nat.{ℕ, ◌+◌, ◌*◌, ◌≤◌, ◌<◌}
use Rattle.std.proofs.Common.{arith, subst, ◌∙◌, true≢false, length-take, take-append-drop}
use Rattle.std.specs.Prelude.{◌≡◌, Bool, false, not, set, take, drop, Some, None}
use Rattle.std.proofs.Math.Path.{refl, sym, ap}
use Rattle.std.proofs.Math.Bool.{true}
use mathlib.Core.List.{List, ◌++◌}
use Rattle.std.proofs.Math.ListN.{length, get_or-eq_default}
use Rattle.std.proofs.lemmas.List.{set-get_or}
use Rattle.laws.specs.Rows.{◌⇒◌⁏◌, ◌or◌, ◌and◌, ◌<?◌, each, below, no, lt_of, and-of, or-none}
use Rattle.laws.specs.Region.{splice, splice-part}
use Rattle.laws.specs.Table.{seek}
use Rattle.paper.specs.Limits.{finished_most, head_size, marks_each, store_size, desks_most, places}
use Rattle.paper.specs.Words.{by_time}
use Rattle.paper.specs.declared.Answer.{Answer}
use Rattle.paper.specs.declared.Sender.{Sender}
use Rattle.paper.specs.Time.{Time}
use Rattle.paper.specs.declared.Refusal.TheVariants as R
use Rattle.paper.specs.declared.Outcome.TheVariants as O
use Rattle.unit.specs.declared.Unit.{Unit}
use Rattle.unit.specs.declared.Unit.TheVariants as U
use Rattle.unit.specs.declared.Reading.{Reading}
use Rattle.unit.specs.Layout.{read_of, data_of}
use Rattle.unit.specs.Reads.{Counts, Counted}
use Rattle.unit.proofs.Readings.{reads-counted}
use Rattle.sample.specs.declared.Place.{Place}
use Rattle.sample.specs.Place.{bare, closed}
use Rattle.desk.specs.declared.Shares.{Shares}
use Rattle.desk.specs.Desk.{Own, After, says, stay, refuse, is_text, is_part, part_at, description_taken, taken, received}
use Rattle.asks.specs.declared.Arrival.{Arrival}
use Rattle.asks.specs.Asked.{laid_same}
use Rattle.asks.specs.Settled.{open_in, part_of, arrival_of, unasked, passed}
use Rattle.table.specs.Table.{holds}
use Rattle.others.specs.Others.{received-any as any-received}
use Rattle.memory.specs.Table.{vacant, is_at}
use Rattle.memory.specs.Relay.{Tables, tables, desks_of, places_of, stored_shares, open_at, own_of, placed}
use Rattle.memory.specs.Relay.{was_open, is_open, recounted, stranger, lacking, Done, done, ordered, settled, received_among}
use Rattle.memory.specs.Relay.{received_at}
use Rattle.memory.proofs.Back.{open_unknown, placed-open, still_open, put_same}
use Rattle.memory.proofs.Counted.{recounted-same, is-closed}
use Rattle.looks.specs.Looks.{reach_at, reach_for, asked_of, spot_of, spot_in}
use Rattle.steps.specs.Plan.{Plan, plan, plan_of, own_at, part_planned, pass_planned}
use Rattle.gate.specs.Tests.{proper, all-long}
use Rattle.steps.specs.Kept.{before_at, kept_places, joined_at}
use Rattle.steps.specs.Found.{reach-all, reach-most, found, found-used, found-holds, before-found}
use Rattle.steps.specs.Found.{goes, open-spot, spot-some, spot-none}
use Rattle.steps.specs.Lone.{part_none}

-- ---- receive
module _ (s : Tables) (who : Sender) where
  abbrev n : ℕ
  n = desks_of s.marks

  abbrev len : ℕ
  len = length s.places

  abbrev one : Bool
  one = stranger n who.desk or lacking n s

  -- what lies in the tables, put back by the plan, and the place counted
  abbrev spliced : (l : List Place) → (was is : Bool) → After → Done
  spliced l was is a =
      done (tables l (splice (finished_most * who.desk) finished_most a.own.row s.rows)
      (recounted who.desk was is (splice (head_size + marks_each * who.desk) marks_each a.own.marks s.marks))
      (splice (store_size * who.desk) store_size a.own.store s.stores)) a.own.out a.answer

  -- 1 leaves all as it stood
  spliced-same : (b : Bool) (p : Place) (out : List ℕ)
      → spliced s.places b b (refuse (own_at who.desk p s.rows s.marks s.stores out) 0 who.time R.Desk)
      ≡ done s out (says 0 who.time (O.Refused R.Desk))
  spliced-same b p out =
      rw (
        splice-part (finished_most * who.desk) finished_most s.rows,
        splice-part (head_size + marks_each * who.desk) marks_each s.marks,
        recounted-same who.desk b s.marks,
        splice-part (store_size * who.desk) store_size s.stores,
      )

  refused-same : (out : List ℕ)
      → settled n s who.desk who.time (refuse (own_of n s who.desk who.time out) 0 who.time R.Desk)
      ≡ done s out (says 0 who.time (O.Refused R.Desk))
  refused-same out = ap (λ (t : Tables). done t out (says 0 who.time (O.Refused R.Desk))) (put_same n s who.desk who.time out)

  -- ---- a part
  module _ (rest out : List ℕ) (r : Reading) (read : r ≡ read_of rest) (is-part : is_part r.unit ≡ true) where
    abbrev x : Arrival
    x = arrival_of r

    abbrev bytes : List ℕ
    bytes = data_of rest (U.Part x.part)

    counts : Counts x.part
    counts = go r.unit is-part (subst (λ (z : Reading). Counted z.unit) (sym read) (reads-counted rest))
      where
        go : (u : Unit) → is_part u ≡ true → Counted u → Counts (part_of u)
        go (U.Part w) e k = k
        go U.End e k = absurd (true≢false (sym e))
        go (U.Skipped t) e k = absurd (true≢false (sym e))
        go (U.Refused w) e k = absurd (true≢false (sym e))
        go (U.Whole w) e k = absurd (true≢false (sym e))
        go (U.Description w) e k = absurd (true≢false (sym e))

    received-part : (h : Shares) (o : Own) → part_at h o who.desk who.time x.used x.part bytes
        ≡ received h o who.desk who.time rest
    unfolding received
    received-part h o = go r.unit refl is-part ∙ ap (λ (z : Reading). taken h o who.desk who.time z.used rest z.unit) read
      where
        go : (u : Unit) → r.unit ≡ u → is_part u ≡ true
            → part_at h o who.desk who.time r.used (part_of u) (data_of rest (U.Part (part_of u)))
            ≡ taken h o who.desk who.time r.used rest u
        go (U.Part w) q e = refl
        go U.End q e = absurd (true≢false (sym e))
        go (U.Skipped t) q e = absurd (true≢false (sym e))
        go (U.Refused w) q e = absurd (true≢false (sym e))
        go (U.Whole w) q e = absurd (true≢false (sym e))
        go (U.Description w) q e = absurd (true≢false (sym e))

    abbrev m : ℕ
    m = reach_at n who.time len

    abbrev stored : Shares
    stored = stored_shares n who.desk s.marks

    abbrev pub spot_at : ℕ
    spot_at =
        spot_of (seek (is_at who.desk who.time) (take m s.places))
        (seek vacant (take (asked_of (seek (is_at who.desk who.time) (take m s.places)) m) s.places)) m len x.part.total

    -- where the sample was found, the free places were not looked at
    spot_is : spot_at ≡ spot_of (seek (is_at who.desk who.time) (take m s.places)) (seek vacant (take m s.places)) m len
        x.part.total
    unfolding spot_of asked_of
    spot_is = go (seek (is_at who.desk who.time) (take m s.places)) x.part.total
      where
        go : (a t : ℕ)
            → (a <? m ⇒ a ⁏ seek vacant (take (a <? m ⇒ 0 ⁏ m) s.places) <? m and 1 <? t ⇒ seek vacant
            (take (a <? m ⇒ 0 ⁏ m) s.places) ⁏ len)
            ≡ (a <? m ⇒ a ⁏ seek vacant (take m s.places) <? m and 1 <? t ⇒ seek vacant (take m s.places) ⁏ len)
        go a t = below _ _ _ _
            (λ e. ap (λ (k : ℕ). seek vacant (take k s.places) <? m and 1 <? t ⇒ seek vacant (take k s.places) ⁏ len)
            (sym (no _ _ e refl)))

    -- where the code keeps the part
    pub spot-found : (i : ℕ) → Some i ≡ spot_in who.desk who.time m x.part.total s.places → (i ≡ spot_at) × (i < len)
    spot-found i e =
        let k = spot-some who.desk who.time m s.places (reach-most n who.time len) x.part.total i e in (k.0 ∙ sym spot_is, k.1)

    pub spot-lost : None ≡ spot_in who.desk who.time m x.part.total s.places → len ≤ spot_at
    spot-lost e =
        rw spot_is (spot-none who.desk who.time m s.places (reach-most n who.time len) x.part.total e)

    -- a free place is taken only by a part that does not end its sample
    pub spot-opens : spot_at < len → (before_at spot_at s.places).used ≡ false → 1 < x.part.total
    unfolding spot_of asked_of
    spot-opens = go (seek (is_at who.desk who.time) (take m s.places) <? m) refl
      where
        a : ℕ
        a = seek (is_at who.desk who.time) (take m s.places)

        low-at : ℕ → ℕ
        low-at k = seek vacant (take k s.places)

        Opens : ℕ → Type 0
        Opens i = i < len → (before_at i s.places).used ≡ false → 1 < x.part.total

        go : (b : Bool) → (a <? m) ≡ b
            → Opens (a <? m ⇒ a ⁏ low-at (a <? m ⇒ 0 ⁏ m) <? m and 1 <? x.part.total ⇒ low-at (a <? m ⇒ 0 ⁏ m) ⁏ len)
        go b e =
            each Opens (a <? m) _ _
            (λ f k u.
            let v = before-found who.desk who.time m s.places (reach-most n who.time len) (lt_of _ _ f) in
            absurd (true≢false (sym f ∙ sym (found-used who.desk who.time m s.places (reach-most n who.time len))
            ∙ sym (ap (λ (y : Place). y.used) v) ∙ u)))
            (λ f. each Opens _ _ _ (λ g k u. lt_of _ _ (and-of _ _ g).1) (λ g k u. absurd (omega (arith, k))))

    pub joined_is : joined_at spot_at s who x rest out ≡ received_at s who rest out
    unfolding part_planned received_among ordered bare ◌⇒◌⁏◌
    joined_is = go one refl
      where
        p : Place
        p = open_in (before_at spot_at s.places)

        small : Bool
        small = length out <? 1024

        made : (one small : Bool) → Place → After
        made one small q =
            let o = own_at who.desk q s.rows s.marks s.stores out in
            one ⇒ refuse o 0 who.time R.Desk
            ⁏ small ⇒ refuse o 0 who.time R.Output
            ⁏ part_at stored o who.desk who.time x.used x.part bytes

        kept_at : (i : ℕ) → After → Done
        kept_at i a =
            let l = kept_places i s.places a.own.place in spliced l (before_at i s.places).used (before_at i l).used a

        theirs : (one small : Bool) → After
        theirs one small =
            let o = own_of n s who.desk who.time out in
            one ⇒ refuse o 0 who.time R.Desk
            ⁏ small ⇒ refuse o 0 who.time R.Output
            ⁏ received stored o who.desk who.time rest

        -- the desk's own things and what it makes of them, over the first k places
        own-at : (k : ℕ) → Own
        own-at k = own_at who.desk (open_at who.desk who.time (take k s.places)) s.rows s.marks s.stores out

        makes : (k : ℕ) → After
        makes k =
            small ⇒ refuse (own-at k) 0 who.time R.Output
            ⁏ received stored (own-at k) who.desk who.time rest

        outcome : (k : ℕ) → Done
        outcome k =
            let q = (makes k).own.place in
            let l = take k s.places in
            spliced (placed who.desk who.time q l ++ drop k s.places) (was_open who.desk who.time l)
            (is_open who.desk who.time q l) (makes k)

        fits : m ≤ len
        fits = reach-most n who.time len

        p-is : p ≡ open_at who.desk who.time (take m s.places)
        p-is =
            ap (λ (i : ℕ). open_in (before_at i s.places)) spot_is
            ∙ open-spot who.desk who.time m s.places fits x.part.total

        made-is : made false small p ≡ makes m
        made-is =
            ap (made false small) p-is
            ∙ ap (λ (y : After). small ⇒ refuse (own-at m) 0 who.time R.Output ⁏ y) (received-part stored (own-at m))

        never : x.part.total ≤ 1 → m ≤ seek (is_at who.desk who.time) (take m s.places) → (makes m).own.place.used ≡ false
        never t k =
            let none : open_at who.desk who.time (take m s.places) ≡ closed =
            get_or-eq_default (take m s.places) closed (omega (arith, length-take m s.places)) in
            each (λ (y : After). y.own.place.used ≡ false) small _ _ (λ f. ap (λ (q : Place). q.used) none)
            (λ f. subst (λ (y : After). y.own.place.used ≡ false) (received-part stored (own-at m))
            (part_none stored (own-at m) who.desk who.time x.used x.part bytes none counts t))

        kept-is : kept_at spot_at (made false small p) ≡ outcome m
        kept-is =
            let g = goes who.desk who.time m s.places fits x.part.total (makes m).own.place never in
            ap (kept_at spot_at) made-is ∙ ap (λ (i : ℕ). kept_at i (makes m)) spot_is
            ∙ (λ i. spliced (g.goes i) (g.was i) (g.is i) (makes m))

        -- at an unknown time nothing is looked at and nothing put back, however many places there are
        refusal : After
        refusal =
            let o = own_at who.desk closed s.rows s.marks s.stores out in
            small ⇒ refuse o 0 who.time R.Output
            ⁏ refuse o x.used None R.Untimed

        outcome-any : who.time ≡ None → (k : ℕ) → outcome k ≡ spliced s.places false false refusal
        outcome-any e k =
            let l = take k s.places in
            let none : open_at who.desk who.time l ≡ closed =
            ap (λ (t : Time). open_at who.desk t l) e ∙ open_unknown who.desk l in
            let made : makes k ≡ refusal =
            ap (λ (p : Place).
            let o = own_at who.desk p s.rows s.marks s.stores out in
            small ⇒ refuse o 0 who.time R.Output ⁏ received stored o who.desk who.time rest) none
            ∙ ap (λ (y : After).
            small ⇒ refuse (own_at who.desk closed s.rows s.marks s.stores out) 0 who.time R.Output ⁏ y)
            (sym (received-part stored (own_at who.desk closed s.rows s.marks s.stores out))
            ∙ ap (λ (t : Time). part_at stored (own_at who.desk closed s.rows s.marks s.stores out) who.desk t x.used
            x.part bytes) e) in
            let q : (makes k).own.place ≡ closed =
            ap (λ (y : After). y.own.place) made ∙ each (λ (y : After). y.own.place ≡ closed) small _ _ (λ f. refl) (λ f. refl) in
            let back : placed who.desk who.time (makes k).own.place l ++ drop k s.places ≡ s.places =
            ap (λ (p : Place). placed who.desk who.time p l ++ drop k s.places) (q ∙ sym none)
            ∙ ap (λ (z : List Place). z ++ drop k s.places) (placed-open who.desk who.time l) ∙ take-append-drop k s.places in
            let was : was_open who.desk who.time l ≡ false = ap (λ (p : Place). p.used) none in
            let is : is_open who.desk who.time (makes k).own.place l ≡ false =
            ap (λ (p : Place). is_open who.desk who.time p l) q ∙ is-closed who.desk who.time l in
            λ i. spliced (back i) (was i) (is i) (made i)

        over-all : n ≤ desks_most → places n ≤ len → (t : Time) → who.time ≡ t → outcome m ≡ outcome (places n)
        over-all few enough (Some time) e = ap outcome (ap (λ (t : Time). reach_at n t len) e ∙ reach-all n len few enough)
        over-all few enough None e = outcome-any e m ∙ sym (outcome-any e (places n))

        -- 1 leaves the place, and with it the places and the numbers
        unkept : (a : After) → a.own.place ≡ p
            → kept_at spot_at a ≡ spliced s.places (before_at spot_at s.places).used (before_at spot_at s.places).used a
        unkept a e =
            ap (λ (l : List Place). spliced l (before_at spot_at s.places).used (before_at spot_at l).used a)
            (ap (kept_places spot_at s.places) e ∙ ap (set s.places spot_at) (laid_same (before_at spot_at s.places))
            ∙ set-get_or s.places spot_at closed)

        go : (b : Bool) → one ≡ b → kept_at spot_at (made b small p) ≡ settled n s who.desk who.time (theirs b small)
        go true e =
            unkept (made true small p) refl ∙ spliced-same (before_at spot_at s.places).used p out ∙ sym (refused-same out)
        go false e =
            let a = or-none _ _ e in
            let w = proper n who.desk a.0 in
            let l = all-long n len (length s.rows) (length s.marks) (length s.stores) a.1 in
            kept-is ∙ over-all w.0 l.0.0 who.time refl

  -- ---- any other unit: the places stay
  module _ (rest out : List ℕ) (r : Reading) (read : r ≡ read_of rest) (no_part : is_part r.unit ≡ false) where
    received-any : (h : Shares) (o : Own) → passed o who.time r rest ≡ received h o who.desk who.time rest
    received-any h o =
        ap (λ (z : Reading). passed o who.time z rest) read
        ∙ any-received h o who.desk who.time rest (ap (λ (z : Reading). is_part z.unit) (sym read) ∙ no_part)

    -- what a call left that kept to its plan for p, where p is the desk's sample
    abbrev planned : Place → Plan
    planned p = pass_planned len p s.rows s.marks s.stores out who r rest

    left_is : (a : Answer) (rows marks stores out' : List ℕ) → (p : Place) → p ≡ open_at who.desk who.time (places_of n s)
        → plan p a rows marks stores out' ≡ planned p → done (tables s.places rows marks stores) out' a ≡ received_at s who rest out
    unfolding pass_planned received_among ordered ◌⇒◌⁏◌
    left_is a rows marks stores out' p k e =
        ap (λ (z : Plan). done (tables s.places z.rows z.marks z.stores) z.out z.answer) (e ∙ ap planned-of same)
        ∙ ap (λ (k : List ℕ). done (tables s.places z.rows k z.stores) z.out z.answer)
        (sym (recounted-same who.desk was z.marks))
        ∙ sym (λ i. spliced (all i) was (still i) theirs)
      where
        made : Place → After
        made q =
            let o = own_at who.desk q s.rows s.marks s.stores out in
            one ⇒ refuse o 0 who.time R.Desk
            ⁏ length out <? 1024 ⇒ refuse o 0 who.time R.Output
            ⁏ passed o who.time r rest

        theirs : After
        theirs =
            let o = own_of n s who.desk who.time out in
            one ⇒ refuse o 0 who.time R.Desk
            ⁏ length out <? 1024 ⇒ refuse o 0 who.time R.Output
            ⁏ received (stored_shares n who.desk s.marks) o who.desk who.time rest

        same : made p ≡ theirs
        same =
            ap made k
            ∙ ap (λ (y : After).
            let o = own_of n s who.desk who.time out in
            one ⇒ refuse o 0 who.time R.Desk ⁏ length out <? 1024 ⇒ refuse o 0 who.time R.Output ⁏ y)
            (received-any (stored_shares n who.desk s.marks) (own_of n s who.desk who.time out))

        stays : theirs.own.place ≡ open_at who.desk who.time (places_of n s)
        stays = ap (λ (y : After). y.own.place) (sym same) ∙ sym (ap (λ (z : Plan). z.place) e) ∙ k

        planned-of : After → Plan
        planned-of = plan_of who.desk s.rows s.marks s.stores

        z : Plan
        z = planned-of theirs

        was : Bool
        was = was_open who.desk who.time (places_of n s)

        still : is_open who.desk who.time theirs.own.place (places_of n s) ≡ was
        still =
            ap (λ (q : Place). is_open who.desk who.time q (places_of n s)) stays ∙ still_open who.desk who.time (places_of n s)

        all : placed who.desk who.time theirs.own.place (places_of n s) ++ drop (places n) s.places ≡ s.places
        all =
            ap (λ (q : Place). placed who.desk who.time q (places_of n s) ++ drop (places n) s.places) stays
            ∙ ap (λ (l : List Place). l ++ drop (places n) s.places) (placed-open who.desk who.time (places_of n s))
            ∙ take-append-drop (places n) s.places

    -- the unit names a sample, and the time is known
    abbrev looks_at : Time → Unit → Bool
    looks_at t u = by_time t (λ time. is_text u) false

    -- else it looks at none, nor does 1
    unlooked : (one or not (looks_at who.time r.unit)) ≡ true → (a : Answer) (rows marks stores out' : List ℕ) (p q : Place)
        → plan p a rows marks stores out' ≡ planned p → plan q a rows marks stores out' ≡ planned q
    unfolding pass_planned passed description_taken ◌⇒◌⁏◌
    unlooked none a rows marks stores out' p q e =
        ap (λ (z : Plan). plan q z.answer z.rows z.marks z.stores z.out) e
        ∙ go one (length out <? 1024) who.time r.unit none
      where
        made : (one small : Bool) → Time → Unit → Place → After
        made one small t u q =
            let o = own_at who.desk q s.rows s.marks s.stores out in
            one ⇒ refuse o 0 t R.Desk
            ⁏ small ⇒ refuse o 0 t R.Output
            ⁏ is_part u ⇒ stay o 0 t O.End
            ⁏ taken unasked o 0 t r.used rest u

        moved : After → Plan
        moved y =
            let z = plan_of who.desk s.rows s.marks s.stores y in plan q z.answer z.rows z.marks z.stores z.out

        go : (one small : Bool) (t : Time) (u : Unit) → (one or not (looks_at t u)) ≡ true
            → moved (made one small t u p) ≡ plan_of who.desk s.rows s.marks s.stores (made one small t u q)
        go true small t u k = refl
        go false true t u k = refl
        go false false t U.End k = refl
        go false false t (U.Skipped y) k = refl
        go false false t (U.Refused w) k = refl
        go false false (Some time) (U.Whole w) k = absurd (true≢false (sym k))
        go false false None (U.Whole w) k = refl
        go false false t (U.Part w) k = refl
        go false false t (U.Description w) k = refl

    pub passed_is : (a : Answer) (rows marks stores out' : List ℕ)
        → ((p : Place) → p.used ≡ holds (is_at who.desk who.time) (take (reach_for n who.time len r.unit) s.places)
        → plan p a rows marks stores out' ≡ planned p)
        → done (tables s.places rows marks stores) out' a ≡ received_at s who rest out
    unfolding ◌⇒◌⁏◌
    passed_is a rows marks stores out' e = go one refl who.time refl (is_text r.unit) refl
      where
        k : ℕ
        k = reach_for n who.time len r.unit

        fits : k ≤ len
        fits = each (λ (j : ℕ). j ≤ len) (is_text r.unit) _ 0 (λ h. reach-most n who.time len) (λ h. omega arith)

        it : Place
        it = found who.desk who.time k s.places fits

        kept-to : plan it a rows marks stores out' ≡ planned it
        kept-to = e it (found-holds who.desk who.time k s.places fits)

        any : (one or not (looks_at who.time r.unit)) ≡ true
            → done (tables s.places rows marks stores) out' a ≡ received_at s who rest out
        any none =
            left_is a rows marks stores out' (open_at who.desk who.time (places_of n s)) refl
            (unlooked none a rows marks stores out' it _ kept-to)

        go : (b : Bool) → one ≡ b → (t : Time) → who.time ≡ t → (c : Bool) → is_text r.unit ≡ c
            → done (tables s.places rows marks stores) out' a ≡ received_at s who rest out
        go true f t h c g = any (ap (λ (b : Bool). b or not (looks_at who.time r.unit)) f)
        go false f None h c g = any (λ i. f i or not (looks_at (h i) r.unit))
        go false f (Some time) h false g = any ((λ i. f i or not (looks_at (h i) r.unit)) ∙ ap not g)
        go false f (Some time) h true g =
            let w = or-none _ _ f in
            let v = proper n who.desk w.0 in
            let l = all-long n len (length s.rows) (length s.marks) (length s.stores) w.1 in
            let q : k ≡ places n = (λ i. g i ⇒ reach_at n (h i) len ⁏ 0) ∙ reach-all n len v.0 l.0.0 in
            left_is a rows marks stores out' it (ap (λ (j : ℕ). open_at who.desk who.time (take j s.places)) q) kept-to
