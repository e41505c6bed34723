-- What a desk sees of good tables, and what a call does to it: the view of the desk that calls becomes what its own things say, that of
-- every other desk stays, and so does all that lies beyond what n desks need. Assumes nothing.
use Rattle.std.specs.Prelude.{ℕ, ◌+◌, ◌-◌, ◌*◌, ◌<◌, ◌≡◌, refl, Bool, false, ◌≢◌, take, drop, replicate, Some, None}
use Rattle.std.proofs.Common.{arith, ◌∙◌, drop_at}
use Rattle.std.proofs.Math.Path.{sym, ap}
use Rattle.std.proofs.Math.Bool.{true}
use mathlib.Core.List.{List, []}
use Rattle.std.proofs.lemmas.List.{length-replicate}
use Rattle.laws.specs.Rows.{◌⇒◌⁏◌, each, no, ge}
use Rattle.laws.specs.Region.{splice, drop-sets-past}
use Rattle.laws.specs.Table.{bit, count}
use Rattle.paper.specs.Limits.{head_size, marks_each, places, rows_need, marks_need, stores_need}
use Rattle.paper.specs.Words.{by_time}
use Rattle.paper.specs.declared.Name.{Name}
use Rattle.paper.specs.declared.Sender.{Sender}
use Rattle.paper.specs.Time.{Time}
use Rattle.sample.specs.declared.Place.{Place}
use Rattle.sample.specs.Place.{closed}
use Rattle.style.specs.Shown.{shown}
use Rattle.desk.specs.declared.Shares.{Shares}
use Rattle.desk.specs.Desk.{Own, After, Given, own, newest_of}
use Rattle.memory.specs.Table.{mine, is_time}
use Rattle.memory.specs.Relay.{Tables, places_of, row_of, marks_of, store_of, open_at, own_of, shares_of, stored_shares, placed, put_back, short}
use Rattle.memory.specs.Relay.{Prepared, fresh_marks, set_up, ordered, Done, settled, received_among, received_at, yielded, Released, returned}
use Rattle.memory.specs.Relay.{given_up_among, given_up_at, looked_up_among, looked_up, sender}
use Rattle.memory.proofs.Back.{open_unknown}
use Rattle.good.specs.Places.{time-of, Moved}
use Rattle.good.specs.Fair.{once-at}
use Rattle.good.specs.Good.{name, Good, shares-are, no-stranger, no-lack, no-lack-three, fresh-length, Left, Fits, fits}
use Rattle.good.specs.Good.{receive-left, give-up-left, receive-each, give-up-each}

-- its open sample of each time (a closed place where there is none), how many are open, its row of finished times, marks and store
pub record View : Type 0 where
  pub at : (time : ℕ) → Place
  pub opens : ℕ
  pub row : List ℕ
  pub marks : List ℕ
  pub store : List ℕ

abbrev pub view : (n desk : ℕ) → Tables → View
view n desk s = record {
  at = λ time. open_at desk (Some time) (places_of n s);
  opens = count (mine desk) (places_of n s);
  row = row_of desk s.rows;
  marks = marks_of desk s.marks;
  store = store_of desk s.stores;
}

pub same_view : (v w : View) → ((time : ℕ) → v.at time ≡ w.at time) → v.opens ≡ w.opens → v.row ≡ w.row → v.marks ≡ w.marks
    → v.store ≡ w.store → v ≡ w
same_view v w a o r m s = λ i. record { at = λ time. a time i; opens = o i; row = r i; marks = m i; store = s i }

-- its open sample at a call's time; at an unknown one there is none
abbrev pub seen_at : View → Time → Place
seen_at v t = by_time t v.at closed

pub seen-at : (n desk : ℕ) (s : Tables) (t : Time) → open_at desk t (places_of n s) ≡ seen_at (view n desk s) t
seen-at n desk s (Some time) = refl
seen-at n desk s None = open_unknown desk (places_of n s)

-- the desk's own things, by its view, which are those that a call finds; and its view when a call has left o
abbrev pub own_in : View → Time → (out : List ℕ) → Own
own_in v t out = own (seen_at v t) v.row v.marks v.store out

pub own-seen : (n desk : ℕ) (s : Tables) (t : Time) (out : List ℕ) → own_of n s desk t out ≡ own_in (view n desk s) t out
own-seen n desk s t out = λ i.
    own (seen-at n desk s t i) (row_of desk s.rows) (marks_of desk s.marks) (store_of desk s.stores) out

abbrev pub seen_after : View → Time → Own → View
seen_after v t o = record {
  at = λ u. is_time t u ⇒ o.place ⁏ v.at u;
  opens = v.opens + bit o.place.used - bit (seen_at v t).used;
  row = o.row;
  marks = o.marks;
  store = o.store;
}

-- what lies beyond what n desks need is the same
pub record Beyond (n : ℕ) (s r : Tables) : Type 0 where
  pub places : drop (places n) r.places ≡ drop (places n) s.places
  pub rows : drop (rows_need n) r.rows ≡ drop (rows_need n) s.rows
  pub marks : drop (marks_need n) r.marks ≡ drop (marks_need n) s.marks
  pub stores : drop (stores_need n) r.stores ≡ drop (stores_need n) s.stores

unchanged : (n : ℕ) (s : Tables) → Beyond n s s
unchanged n s = record { places = refl; rows = refl; marks = refl; stores = refl }

-- ---- what a desk's call leaves, put back
module _ (n : ℕ) (s : Tables) (desk : ℕ) (t : Time) (out : List ℕ) (o : Own) (g : Good n s) (h : desk < n)
    (k : Left n s desk t out o) where
  f : Fits n s desk t o
  f = fits n s desk t out o g h k

  m : Moved desk t o.place (places_of n s) (places_of n (put_back n s desk t o))
  m = f.moved

  -- a desk's marks are behind the head
  put-marks : (e : ℕ) → marks_of e (put_back n s desk t o).marks
      ≡ marks_of e (splice (head_size + marks_each * desk) marks_each o.marks s.marks)
  put-marks e = ap (take marks_each) (f.counted (head_size + marks_each * e) (omega arith))

  put-stands : open_at desk t (places_of n (put_back n s desk t o)) ≡ o.place
  put-stands = m.own_open (once-at n (places_of n s) g.fair desk t)

  put-own : view n desk (put_back n s desk t o) ≡ seen_after (view n desk s) t o
  put-own =
      let r = put_back n s desk t o in
      same_view _ _
      (λ u. each (λ (p : Place). open_at desk (Some u) (places_of n r) ≡ p) (is_time t u) o.place (open_at desk (Some u) (places_of n s))
      (λ e. rw (← (time-of t u e)) put-stands)
      (λ e. m.other-open desk u (λ a. e)))
      (omega (arith, m.own-mine, ap (λ (p : Place). bit p.used) (seen-at n desk s t))) f.rows.same
      (put-marks desk ∙ f.marks.same) f.stores.same

  put_other : (e : ℕ) → e ≢ desk → view n e (put_back n s desk t o) ≡ view n e s
  put_other e q =
      same_view _ _ (λ u. m.other-open e u (λ a. absurd (q a))) (m.other-mine e q) (f.rows.other e q)
      (put-marks e ∙ f.marks.other e q) (f.stores.other e q)

  put-beyond : Beyond n s (put_back n s desk t o)
  put-beyond = record {
    places = drop_at (placed desk t o.place (places_of n s)) (drop (places n) s.places) (places n) f.places;
    rows = f.rows.beyond;
    marks = f.counted (marks_need n) (omega arith) ∙ f.marks.beyond;
    stores = f.stores.beyond;
  }

-- ---- another desk's view, and what lies beyond, stay
module _ (n : ℕ) (s : Tables) (g : Good n s) where
  module _ (who : Sender) (rest out : List ℕ) where
    pub receive-others : (e : ℕ) → e ≢ who.desk → view n e (received_at s who rest out).tables ≡ view n e s
    receive-others e q =
        receive-each n s who.desk g.head (λ (r : Tables). view n e r ≡ view n e s) refl who.time rest out
        (λ h o k. put_other n s who.desk who.time out o g h k e q)

    pub receive-beyond : Beyond n s (received_at s who rest out).tables
    receive-beyond =
        receive-each n s who.desk g.head (Beyond n s) (unchanged n s) who.time rest out
        (λ h o k. put-beyond n s who.desk who.time out o g h k)

  module _ (who : Name) where
    pub give-up-others : (e : ℕ) → e ≢ who.desk → view n e (given_up_at s who).tables ≡ view n e s
    give-up-others e q =
        give-up-each n s who.desk g.head (λ (r : Tables). view n e r ≡ view n e s) refl who.time
        (λ h o k. put_other n s who.desk (Some who.time) [] o g h k e q)

    pub give-up-beyond : Beyond n s (given_up_at s who).tables
    give-up-beyond =
        give-up-each n s who.desk g.head (Beyond n s) (unchanged n s) who.time
        (λ h o k. put-beyond n s who.desk (Some who.time) [] o g h k)

pub set-up-beyond : (n : ℕ) (s : Tables) → Beyond n s (set_up n s).tables
unfolding set_up
set-up-beyond n s =
    each (λ (m : Prepared). Beyond n s m.tables) _ _ _ (λ e. unchanged n s)
    (λ e. record {
      places = drop-sets-past (replicate (places n) closed) s.places 0 (places n) (omega (arith, length-replicate (places n) closed));
      rows = drop-sets-past (replicate (rows_need n) 0) s.rows 0 (rows_need n) (omega (arith, length-replicate {A = ℕ} (rows_need n) 0));
      marks = drop-sets-past (fresh_marks n) s.marks 0 (marks_need n) (omega (arith, fresh-length n));
      stores =
          drop-sets-past (replicate (stores_need n) 0) s.stores 0 (stores_need n)
          (omega (arith, length-replicate {A = ℕ} (stores_need n) 0));
    })

-- ---- the desk's own call: all that it answers and leaves is settled by its view, and by what the shares say
-- 2, then the desk's own order
abbrev pub receives : Shares → View → (desk : ℕ) → Time → (rest out : List ℕ) → After
receives h v desk t rest out = ordered false h (own_in v t out) desk t rest

-- 11, or the place is freed and the time marked
abbrev pub gives_up : View → (time : ℕ) → Given
gives_up v time = yielded false (own_in v (Some time) []) time

module _ (n : ℕ) (s : Tables) (g : Good n s) (desk : ℕ) (h : desk < n) where
  module _ (t : Time) (rest out : List ℕ) where
    -- by the shares and the desk's own things as they are stored; and so by the shares as a walk finds them, and by the desk's view
    abbrev stored : After
    stored = ordered false (stored_shares n desk s.marks) (own_of n s desk t out) desk t rest

    stored_is : received_at s (sender desk t) rest out ≡ settled n s desk t stored
    unfolding received_among
    stored_is =
        let x = stored_shares n desk s.marks in
        ap (λ (k : ℕ). received_among k s desk t rest out) g.head
        ∙ ap (λ (one : Bool). settled n s desk t (ordered one x (own_of n s desk t out) desk t rest))
        (sym (no _ true (no-stranger n desk s g h) (sym (no-lack n s g))))

    seen : stored ≡ receives (shares_of n desk (places_of n s)) (view n desk s) desk t rest out
    seen = λ i. ordered false (shares-are n desk s g h i) (own-seen n desk s t out i) desk t rest

    pub receive-is : received_at s (sender desk t) rest out
        ≡ settled n s desk t (receives (shares_of n desk (places_of n s)) (view n desk s) desk t rest out)
    receive-is = stored_is ∙ ap (settled n s desk t) seen

    pub receive-own : view n desk (received_at s (sender desk t) rest out).tables
        ≡ seen_after (view n desk s) t (receives (shares_of n desk (places_of n s)) (view n desk s) desk t rest out).own
    receive-own =
        ap (λ (r : Done). view n desk r.tables) stored_is
        ∙ put-own n s desk t out _ g h (receive-left n s desk t false rest out)
        ∙ ap (λ (a : After). seen_after (view n desk s) t a.own) seen

    -- the sample as the call leaves it stands in the table: what is kept is never lost for want of a place
    pub receive-stands : open_at desk t (places_of n (received_at s (sender desk t) rest out).tables)
        ≡ (receives (shares_of n desk (places_of n s)) (view n desk s) desk t rest out).own.place
    receive-stands =
        ap (λ (r : Done). open_at desk t (places_of n r.tables)) stored_is
        ∙ put-stands n s desk t out _ g h (receive-left n s desk t false rest out) ∙ ap (λ (a : After). a.own.place) seen

  pub give-up-is : (time : ℕ) → given_up_at s (name desk time) ≡ returned n s desk time (gives_up (view n desk s) time)
  unfolding given_up_among
  give-up-is time =
      ap (λ (k : ℕ). given_up_among k s desk time) g.head
      ∙ ap (λ (one : Bool). returned n s desk time (yielded one (own_in (view n desk s) (Some time) []) time))
      (sym (no _ true (no-stranger n desk s g h) (sym (no-lack-three n s g))))

  pub give-up-own : (time : ℕ)
      → view n desk (given_up_at s (name desk time)).tables ≡ seen_after (view n desk s) (Some time) (gives_up (view n desk s) time).own
  give-up-own time =
      ap (λ (r : Released). view n desk r.tables) (give-up-is time)
      ∙ put-own n s desk (Some time) [] _ g h (give-up-left n s desk time false)

  pub lookup-is : (index : ℕ) (book : List ℕ) → looked_up s.marks s.stores desk index book
      ≡ shown book (view n desk s).store (newest_of (view n desk s).marks) index
  unfolding looked_up_among short
  lookup-is index book =
      ap (λ (k : ℕ). looked_up_among k s.marks s.stores desk index book) g.head
      ∙ sym (no _ [] (sym (no _ true (no-stranger n desk s g h) (no _ true (ge _ _ g.marks) (sym (ge _ _ g.stores))))) refl)
