-- Good tables: n is in their head, and with it the numbers that a walk over the places finds; they are long enough for n desks, with fair
-- places, each of them as its parts made it, and of each open sample the text that is kept is well-formed. Set-up makes them and every call
-- keeps them, whatever it is handed. Assumes nothing.
use Rattle.memory.specs.Started.{Ready}
use Rattle.std.specs.Prelude.{ℕ, zero, suc, ◌+◌, ◌*◌, ◌≤◌, ◌<◌, ◌≡◌, refl, Bool, not, List, [], ◌∷◌, ◌++◌, length, take, drop, get_or, set, replicate, Some, Err}
use Rattle.std.proofs.Common.{arith, sym, ap, ◌∙◌, length-append, length-set, length-take-le, take_at, get_or-take}
use Rattle.std.proofs.Math.Path.{subst}
use Rattle.std.proofs.Math.Bool.{true, false}
use Rattle.std.proofs.lemmas.List.{length-replicate, get_or-replicate}
use Rattle.std.proofs.Math.ListN.{get_or-append}
use Rattle.std.proofs.lemmas.List.Edits.{sets, sets-eq}
use Rattle.std.proofs.Math.Seq.{length-sets}
use Rattle.laws.specs.Rows.{◌⇒◌⁏◌, ◌or◌, no, lt, ge, ne, lt_of, ge-of, ne_of, or-none, not-of}
use Rattle.laws.specs.Exactly.{Exactly}
use Rattle.laws.specs.Region.{splice, length-cell}
use Rattle.laws.specs.Table.{seek}
use Rattle.paper.specs.Limits.{head_size, desks_at, common_at, opens_at, finished_most, desks_most, marks_each, store_size}
use Rattle.paper.specs.Limits.{places, rows_need, marks_need, stores_need}
use Rattle.paper.specs.declared.Refusal.TheVariants as R
use Rattle.paper.specs.declared.Name.{Name}
use Rattle.paper.specs.declared.Sender.{Sender}
use Rattle.paper.specs.Time.{Time}
use Rattle.sample.specs.declared.Place.{Place}
use Rattle.sample.specs.Place.{closed}
use Rattle.sample.specs.Text.{Sane, closed-sane}
use Rattle.desk.specs.Desk.{Own}
use Rattle.memory.specs.Table.{vacant}
use Rattle.memory.specs.Relay.{Tables, desks_of, places_of, open_at, own_of, shares_of, common_of, opens_of, stored_shares}
use Rattle.memory.specs.Relay.{stands_at, placed, put_back, improper, stranger, short, lacks_three, lacking}
use Rattle.memory.specs.Relay.{Prepared, prepared, own_marks, fresh_marks, fresh_tables, set_up, ordered, yielded}
use Rattle.memory.specs.Relay.{received_among, sender, received_at, given_up_among, given_up_at}
use Rattle.memory.proofs.Back.{put_same}
use Rattle.good.specs.Cells.{Cells, behind, front, cells-behind, length_front, cells-front}
use Rattle.good.specs.Places.{open-named, is-used, Moved, moved}
use Rattle.good.specs.Fair.{Fair, Passed, room, none-mine, none-common, fair-closed, fair-moved}
use Rattle.good.specs.Counts.{recounted-length, recounted-desks, recounted-behind, Stored, stored_moved}
use Rattle.good.specs.Leaves.{Leaves, ordered-leaves, yielded-leaves}

-- a desk's sample of a time, as give-up is told it
abbrev pub name : (desk time : ℕ) → Name
name desk time = record { desk = desk; time = time }

-- a place as its parts made it, each TYPE 2 part well-formed in its U; a free one is the closed record
pub record Well (p : Place) : Type 0 where
  pub sane : Sane p
  pub free : p.used ≡ false → p ≡ closed

pub record Good (n : ℕ) (s : Tables) : Type 0 where
  pub from : 1 ≤ n
  pub to : n ≤ desks_most
  pub head : desks_of s.marks ≡ n
  pub places : places n ≤ length s.places
  pub rows : rows_need n ≤ length s.rows
  pub marks : marks_need n ≤ length s.marks
  pub stores : stores_need n ≤ length s.stores
  pub fair : Fair n (places_of n s)
  pub well : (i : ℕ) → Well (get_or (places_of n s) i closed)
  pub stored : Stored n (places_of n s) s.marks

-- so a call takes the shares from the head as a walk would find them
pub shares-are : (n desk : ℕ) (s : Tables) → Good n s → desk < n → stored_shares n desk s.marks ≡ shares_of n desk (places_of n s)
shares-are n desk s g h = λ i. record { opens = g.stored.opens desk (omega (arith, g.to)) i; common = g.stored.common i; desks = n }

-- ---- refusal 1: what it lets through, and that it lets every desk of good tables through
pub below : (n desk : ℕ) → stranger n desk ≡ false → desk < n
unfolding stranger
below n desk e = lt_of _ _ (not-of _ (or-none _ _ e).1)

pub no-stranger : (n desk : ℕ) (s : Tables) → Good n s → desk < n → stranger n desk ≡ false
unfolding stranger improper
no-stranger n desk s g h =
    sym (no _ true (sym (no _ true (ne _ _ (λ e. omega (arith, g.from))) (sym (ge _ _ g.to)))) (sym (ap not (lt _ _ h))))

pub no-lack-three : (n : ℕ) (s : Tables) → Good n s → lacks_three n (length s.places) (length s.rows) (length s.marks) ≡ false
unfolding short
no-lack-three n s g = sym (no _ true (ge _ _ g.places) (no _ true (ge _ _ g.rows) (sym (ge _ _ g.marks))))

pub no-lack : (n : ℕ) (s : Tables) → Good n s → lacking n s ≡ false
unfolding short
no-lack n s g = sym (no _ true (no-lack-three n s g) (sym (ge _ _ g.stores)))

-- ---- set-up: it is ready exactly if n is 1 to 8 and all that is lent is long enough
pub ready-exactly : (n : ℕ) (s : Tables) → Exactly ((set_up n s).answer ≡ Ready) ((improper n or lacking n s) ≡ false)
unfolding set_up ◌⇒◌⁏◌
ready-exactly n s = (go (improper n or lacking n s), λ e. rw e)
  where
    go : (b : Bool) → (b ⇒ prepared s (Err R.Desk) ⁏ prepared (fresh_tables n s) Ready).answer ≡ Ready → b ≡ false
    go true q = let z : ◌≡◌ {A = ℕ} 0 1 = cc in absurd (omega arith)
    go false q = refl

pub all_closed : (n : ℕ) (l : List Place) → n ≤ length l → take n (sets l 0 (replicate n closed)) ≡ replicate n closed
all_closed n l h =
    let k = length-replicate n closed in
    ap (take n) (sets-eq (replicate n closed) l 0 (omega arith)) ∙ take_at (replicate n closed) _ n k

pub none_open : (k i : ℕ) → get_or (replicate k closed) i closed ≡ closed
none_open zero i = refl
none_open (suc k) zero = refl
none_open (suc k) (suc i) = none_open k i

own-length : (n : ℕ) → length (own_marks n) ≡ marks_each * n
unfolding own_marks
own-length zero = refl
own-length (suc n) = omega (arith, own-length n)

pub fresh-length : (n : ℕ) → length (fresh_marks n) ≡ marks_need n
fresh-length n = omega (arith, own-length n)

-- no sample is counted in fresh marks
fresh-opens : (n : ℕ) (more : List ℕ) (e : ℕ) → e < desks_most → opens_of e (fresh_marks n ++ more) ≡ 0
fresh-opens n more e h =
    let q : opens_at + e ≡ suc (suc e) = omega arith in
    rw q
    (get_or-append (replicate desks_most 0 ++ own_marks n) more 0 e (simp length-append (omega arith))
    ∙ get_or-append (replicate desks_most 0) (own_marks n) 0 e h ∙ get_or-replicate desks_most e 0 0 h)

pub set-up-good : (n : ℕ) (s : Tables) → (set_up n s).answer ≡ Ready → Good n (set_up n s).tables
unfolding set_up improper short
set-up-good n s q =
    let e = (ready-exactly n s).0 q in
    let a = or-none _ _ e in
    let b = or-none _ _ a.0 in
    let c = or-none _ _ a.1 in
    let three = or-none _ _ c.0 in
    let two = or-none _ _ three.1 in
    let z : n ≡ 0 → ⊥ = ne_of _ _ b.0 in
    let p : places n ≤ length s.places = ge-of _ _ three.0 in
    let m : marks_need n ≤ length s.marks = ge-of _ _ two.1 in
    let fresh = sets-eq (fresh_marks n) s.marks 0 (omega (arith, fresh-length n)) in
    subst (λ (m : Prepared). Good n m.tables) (no _ _ e refl)
    (record {
      from = omega arith;
      to = ge-of _ _ b.1;
      head = ap desks_of fresh;
      places = omega (arith, length-sets s.places 0 (replicate (places n) closed));
      rows = omega (arith, ge-of _ _ two.0, length-sets s.rows 0 (replicate (rows_need n) 0));
      marks = omega (arith, length-sets s.marks 0 (fresh_marks n));
      stores = omega (arith, ge-of _ _ c.1, length-sets s.stores 0 (replicate (stores_need n) 0));
      fair = rw (all_closed (places n) s.places p) (fair-closed n (places n));
      well = λ i. rw (all_closed (places n) s.places p, none_open (places n) i) (record { sane = closed-sane; free = λ u. refl });
      stored = record {
        opens = λ e h. ap (opens_of e) fresh ∙ fresh-opens n _ e h ∙ sym (rw (all_closed (places n) s.places p) (none-mine e (places n)));
        common = ap common_of fresh ∙ sym (rw (all_closed (places n) s.places p) (none-common n (places n)));
      };
    })

-- one place more, as its parts made it
well-set : (l : List Place) (i : ℕ) (p : Place) → ((j : ℕ) → Well (get_or l j closed)) → Well p → (j : ℕ) → Well (get_or (set l i p) j closed)
well-set [] i p h w j = h j
well-set (y ∷ l) zero p h w zero = w
well-set (y ∷ l) zero p h w (suc j) = h (suc j)
well-set (y ∷ l) (suc i) p h w zero = h 0
well-set (y ∷ l) (suc i) p h w (suc j) = well-set l i p (λ j. h (suc j)) w j

-- ---- what a desk's call leaves, put back
-- it fits: in the table nothing but the desk's sample of that time changes, and in each list nothing but the desk's cell; and behind their
-- head the marks are as if nothing were counted
pub record Fits (n : ℕ) (s : Tables) (desk : ℕ) (t : Time) (o : Own) : Type 0 where
  pub moved : Moved desk t o.place (places_of n s) (places_of n (put_back n s desk t o))
  pub places : length (placed desk t o.place (places_of n s)) ≡ places n
  pub rows : Cells front finished_most n desk s.rows o.row
  pub marks : Cells (behind head_size) marks_each n desk s.marks o.marks
  pub stores : Cells front store_size n desk s.stores o.store
  pub counted : (b : ℕ) → head_size ≤ b
      → drop b (put_back n s desk t o).marks ≡ drop b (splice (head_size + marks_each * desk) marks_each o.marks s.marks)

module _ (n : ℕ) (s : Tables) (desk : ℕ) (t : Time) where
  -- o is what a call with this output may leave of the desk's own things
  abbrev pub Left : (out : List ℕ) → Own → Type 0
  Left out o = Leaves (stored_shares n desk s.marks) (own_of n s desk t out) desk t o

  module _ (out : List ℕ) (o : Own) (g : Good n s) (h : desk < n) (k : Left out o) where
    -- a new one is let through by what a walk finds
    walked : o.place.used ≡ true → (open_at desk t (places_of n s)).used ≡ false → Passed (shares_of n desk (places_of n s))
    walked u f = subst Passed (shares-are n desk s g h) (k.new u f)

    found : o.place.used ≡ true → (open_at desk t (places_of n s)).used ≡ false → seek vacant (places_of n s) < length (places_of n s)
    found u f = room n desk (places_of n s) g.fair (walked u f) (length-take-le (places n) s.places g.places) h

    pub fits : Fits n s desk t o
    fits =
        let l = length-take-le (places n) s.places g.places in
        let p = length-set (places_of n s) (stands_at desk t o.place (places_of n s)) o.place ∙ l in
        record {
          moved =
              rw (take_at (placed desk t o.place (places_of n s)) (drop (places n) s.places) (places n) p)
              (moved desk t o.place (places_of n s) k.named found);
          places = p;
          rows =
              cells-front finished_most n desk s.rows g.rows h o.row
              (k.row ∙ length_front finished_most n desk s.rows g.rows h);
          marks =
              cells-behind head_size marks_each n desk s.marks g.marks h o.marks
              (k.marks ∙ length-cell head_size marks_each n desk s.marks g.marks h);
          stores =
              cells-front store_size n desk s.stores g.stores h o.store
              (k.store ∙ length_front store_size n desk s.stores g.stores h);
          counted = recounted-behind desk _ _ _ (omega (arith, g.to));
        }

    -- ---- what is counted
    abbrev spliced : List ℕ
    spliced = splice (head_size + marks_each * desk) marks_each o.marks s.marks

    -- before it the head is as it stood
    head-stays : (i : ℕ) → i < head_size → get_or spliced i 0 ≡ get_or s.marks i 0
    head-stays i q =
        sym (get_or-take head_size spliced i 0 q) ∙ ap (λ (l : List ℕ). get_or l i 0) fits.marks.before ∙ get_or-take head_size s.marks i 0 q

    put-stored : Stored n (places_of n (put_back n s desk t o)) (put_back n s desk t o).marks
    put-stored =
        stored_moved n desk t o.place (places_of n s) _ g.to g.fair h fits.moved _ _
        refl (is-used desk t o.place (places_of n s) k.named found)
        spliced (omega (arith, g.marks, fits.marks.long))
        (record {
          opens = λ e q. head-stays (opens_at + e) (omega arith) ∙ g.stored.opens e q;
          common = head-stays common_at (omega arith) ∙ g.stored.common;
        })

    put-good : Good n (put_back n s desk t o)
    put-good = record {
      from = g.from;
      to = g.to;
      head = recounted-desks desk _ _ spliced ∙ head-stays desks_at (omega arith) ∙ g.head;
      places = omega (arith, length-append (placed desk t o.place (places_of n s)) (drop (places n) s.places), fits.places);
      rows = omega (arith, g.rows, fits.rows.long);
      marks = subst (λ (k : ℕ). marks_need n ≤ k) (sym (recounted-length desk _ _ spliced ∙ fits.marks.long)) g.marks;
      stores = omega (arith, g.stores, fits.stores.long);
      fair = fair-moved n desk t o.place (places_of n s) _ g.fair h fits.moved walked;
      well =
          rw (take_at (placed desk t o.place (places_of n s)) (drop (places n) s.places) (places n) fits.places)
          (well-set (places_of n s) (stands_at desk t o.place (places_of n s)) o.place g.well
          (record { sane = k.sane (g.well _).sane; free = k.named.free }));
      stored = put-stored;
    }

  pub receive-left : (one : Bool) (rest out : List ℕ)
      → Left out (ordered one (stored_shares n desk s.marks) (own_of n s desk t out) desk t rest).own
  receive-left one rest out = ordered-leaves _ (own_of n s desk t out) desk t (open-named desk t (places_of n s)) one rest

pub give-up-left : (n : ℕ) (s : Tables) (desk time : ℕ) (one : Bool)
    → Left n s desk (Some time) [] (yielded one (own_of n s desk (Some time) []) time).own
give-up-left n s desk time one =
    yielded-leaves _ (own_of n s desk (Some time) []) desk (Some time) (open-named desk (Some time) (places_of n s)) one time

-- what holds of the tables, and of them with what a call may leave put back, holds after every call
module _ (n : ℕ) (s : Tables) (desk : ℕ) (head : desks_of s.marks ≡ n) (P : Tables → Type 0) (same : P s) where
  pub receive-each : (t : Time) (rest out : List ℕ) → (desk < n → (o : Own) → Left n s desk t out o → P (put_back n s desk t o))
      → P (received_at s (sender desk t) rest out).tables
  unfolding received_among ordered ◌⇒◌⁏◌
  receive-each t rest out put =
      subst (λ (k : ℕ). P (received_among k s desk t rest out).tables) (sym head) (go (stranger n desk or lacking n s) refl)
    where
      go : (one : Bool) → (stranger n desk or lacking n s) ≡ one
          → P (put_back n s desk t (ordered one (stored_shares n desk s.marks) (own_of n s desk t out) desk t rest).own)
      go true e = subst P (sym (put_same n s desk t out)) same
      go false e = put (below n desk (or-none _ _ e).0) _ (receive-left n s desk t false rest out)

  pub give-up-each : (time : ℕ) → (desk < n → (o : Own) → Left n s desk (Some time) [] o → P (put_back n s desk (Some time) o))
      → P (given_up_at s (name desk time)).tables
  unfolding given_up_among yielded ◌⇒◌⁏◌
  give-up-each time put =
      subst (λ (k : ℕ). P (given_up_among k s desk time).tables) (sym head)
      (go (stranger n desk or lacks_three n (length s.places) (length s.rows) (length s.marks)) refl)
    where
      go : (one : Bool) → (stranger n desk or lacks_three n (length s.places) (length s.rows) (length s.marks)) ≡ one
          → P (put_back n s desk (Some time) (yielded one (own_of n s desk (Some time) []) time).own)
      go true e = subst P (sym (put_same n s desk (Some time) [])) same
      go false e = put (below n desk (or-none _ _ e).0) _ (give-up-left n s desk time false)

-- ---- every call keeps good tables good
module _ (n : ℕ) (s : Tables) (g : Good n s) where
  pub receive-good : (who : Sender) (rest out : List ℕ) → Good n (received_at s who rest out).tables
  receive-good who rest out =
      receive-each n s who.desk g.head (Good n) g who.time rest out (λ h o k. put-good n s who.desk who.time out o g h k)

  pub give-up-good : (who : Name) → Good n (given_up_at s who).tables
  give-up-good who =
      give-up-each n s who.desk g.head (Good n) g who.time (λ h o k. put-good n s who.desk (Some who.time) [] o g h k)
