-- The relay that walks: as it was before the numbers were stored, a call counts the desk's open samples and the common use by a walk over
-- the places, and puts no number down. In good tables every call is answered as it answers it, and leaves all that it leaves; but for the
-- numbers. Assumes nothing.
use Rattle.std.specs.Prelude.{ℕ, ◌+◌, ◌*◌, ◌≤◌, ◌<◌, ◌≡◌, refl, Bool, true, false, List, [], ◌∷◌, ◌++◌, length, take, drop, Some}
use Rattle.std.proofs.Common.{arith, sym, ap, ◌∙◌, append_assoc, length-append, length-take-le, drop_at, drop-drop, take-add}
use Rattle.std.proofs.Math.Path.{subst}
use Rattle.laws.specs.Rows.{◌⇒◌⁏◌, ◌or◌, or-none}
use Rattle.laws.specs.Region.{splice}
use Rattle.paper.specs.Limits.{finished_most, marks_each, store_size, head_size, places, marks_need, stores_need}
use Rattle.paper.specs.declared.Name.{Name}
use Rattle.paper.specs.declared.Sender.{Sender}
use Rattle.paper.specs.Time.{Time}
use Rattle.sample.specs.declared.Place.{Place}
use Rattle.style.specs.Shown.{shown}
use Rattle.desk.specs.Desk.{Own, After, Given, own, newest_of}
use Rattle.memory.specs.Relay.{Tables, desks_of, places_of, row_of, marks_of, store_of, open_at, own_of, shares_of, stored_shares}
use Rattle.memory.specs.Relay.{placed, was_open, is_open, put_own, put_back, stranger, short, lacks_three, lacks, lacking, ordered}
use Rattle.memory.specs.Relay.{settled, received_among, received_at, yielded, returned}
use Rattle.memory.specs.Relay.{given_up_among, given_up_at, looked_up_among, looked_up}
use Rattle.memory.proofs.Back.{own_same, put_same}
use Rattle.good.specs.Counts.{recounted-length, recounted-desks, recounted-behind}
use Rattle.good.specs.Good.{Good, shares-are, below}
use Rattle.good.specs.Walked.{walked_settled, walked_among, walked_at, walked_returned, walked_given_up_among, walked_given_up, Alike, AsWalked, GivenUpAsWalked}

pub itself : (s : Tables) → Alike s s
itself s = record { places = refl; rows = refl; stores = refl; desks = refl; long = refl; behind = refl }

-- what is put back into the marks, k numbers from m on behind their head, leaves the head, and behind it the same whatever the head is
module _ (m k : ℕ) (ys l : List ℕ) where
  abbrev behind : List ℕ
  behind = splice m k ys (drop head_size l)

  splice-behind : splice (head_size + m) k ys l ≡ take head_size l ++ behind
  splice-behind =
      ap (λ (x : List ℕ). x ++ (ys ++ drop k (drop (head_size + m) l))) (take-add head_size m l)
      ∙ ap (λ (x : List ℕ). (take head_size l ++ take m (drop head_size l)) ++ (ys ++ drop k x)) (sym (drop-drop m head_size l))
      ∙ append_assoc (take head_size l) (take m (drop head_size l)) _

  module _ (h : head_size ≤ length l) where
    splice-desks : desks_of (splice (head_size + m) k ys l) ≡ desks_of l
    splice-desks = ap desks_of splice-behind ∙ first l behind h
      where
        first : (l z : List ℕ) → head_size ≤ length l → desks_of (take head_size l ++ z) ≡ desks_of l
        first [] z h = absurd (omega arith)
        first (x ∷ xs) z h = refl

    splice-length : length (splice (head_size + m) k ys l) ≡ head_size + length behind
    splice-length =
        ap (λ (x : List ℕ). length x) splice-behind
        ∙ omega (arith, length-append (take head_size l) behind, length-take-le head_size l h)

    splice-drop : drop head_size (splice (head_size + m) k ys l) ≡ behind
    splice-drop = ap (drop head_size) splice-behind ∙ drop_at (take head_size l) behind head_size (length-take-le head_size l h)

-- ---- what of tables that are alike is read is the same, but for the numbers
marks-alike : (s r : Tables) → Alike s r → (desk : ℕ) → marks_of desk s.marks ≡ marks_of desk r.marks
marks-alike s r a desk =
    let m = marks_each * desk in
    ap (take marks_each) (sym (drop-drop m head_size s.marks) ∙ ap (drop m) a.behind ∙ drop-drop m head_size r.marks)

pub lookup-alike : (s r : Tables) → Alike s r → (desk index : ℕ) (book : List ℕ)
    → looked_up s.marks s.stores desk index book ≡ looked_up r.marks r.stores desk index book
unfolding looked_up_among
lookup-alike s r a desk index book =
    let n = desks_of r.marks in
    ap (λ (k : ℕ). looked_up_among k s.marks s.stores desk index book) a.desks
    ∙ (λ i.
    stranger n desk or short (marks_need n) (a.long i) or short (stores_need n) (length (a.stores i)) ⇒ []
    ⁏ shown book (store_of desk (a.stores i)) (newest_of (marks-alike s r a desk i)) index)

-- ---- a call of good tables, and one of the relay that walks in tables like them
module _ (n : ℕ) (s r : Tables) (g : Good n s) (a : Alike s r) (desk : ℕ) (t : Time) where
  own-alike : (out : List ℕ) → own_of n s desk t out ≡ own_of n r desk t out
  own-alike out = λ i.
      own (open_at desk t (take (places n) (a.places i))) (row_of desk (a.rows i)) (marks-alike s r a desk i)
      (store_of desk (a.stores i)) out

  shares_alike : desk < n → stored_shares n desk s.marks ≡ shares_of n desk (places_of n r)
  shares_alike h = shares-are n desk s g h ∙ ap (λ (l : List Place). shares_of n desk (take (places n) l)) a.places

  -- what it leaves, put back
  put-alike : desk < n → (o : Own) → Alike (put_back n s desk t o) (put_own n r desk t o)
  put-alike h o =
      let m = marks_each * desk in
      let l : head_size ≤ length s.marks = omega (arith, g.marks) in
      let k : head_size ≤ length r.marks = omega (arith, a.long) in
      let put : List ℕ → List ℕ = splice m marks_each o.marks in
      let was = was_open desk t (places_of n s) in
      let is = is_open desk t o.place (places_of n s) in
      let back = splice (head_size + m) marks_each o.marks s.marks in
      record {
        places = ap (λ (l : List Place). placed desk t o.place (take (places n) l) ++ drop (places n) l) a.places;
        rows = ap (splice (finished_most * desk) finished_most o.row) a.rows;
        stores = ap (splice (store_size * desk) store_size o.store) a.stores;
        desks =
            recounted-desks desk was is back ∙ splice-desks m marks_each o.marks s.marks l ∙ a.desks
            ∙ sym (splice-desks m marks_each o.marks r.marks k);
        long =
            recounted-length desk was is back ∙ splice-length m marks_each o.marks s.marks l
            ∙ ap (λ (x : List ℕ). head_size + length (put x)) a.behind ∙ sym (splice-length m marks_each o.marks r.marks k);
        behind =
            recounted-behind desk was is back (omega (arith, g.to)) head_size (omega arith)
            ∙ splice-drop m marks_each o.marks s.marks l ∙ ap put a.behind ∙ sym (splice-drop m marks_each o.marks r.marks k);
      }

  -- or nothing left but what stood
  still_alike : (out : List ℕ) → Alike (put_back n s desk t (own_of n s desk t out)) (put_own n r desk t (own_of n r desk t out))
  still_alike out = rw (put_same n s desk t out, own_same n r desk t out) a

  receive-among : (rest out : List ℕ) → AsWalked (received_among n s desk t rest out) (walked_among n r desk t rest out)
  unfolding received_among walked_among ordered ◌⇒◌⁏◌
  receive-among rest out =
      subst
      (λ (w : Bool). AsWalked (received_among n s desk t rest out)
      (walked_settled n r desk t (ordered (stranger n desk or w) (shares_of n desk (places_of n r)) (own_of n r desk t out) desk t rest)))
      lack (go (stranger n desk or lacking n s) refl)
    where
      lack : lacking n s ≡ lacking n r
      lack = λ i. lacks n (length (a.places i)) (length (a.rows i)) (a.long i) (length (a.stores i))

      go : (one : Bool) → (stranger n desk or lacking n s) ≡ one
          → AsWalked (settled n s desk t (ordered one (stored_shares n desk s.marks) (own_of n s desk t out) desk t rest))
          (walked_settled n r desk t (ordered one (shares_of n desk (places_of n r)) (own_of n r desk t out) desk t rest))
      go true e = record { answer = refl; out = refl; tables = still_alike out }
      go false e =
          let h = below n desk (or-none _ _ e).0 in
          let stored = ordered false (stored_shares n desk s.marks) (own_of n s desk t out) desk t rest in
          let walked = ordered false (shares_of n desk (places_of n r)) (own_of n r desk t out) desk t rest in
          let q : stored ≡ walked = (λ i. ordered false (shares_alike h i) (own-alike out i) desk t rest) in
          record {
            answer = ap (λ (x : After). x.answer) q;
            out = ap (λ (x : After). x.own.out) q;
            tables =
                subst (λ (x : After). Alike (put_back n s desk t stored.own) (put_own n r desk t x.own)) q
                (put-alike h stored.own);
          }

-- and a give-up, at the time of its sample
module _ (n : ℕ) (s r : Tables) (g : Good n s) (a : Alike s r) (desk time : ℕ) where
  give-up-among : GivenUpAsWalked (given_up_among n s desk time) (walked_given_up_among n r desk time)
  unfolding given_up_among walked_given_up_among yielded ◌⇒◌⁏◌
  give-up-among =
      subst
      (λ (w : Bool). GivenUpAsWalked (given_up_among n s desk time)
      (walked_returned n r desk time (yielded (stranger n desk or w) (own_of n r desk (Some time) []) time)))
      lack (go (stranger n desk or lacks_three n (length s.places) (length s.rows) (length s.marks)) refl)
    where
      lack : lacks_three n (length s.places) (length s.rows) (length s.marks)
          ≡ lacks_three n (length r.places) (length r.rows) (length r.marks)
      lack = λ i. lacks_three n (length (a.places i)) (length (a.rows i)) (a.long i)

      go : (one : Bool) → (stranger n desk or lacks_three n (length s.places) (length s.rows) (length s.marks)) ≡ one
          → GivenUpAsWalked (returned n s desk time (yielded one (own_of n s desk (Some time) []) time))
          (walked_returned n r desk time (yielded one (own_of n r desk (Some time) []) time))
      go true e = record { answer = refl; tables = still_alike n s r g a desk (Some time) [] }
      go false e =
          let stored = yielded false (own_of n s desk (Some time) []) time in
          let q = ap (λ (o : Own). yielded false o time) (own-alike n s r g a desk (Some time) []) in
          record {
            answer = ap (λ (x : Given). x.answer) q;
            tables =
                subst (λ (x : Given). Alike (put_back n s desk (Some time) stored.own) (put_own n r desk (Some time) x.own)) q
                (put-alike n s r g a desk (Some time) (below n desk (or-none _ _ e).0) stored.own);
          }

-- the number of desks is read in the head
module _ (n : ℕ) (s r : Tables) (g : Good n s) (a : Alike s r) where
  heads : (desks_of s.marks ≡ n) × (desks_of r.marks ≡ n)
  heads = (g.head, sym a.desks ∙ g.head)

  pub receive-alike : (who : Sender) (rest out : List ℕ) → AsWalked (received_at s who rest out) (walked_at r who rest out)
  receive-alike who rest out =
      subst (λ (k : ℕ). AsWalked (received_among k s who.desk who.time rest out) (walked_at r who rest out)) (sym heads.0)
      (subst (λ (k : ℕ). AsWalked (received_among n s who.desk who.time rest out) (walked_among k r who.desk who.time rest out))
      (sym heads.1) (receive-among n s r g a who.desk who.time rest out))

  pub give-up-alike : (who : Name) → GivenUpAsWalked (given_up_at s who) (walked_given_up r who)
  give-up-alike who =
      subst (λ (k : ℕ). GivenUpAsWalked (given_up_among k s who.desk who.time) (walked_given_up r who)) (sym heads.0)
      (subst (λ (k : ℕ). GivenUpAsWalked (given_up_among n s who.desk who.time) (walked_given_up_among k r who.desk who.time))
      (sym heads.1) (give-up-among n s r g a who.desk who.time))

-- ---- in the same good tables
pub as-walked : (n : ℕ) (s : Tables) → Good n s → (who : Sender) (rest out : List ℕ)
    → AsWalked (received_at s who rest out) (walked_at s who rest out)
as-walked n s g = receive-alike n s s g (itself s)

pub give-up-as-walked : (n : ℕ) (s : Tables) → Good n s → (who : Name) → GivenUpAsWalked (given_up_at s who) (walked_given_up s who)
give-up-as-walked n s g = give-up-alike n s s g (itself s)
