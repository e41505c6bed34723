-- A call that leaves the desk's own things as they stood leaves the tables as they stood; and a desk has no sample at an unknown time.
-- Assumes nothing.
use Rattle.std.specs.Prelude.{ℕ, suc, ◌+◌, ◌*◌, ◌≤◌, ◌≡◌, refl, Bool, true, false, cond, List, [], ◌∷◌, ◌++◌, length, get_or, set, drop, None}
use Rattle.std.proofs.Common.{arith, sym, ap, ◌∙◌, true≢false, take-append-drop}
use Rattle.std.proofs.Math.ListN.{get_or-eq_default}
use Rattle.std.proofs.Math.Seq.{set_out}
use Rattle.std.proofs.lemmas.List.{set-get_or}
use Rattle.laws.specs.Rows.{◌⇒◌⁏◌, ◌and◌, ◌=?◌, each, ge-of}
use Rattle.laws.specs.Region.{splice-part}
use Rattle.laws.specs.Table.{seek}
use Rattle.paper.specs.Limits.{head_size, finished_most, marks_each, store_size, places}
use Rattle.paper.specs.Time.{Time}
use Rattle.sample.specs.declared.Place.{Place}
use Rattle.sample.specs.Place.{bare, closed}
use Rattle.desk.specs.Desk.{Own}
use Rattle.memory.specs.Table.{is_at}
use Rattle.memory.specs.Relay.{Tables, tables, places_of, open_at, own_of, stands_at, placed, was_open, is_open, recounted, put_own}
use Rattle.memory.specs.Relay.{put_back}
use Rattle.memory.proofs.Counted.{recounted-same, was-open}

-- ---- no place is at an unknown time
never : (a b : Bool) → (a and b and false) ≡ false
unfolding ◌⇒◌⁏◌
never true true = refl
never true false = refl
never false b = refl

nowhere : (d : ℕ) (l : List Place) → seek (is_at d None) l ≡ length l
nowhere d [] = refl
nowhere d (y ∷ l) = ap (λ (b : Bool). cond b 0 (suc (seek (is_at d None) l))) (never y.used (y.desk =? d)) ∙ ap suc (nowhere d l)

pub open_unknown : (d : ℕ) (l : List Place) → open_at d None l ≡ closed
open_unknown d l = get_or-eq_default l closed (omega (arith, nowhere d l))

-- ---- the desk's sample put back where it stood changes nothing
pub placed-open : (d : ℕ) (t : Time) (l : List Place) → placed d t (open_at d t l) l ≡ l
unfolding stands_at bare
placed-open d t l =
    each (λ (i : ℕ). set l i (open_at d t l) ≡ l) _ _ _ (λ h. set-get_or l (seek (is_at d t) l) closed)
    (λ h. each (λ (i : ℕ). set l i (open_at d t l) ≡ l) _ _ _ (λ u. absurd (true≢false (sym u ∙ free (ge-of _ _ h))))
    (λ u. set_out l (length l) (open_at d t l) (omega arith)))
  where
    free : length l ≤ seek (is_at d t) l → (open_at d t l).used ≡ false
    free h = ap (λ (y : Place). y.used) (get_or-eq_default l closed h)

-- and it is open where it was
pub still_open : (d : ℕ) (t : Time) (l : List Place) → is_open d t (open_at d t l) l ≡ was_open d t l
still_open d t l =
    ap (λ (k : List Place). (get_or k (stands_at d t (open_at d t l) l) closed).used) (placed-open d t l) ∙ was-open d t l (open_at d t l)

-- own things with the desk's sample as it stood: put back, they leave the places, and nothing is counted, whatever time's sample that is
module _ (n : ℕ) (s : Tables) (desk : ℕ) (t : Time) where
  all_stay : placed desk t (open_at desk t (places_of n s)) (places_of n s) ++ drop (places n) s.places ≡ s.places
  all_stay =
      ap (λ (l : List Place). l ++ drop (places n) s.places) (placed-open desk t (places_of n s))
      ∙ take-append-drop (places n) s.places

  pub put-still : (o : Own) → o.place ≡ open_at desk t (places_of n s)
      → let r = put_own n s desk t o in put_back n s desk t o ≡ tables s.places r.rows r.marks r.stores
  put-still o e =
      let l = places_of n s in
      let r = put_own n s desk t o in
      let w = was_open desk t l in
      ap (λ (p : Place). tables (placed desk t p l ++ drop (places n) s.places) r.rows
      (recounted desk w (is_open desk t p l) r.marks) r.stores) e
      ∙ (λ i. tables (all_stay i) r.rows (recounted desk w (still_open desk t l i) r.marks) r.stores)
      ∙ ap (λ (m : List ℕ). tables s.places r.rows m r.stores) (recounted-same desk w r.marks)

  pub own_same : (out : List ℕ) → put_own n s desk t (own_of n s desk t out) ≡ s
  own_same out = λ i. record {
    places = all_stay i;
    rows = splice-part (finished_most * desk) finished_most s.rows i;
    marks = splice-part (head_size + marks_each * desk) marks_each s.marks i;
    stores = splice-part (store_size * desk) store_size s.stores i;
  }

  pub put_same : (out : List ℕ) → put_back n s desk t (own_of n s desk t out) ≡ s
  put_same out =
      put-still (own_of n s desk t out) refl
      ∙ ap (λ (r : Tables). tables s.places r.rows r.marks r.stores) (own_same out)
