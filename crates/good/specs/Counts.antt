-- The numbers in the head of the marks are what a walk over the places finds: what a call puts down there is what a walk finds after it,
-- if what stood there is what a walk found; and all else of the marks stays. Assumes nothing.
use Rattle.std.specs.Prelude.{ℕ, ◌+◌, ◌-◌, ◌≤◌, ◌<◌, ◌≡◌, Bool, true, false, not, ◌≢◌, List, length, drop, get_or, set}
use Rattle.std.proofs.Math.Decide.{ℕ_discrete}
use Rattle.std.proofs.Common.{arith, sym, ap, subst, ◌∙◌, length-set, get_or-set_same, get_or-set_other, drop-set-lt}
use Rattle.laws.specs.Rows.{◌⇒◌⁏◌, each, lt, lt_of, ge-of}
use Rattle.laws.specs.Table.{bit, count}
use Rattle.paper.specs.Limits.{desks_most, own_places, head_size, desks_at, common_at, opens_at, mark_most}
use Rattle.paper.specs.Time.{Time}
use Rattle.sample.specs.declared.Place.{Place}
use Rattle.memory.specs.Table.{mine}
use Rattle.memory.specs.Relay.{desks_of, open_at, common_use, common_of, opens_of, stepped, common_stepped, recounted}
use Rattle.good.specs.Places.{Moved}
use Rattle.good.specs.Fair.{Fair, common-moved}

-- of each of eight desks how many samples it has open, and the common use of n desks
pub record Stored (n : ℕ) (l : List Place) (marks : List ℕ) : Type 0 where
  pub opens : (e : ℕ) → e < desks_most → opens_of e marks ≡ count (mine e) l
  pub common : common_of marks ≡ common_use n l

-- ---- one number, k before and j after
stepped-is : (was is : Bool) (k j : ℕ) → j + bit was ≡ k + bit is → k < mark_most → stepped was is k ≡ j
unfolding stepped ◌⇒◌⁏◌
stepped-is true true k j e h = omega arith
stepped-is true false k j e h = omega arith
stepped-is false true k j e h = rw (lt k mark_most h) (omega arith)
stepped-is false false k j e h = omega arith

-- the common use, k before and j after, where the desk has a open before and b after
module _ (a b k j : ℕ) (gap : j + (a - own_places) ≡ k + (b - own_places)) (h : k < mark_most) where
  by : (was is : Bool) → (own_places < a + bit (not was) → j + bit was ≡ k + bit is) → (a + bit (not was) ≤ own_places → k ≡ j)
      → common_stepped was is a k ≡ j
  unfolding common_stepped
  by was is more few = each (λ (x : ℕ). x ≡ j) _ _ _ (λ q. stepped-is was is k j (more (lt_of _ _ q)) h) (λ q. few (ge-of _ _ q))

  common-is : (was is : Bool) → b + bit was ≡ a + bit is → common_stepped was is a k ≡ j
  common-is true true e = by true true (λ q. omega arith) (λ q. omega arith)
  common-is true false e = by true false (λ q. omega arith) (λ q. omega arith)
  common-is false true e = by false true (λ q. omega arith) (λ q. omega arith)
  common-is false false e = by false false (λ q. omega arith) (λ q. omega arith)

-- ---- what is put down, and what stays
module _ (desk : ℕ) (was is : Bool) (l : List ℕ) where
  abbrev opens : ℕ
  opens = stepped was is (opens_of desk l)

  abbrev common : ℕ
  common = common_stepped was is (opens_of desk l) (common_of l)

  -- with the first of the two, and with both
  abbrev one : List ℕ
  one = set l (opens_at + desk) opens

  abbrev both : List ℕ
  both = recounted desk was is l

  pub recounted-length : length both ≡ length l
  recounted-length = length-set one common_at common ∙ length-set l (opens_at + desk) opens

  stays : (i : ℕ) → i ≢ opens_at + desk → i ≢ common_at → get_or both i 0 ≡ get_or l i 0
  stays i a b = get_or-set_other one common_at i common 0 b ∙ get_or-set_other l (opens_at + desk) i opens 0 a

  pub recounted-desks : desks_of both ≡ desks_of l
  recounted-desks = stays desks_at (λ e. omega arith) (λ e. omega arith)

  recounted-others : (e : ℕ) → e ≢ desk → opens_of e both ≡ opens_of e l
  recounted-others e q = stays (opens_at + e) (λ k. q (omega arith)) (λ k. omega arith)

  module _ (h : desk < desks_most) where
    pub recounted-behind : (b : ℕ) → head_size ≤ b → drop b both ≡ drop b l
    recounted-behind b k = drop-set-lt b one common_at common (omega arith) ∙ drop-set-lt b l (opens_at + desk) opens (omega arith)

    module _ (long : head_size ≤ length l) where
      recounted-common : common_of both ≡ common
      recounted-common = get_or-set_same one common_at common 0 (omega (arith, length-set l (opens_at + desk) opens))

      recounted-opens : opens_of desk both ≡ opens
      recounted-opens =
          get_or-set_other one common_at (opens_at + desk) common 0 (λ e. omega arith) ∙ get_or-set_same l (opens_at + desk) opens 0 (omega arith)

-- ---- a desk's call: l before, k after
module _ (n d : ℕ) (t : Time) (p : Place) (l k : List Place) (to : n ≤ desks_most) (f : Fair n l) (h : d < n) (m : Moved d t p l k)
    (was is : Bool) (w : was ≡ (open_at d t l).used) (i : is ≡ p.used) (marks : List ℕ) (long : head_size ≤ length marks)
    (s : Stored n l marks) where
  its : d < desks_most
  its = omega arith

  changed : count (mine d) k + bit was ≡ count (mine d) l + bit is
  changed = omega (arith, m.own-mine, ap bit w, ap bit i)

  own-opens : opens_of d (recounted d was is marks) ≡ count (mine d) k
  own-opens =
      recounted-opens d was is marks its long
      ∙ stepped-is was is _ (count (mine d) k) (omega (arith, changed, s.opens d its)) (omega (arith, s.opens d its, f.six d))

  pub stored_moved : Stored n k (recounted d was is marks)
  stored_moved = record {
    opens = λ e q. each-desk e q (ℕ_discrete e d);
    common =
        recounted-common d was is marks its long
        ∙ common-is _ (count (mine d) k) _ (common_use n k) (omega (arith, common-moved n d t p l k h m, s.opens d its, s.common))
        (omega (arith, s.common, f.shared)) was is (omega (arith, changed, s.opens d its));
  }
    where
      each-desk : (e : ℕ) → e < desks_most → Dec (e ≡ d) → opens_of e (recounted d was is marks) ≡ count (mine e) k
      each-desk e q (yes c) = subst (λ (x : ℕ). opens_of x (recounted d was is marks) ≡ count (mine x) k) (sym c) own-opens
      each-desk e q (no c) = recounted-others d was is marks e c ∙ s.opens e q ∙ sym (m.other-mine e c)
