-- The stored numbers: how one steps; that a place which stays as it was leaves them; and of the place that a call is about, whether it was
-- open and is. Assumes nothing.
use Rattle.std.specs.Prelude.{ℕ, ◌+◌, ◌-◌, ◌≤◌, ◌<◌, ◌≡◌, Bool, get_or, set}
use Rattle.std.proofs.Common.{arith, ◌∙◌, get_or-set_same}
use Rattle.std.proofs.Math.Path.{refl, sym, ap}
use Rattle.std.proofs.Math.Bool.{true, false}
use mathlib.Core.List.{List}
use Rattle.std.proofs.Math.ListN.{length, get_or-eq_default}
use Rattle.std.proofs.lemmas.List.{set-get_or}
use Rattle.std.proofs.Math.Seq.{set_out}
use Rattle.laws.specs.Rows.{◌⇒◌⁏◌, ◌<?◌, each, lt, ge, lt_of, ge-of, and-of, not_is}
use Rattle.laws.specs.Table.{seek, seek_hit}
use Rattle.paper.specs.Limits.{opens_at, common_at, mark_most}
use Rattle.paper.specs.Time.{Time}
use Rattle.sample.specs.declared.Place.{Place}
use Rattle.sample.specs.Place.{bare, closed}
use Rattle.memory.specs.Table.{vacant, is_at}
use Rattle.memory.specs.Relay.{opens_of, common_of, open_at, stands_at, was_open, is_open, stepped, common_stepped, recounted}

-- ---- one more, but where a mark is full, which is so in no tables that set-up made; one fewer, and of 0 none
pub stepped_up : (k : ℕ) → k < mark_most → stepped false true k ≡ k + 1
unfolding stepped ◌⇒◌⁏◌
stepped_up k h = rw (lt k mark_most h)

pub stepped-full : (k : ℕ) → mark_most ≤ k → stepped false true k ≡ k
unfolding stepped ◌⇒◌⁏◌
stepped-full k h = rw (ge k mark_most h)

pub stepped_down : (k : ℕ) → stepped true false k ≡ k - 1
unfolding stepped ◌⇒◌⁏◌
stepped_down k = refl

pub stepped-fits : (was is : Bool) (k : ℕ) → k ≤ mark_most → stepped was is k ≤ mark_most
unfolding stepped
stepped-fits was is k h =
    each (λ (j : ℕ). j ≤ mark_most) _ _ _ (λ e. h)
    (λ e. each (λ (j : ℕ). j ≤ mark_most) _ _ _ (λ e. omega arith)
    (λ e. each (λ (j : ℕ). j ≤ mark_most) _ _ _ (λ e. omega (arith, lt_of _ _ (and-of _ _ e).1)) (λ e. h)))

pub common-fits : (was is : Bool) (opens k : ℕ) → k ≤ mark_most → common_stepped was is opens k ≤ mark_most
unfolding common_stepped
common-fits was is opens k h = each (λ (j : ℕ). j ≤ mark_most) _ _ _ (λ e. stepped-fits was is k h) (λ e. h)

-- ---- a place that stays open, or free, leaves the very numbers that stood
stepped_same : (b : Bool) (k : ℕ) → stepped b b k ≡ k
unfolding stepped ◌⇒◌⁏◌
stepped_same true k = refl
stepped_same false k = refl

pub recounted-same : (desk : ℕ) (b : Bool) (marks : List ℕ) → recounted desk b b marks ≡ marks
unfolding common_stepped
recounted-same desk b marks =
    ap (λ (k : ℕ). set (set marks (opens_at + desk) k) common_at (common_stepped b b (opens_of desk marks) (common_of marks)))
    (stepped_same b (opens_of desk marks))
    ∙ ap (λ (l : List ℕ). set l common_at (common_stepped b b (opens_of desk marks) (common_of marks))) (set-get_or marks (opens_at + desk) 0)
    ∙ each (λ (k : ℕ). set marks common_at k ≡ marks) _ _ _
    (λ e. ap (set marks common_at) (stepped_same b (common_of marks)) ∙ set-get_or marks common_at 0) (λ e. set-get_or marks common_at 0)

-- ---- the place that a call is about
module _ (d : ℕ) (t : Time) (l : List Place) where
  -- a free place, and none, is not open
  free-at : (i : ℕ) → (i < length l → vacant (get_or l i closed) ≡ true) → (get_or l i closed).used ≡ false
  unfolding bare ◌⇒◌⁏◌
  free-at i h = go (i <? length l) refl
    where
      go : (b : Bool) → (i <? length l) ≡ b → (get_or l i closed).used ≡ false
      go true e = not_is _ (h (lt_of _ _ e))
      go false e = ap (λ (y : Place). y.used) (get_or-eq_default l closed (ge-of _ _ e))

  -- what stood there was open where the desk's sample of that time was
  pub was-open : (p : Place) → (get_or l (stands_at d t p l) closed).used ≡ was_open d t l
  unfolding stands_at
  was-open p =
      each (λ (i : ℕ). (get_or l i closed).used ≡ (open_at d t l).used) _ _ _ (λ h. refl)
      (λ h.
      let none = free-at (seek (is_at d t) l) (λ k. absurd (omega (arith, ge-of _ _ h))) in
      each (λ (i : ℕ). (get_or l i closed).used ≡ (open_at d t l).used) _ _ _
      (λ u. free-at (seek vacant l) (λ k. seek_hit vacant l closed k) ∙ sym none)
      (λ u. free-at (length l) (λ k. absurd (omega arith)) ∙ sym none))

  -- it is open where p is, unless there is none
  pub is_open_lem : (p : Place) → stands_at d t p l < length l → is_open d t p l ≡ p.used
  is_open_lem p h = ap (λ (y : Place). y.used) (get_or-set_same l (stands_at d t p l) p closed h)

  pub is_none : (p : Place) → length l ≤ stands_at d t p l → is_open d t p l ≡ false
  unfolding bare
  is_none p h =
      ap (λ (k : List Place). (get_or k (stands_at d t p l) closed).used) (set_out l (stands_at d t p l) p h)
      ∙ ap (λ (y : Place). y.used) (get_or-eq_default l closed h)

  pub is-closed : is_open d t closed l ≡ false
  unfolding bare ◌⇒◌⁏◌
  is-closed = go (stands_at d t closed l <? length l) refl
    where
      go : (b : Bool) → (stands_at d t closed l <? length l) ≡ b → is_open d t closed l ≡ false
      go true e = is_open_lem closed (lt_of _ _ e)
      go false e = is_none closed (ge-of _ _ e)
