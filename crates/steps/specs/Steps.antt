-- One law for each way that the steps return, in the code's own values. Assumes nothing.
use Rattle.gate.specs.Passes.{Through}
use Rattle.std.specs.Prelude.{ℕ, ◌+◌, ◌-◌, ◌*◌, ◌≡◌, refl, Bool, true, length, Err}
use Rattle.std.proofs.Common.{arith, ◌∙◌}
use Rattle.std.proofs.Math.Path.{sym, ap, ap₂}
use Rattle.std.proofs.Math.Bool.{false}
use mathlib.Core.List.{List, []}
use Rattle.laws.specs.Rows.{◌⇒◌⁏◌, each, yes, no}
use Rattle.laws.specs.Region.{part, splice, splice-part}
use Rattle.paper.specs.Limits.{finished_most, head_size, marks_each, store_size}
use Rattle.paper.specs.declared.Answer.{Answer}
use Rattle.paper.specs.declared.Name.{Name}
use Rattle.paper.specs.declared.Sender.{Sender}
use Rattle.paper.specs.declared.Refusal.{Refusal}
use Rattle.paper.specs.declared.Refusal.TheVariants as R
use Rattle.paper.specs.declared.Outcome.TheVariants as O
use Rattle.unit.specs.declared.Reading.{Reading}
use Rattle.sample.specs.declared.Place.{Place}
use Rattle.sample.specs.Place.{bare, closed}
use Rattle.desk.specs.declared.Shares.{Shares}
use Rattle.desk.specs.GivenUp.{GivenUp}
use Rattle.desk.specs.Desk.{Own, After, Given, own, says, turn, left, freed, refuse, part_at, given_up}
use Rattle.asks.specs.declared.Arrival.{Arrival}
use Rattle.asks.specs.Settled.{open_in, laid_in, passed}
use Rattle.asks.specs.Asked.{laid_same}
use Rattle.memory.specs.Relay.{desks_of, row_of, marks_of, store_of, stored_shares, recounted, stranger, lacks_three, yielded}
use Rattle.memory.proofs.Counted.{recounted-same}
use Rattle.gate.specs.Passes.{Gate}
use Rattle.gate.specs.Gate.{gate_of}
use Rattle.steps.specs.Plan.{Plan, plan, plan_of, own_at, settled_plan, part_of_rest, part_planned, laid_plan, counted_plan}
use Rattle.steps.specs.Plan.{pass_planned, Yield, yield, yield_of, counted_yield, yielding, place_after}
use Rattle.gate.specs.Tests.{Fits, FitsThree, either, other, shut, clear, fits, fits-three, gate-at}

-- a part s[a..a + k] of k elements
widths : (a k : ℕ) → a + k - a ≡ k
widths a k = omega arith

-- a desk's part of a table as the code lends it, from its start on, and the table when it came back
abbrev desk_part : (start each : ℕ) → List ℕ → List ℕ
desk_part start each xs = part start (start + each - start) xs

abbrev desk_back : (start each : ℕ) → (ys xs : List ℕ) → List ℕ
desk_back start each ys xs = splice start (start + each - start) ys xs

abbrev row_at : (desk : ℕ) → ℕ
row_at desk = finished_most * desk

abbrev mark_at : (desk : ℕ) → ℕ
mark_at desk = head_size + marks_each * desk

abbrev store_at : (desk : ℕ) → ℕ
store_at desk = store_size * desk

-- past the gate, and past the refusals of a give-up, the desk's things lie within what is lent
pub room : (m : List ℕ) (n table rows stores desk out : ℕ) (g : Gate) → g ≡ gate_of n table rows (length m) stores desk out → n ≡ desks_of m
    → g ≡ Through → Fits (desks_of m) table rows (length m) stores desk
room m n table rows stores desk out g f e h = fits _ _ _ _ _ _ _ _ (gate-at _ _ _ _ _ _ _ _ _ _ f e refl) h

pub room-three : (m : List ℕ) (n table rows desk : ℕ) (b d : Bool) → b ≡ stranger n desk → b ≡ false
    → d ≡ lacks_three n table rows (length m) → d ≡ false → n ≡ desks_of m → FitsThree (desks_of m) table rows (length m) desk
room-three m n table rows desk b d f h k l e =
    rw (sym e) (fits-three n table rows (length m) desk (sym f ∙ h) (sym k ∙ l))

-- ---- receive, whatever the desk makes of it
module _ (table : ℕ) (p : Place) (rows marks stores out : List ℕ) (who : Sender) (a : Own → After) (g : Gate)
    (f : g ≡ gate_of (desks_of marks) table (length rows) (length marks) (length stores) who.desk (length out)) where
  abbrev its : Own
  its = own_at who.desk p rows marks stores out

  -- what is refused is put back as it was
  back : (r : Refusal) → plan p (says 0 who.time (O.Refused r)) rows marks stores out
      ≡ plan_of who.desk rows marks stores (refuse its 0 who.time r)
  back r =
      rw (
        splice-part (row_at who.desk) finished_most rows,
        splice-part (mark_at who.desk) marks_each marks,
        splice-part (store_at who.desk) store_size stores,
      )

  pub plan-shut : (why : Refusal) → g ≡ Err why
      → plan p (says 0 who.time (O.Refused why)) rows marks stores out ≡ settled_plan table p rows marks stores out who a
  plan-shut why h =
      back why
      ∙ ap (plan_of who.desk rows marks stores)
      (shut (desks_of marks) table (length rows) (length marks) (length stores) who.desk (length out) g f (refuse its 0 who.time)
      (a its) why h)

  pub plan-through : g ≡ Through → plan_of who.desk rows marks stores (a its) ≡ settled_plan table p rows marks stores out who a
  plan-through h =
      let c = clear (desks_of marks) table (length rows) (length marks) (length stores) who.desk (length out) g f h in
      ap (plan_of who.desk rows marks stores) (no _ _ c.0 (no _ _ c.1 refl))

-- ---- a part
module _ (table : ℕ) (before : Place) (rows marks stores out : List ℕ) (who : Sender) (x : Arrival) (rest : List ℕ) (g : Gate) where
  abbrev stored : Shares
  stored = stored_shares (desks_of marks) who.desk marks

  -- of the part d that was cut, by the shares h that were heard
  abbrev takes_of : Shares → (d : List ℕ) → Own → After
  takes_of h d s = part_at h s who.desk who.time x.used x.part d

  abbrev takes : Own → After
  takes s = takes_of stored (part_of_rest x rest) s

  -- a desk's own things as the code lends them, for p
  abbrev lent_to : Place → Own
  lent_to p =
      own p (desk_part (row_at who.desk) finished_most rows) (desk_part (mark_at who.desk) marks_each marks)
      (store_of who.desk stores) out

  abbrev back_to : Place → Answer → (row' marks' out' : List ℕ) → Plan
  back_to p r row' marks' out' =
      plan p r (desk_back (row_at who.desk) finished_most row' rows) (desk_back (mark_at who.desk) marks_each marks' marks) stores out'

  back_is : (p : Place) (r : Answer) (row' marks' out' : List ℕ)
      → back_to p r row' marks' out' ≡ plan_of who.desk rows marks stores (left (turn p r) row' marks' (store_of who.desk stores) out')
  back_is p r row' marks' out' =
      rw (
        widths (row_at who.desk) finished_most,
        widths (mark_at who.desk) marks_each,
        splice-part (store_at who.desk) store_size stores,
      )

  lent_is : (p : Place) → lent_to p ≡ own_at who.desk p rows marks stores out
  lent_is p = rw (widths (row_at who.desk) finished_most, widths (mark_at who.desk) marks_each)

  -- over a place that is free or the sample's
  abbrev laid_over : Plan
  laid_over = laid_plan before (part_planned table (open_in before) rows marks stores out who x rest)

  module _ (f : g ≡ gate_of (desks_of marks) table (length rows) (length marks) (length stores) who.desk (length out)) where
    -- a shut gate leaves it, and the numbers
    pub step-shut : (why : Refusal) → g ≡ Err why → (r : Answer) → r ≡ says 0 who.time (O.Refused why)
        → plan before r rows marks stores out ≡ counted_plan who.desk before.used laid_over
    unfolding part_planned
    step-shut why k r e =
        rw e
        (ap (λ (m : List ℕ). plan before (says 0 who.time (O.Refused why)) rows m stores out)
        (sym (recounted-same who.desk before.used marks))
        ∙ ap (counted_plan who.desk before.used)
        (ap (λ (q : Place). plan q (says 0 who.time (O.Refused why)) rows marks stores out) (sym (laid_same before))
        ∙ ap (laid_plan before) (plan-shut table (open_in before) rows marks stores out who takes g f why k)))

    pub step_through : g ≡ Through → (h : Shares) → h ≡ stored → (p : Place) (r : Answer) (row' marks' out' d : List ℕ)
        → d ≡ part_of_rest x rest
        → left (turn p r) row' marks' (store_of who.desk stores) out' ≡ laid_in before (takes_of h d (lent_to (open_in before)))
        → (marks'' : List ℕ)
        → marks'' ≡ recounted who.desk before.used p.used (desk_back (mark_at who.desk) marks_each marks' marks)
        → plan p r (desk_back (row_at who.desk) finished_most row' rows) marks'' stores out'
        ≡ counted_plan who.desk before.used laid_over
    unfolding part_planned
    step_through k h heard p r row' marks' out' d cut e marks'' counted =
        ap (λ (m : List ℕ). plan p r (desk_back (row_at who.desk) finished_most row' rows) m stores out') counted
        ∙ ap (counted_plan who.desk before.used)
        (back_is p r row' marks' out'
        ∙ ap (plan_of who.desk rows marks stores)
        (e ∙ ap₂ (λ (y : Shares) (z : List ℕ). laid_in before (takes_of y z (lent_to (open_in before)))) heard cut)
        ∙ ap (λ (s : Own). laid_plan before (plan_of who.desk rows marks stores (takes s))) (lent_is (open_in before))
        ∙ ap (laid_plan before) (plan-through table (open_in before) rows marks stores out who takes g f k))

    -- where no place is to be had
    abbrev lost_over : Plan
    lost_over = part_planned table closed rows marks stores out who x rest

    pub lost-shut : (why : Refusal) → g ≡ Err why → (r : Answer) → r ≡ says 0 who.time (O.Refused why)
        → plan lost_over.place r rows marks stores out ≡ lost_over
    unfolding part_planned
    lost-shut why k r e =
        let q = plan-shut table closed rows marks stores out who takes g f why k in
        rw e (ap (λ (z : Plan). plan z.place (says 0 who.time (O.Refused why)) rows marks stores out) (sym q) ∙ q)

    pub lost-through : g ≡ Through → (h : Shares) → h ≡ stored → (r : Answer) (row' marks' out' d : List ℕ) → d ≡ part_of_rest x rest
        → left (turn (takes_of h d (lent_to closed)).own.place r) row' marks' (store_of who.desk stores) out'
        ≡ takes_of h d (lent_to closed)
        → back_to lost_over.place r row' marks' out' ≡ lost_over
    unfolding part_planned
    lost-through k h heard r row' marks' out' d cut e =
        let t = (takes (lent_to closed)).own.place in
        let e' : left (turn t r) row' marks' (store_of who.desk stores) out' ≡ takes (lent_to closed) = rw (heard, cut) at e in
        let q : plan_of who.desk rows marks stores (takes (lent_to closed)) ≡ settled_plan table closed rows marks stores out who takes =
        ap (λ (s : Own). plan_of who.desk rows marks stores (takes s)) (lent_is closed)
        ∙ plan-through table closed rows marks stores out who takes g f k in
        ap (λ (z : Plan). back_to z.place r row' marks' out') (sym q)
        ∙ back_is t r row' marks' out' ∙ ap (plan_of who.desk rows marks stores) e' ∙ q

-- ---- any other unit
module _ (table : ℕ) (p : Place) (rows marks stores out : List ℕ) (who : Sender) (r : Reading) (rest : List ℕ) (g : Gate)
    (f : g ≡ gate_of (desks_of marks) table (length rows) (length marks) (length stores) who.desk (length out)) where
  abbrev passes : Own → After
  passes s = passed s who.time r rest

  pub pass-shut : (why : Refusal) → g ≡ Err why → (a : Answer) → a ≡ says 0 who.time (O.Refused why)
      → plan p a rows marks stores out ≡ pass_planned table p rows marks stores out who r rest
  unfolding pass_planned
  pass-shut why k a e = rw e (plan-shut table p rows marks stores out who passes g f why k)

  pub pass-through : g ≡ Through → (a : Answer) (row' marks' store' out' : List ℕ)
      → left (turn p a) row' marks' store' out'
      ≡ passes (own p (desk_part (row_at who.desk) finished_most rows) (desk_part (mark_at who.desk) marks_each marks)
      (desk_part (store_at who.desk) store_size stores) out)
      → plan p a (desk_back (row_at who.desk) finished_most row' rows) (desk_back (mark_at who.desk) marks_each marks' marks)
      (desk_back (store_at who.desk) store_size store' stores) out'
      ≡ pass_planned table p rows marks stores out who r rest
  unfolding pass_planned
  pass-through k a row' marks' store' out' e =
      let w = widths in
      let e' : left (turn p a) row' marks' store' out' ≡ passes (own_at who.desk p rows marks stores out) =
      rw (w (row_at who.desk) finished_most, w (mark_at who.desk) marks_each, w (store_at who.desk) store_size) at e in
      rw (w (row_at who.desk) finished_most, w (mark_at who.desk) marks_each, w (store_at who.desk) store_size)
      (ap (plan_of who.desk rows marks stores) e' ∙ plan-through table p rows marks stores out who passes g f k)

-- ---- give-up
-- the place that it leaves is told by its answer
given-place : (s : Own) (time : ℕ) → (given_up s time).own.place ≡ place_after (given_up s time).answer s.place
unfolding given_up ◌⇒◌⁏◌
given-place s time = go s.place.used refl
  where
    go : (b : Bool) → s.place.used ≡ b → (given_up s time).own.place ≡ place_after (given_up s time).answer s.place
    go true e = rw e
    go false e = rw e

-- and it is not open
given-free : (s : Own) (time : ℕ) → (given_up s time).own.place.used ≡ false
unfolding given_up bare
given-free s time = each (λ (g : Given). g.own.place.used ≡ false) _ _ _ (λ u. refl) (λ u. u)

module _ (table : ℕ) (p : Place) (rows marks : List ℕ) (who : Name) where
  abbrev hers : Own
  hers = own p (row_of who.desk rows) (marks_of who.desk marks) [] []

  abbrev n : ℕ
  n = desks_of marks

  abbrev counts : Yield → Yield
  counts = counted_yield who.desk p.used

  held : yield p (Err R.Desk) rows marks ≡ counts (yield_of who.desk rows marks (record { own = hers; answer = Err R.Desk }))
  held =
      rw (
        splice-part (row_at who.desk) finished_most rows,
        splice-part (mark_at who.desk) marks_each marks,
        recounted-same who.desk p.used marks,
      )

  module _ (b : Bool) (f : b ≡ stranger n who.desk) where
    pub yield-stranger : b ≡ true → yield p (Err R.Desk) rows marks ≡ yielding table p rows marks who
    unfolding yielding yielded
    yield-stranger h = held ∙ ap (λ (a : Given). counts (yield_of who.desk rows marks a)) (yes _ _ (either _ _ (sym f ∙ h)) refl)

    module _ (known : b ≡ false) (d : Bool) (k : d ≡ lacks_three n table (length rows) (length marks)) where
      pub yield-lacking : d ≡ true → yield p (Err R.Desk) rows marks ≡ yielding table p rows marks who
      unfolding yielding yielded
      yield-lacking h =
          held
          ∙ ap (λ (a : Given). counts (yield_of who.desk rows marks a)) (yes _ _ (other _ _ _ (sym f ∙ known) (sym k ∙ h)) refl)

      pub yield-through : d ≡ false → (q : Place) (r : GivenUp) (row' marks' : List ℕ)
          → freed q r row' marks' [] []
          ≡ given_up (own p (desk_part (row_at who.desk) finished_most rows) (desk_part (mark_at who.desk) marks_each marks) [] [])
          who.time
          → (was : Bool) → p.used ≡ was → (marks'' : List ℕ)
          → marks'' ≡ recounted who.desk was false (desk_back (mark_at who.desk) marks_each marks' marks)
          → yield (place_after r p) r (desk_back (row_at who.desk) finished_most row' rows) marks'' ≡ yielding table p rows marks who
      unfolding yielding yielded
      yield-through enough q r row' marks' e was o marks'' counted =
          let e' : freed q r row' marks' [] [] ≡ given_up hers who.time =
          rw (widths (row_at who.desk) finished_most, widths (mark_at who.desk) marks_each) at e in
          let same : place_after r p ≡ q =
          ap (λ (z : Given). place_after z.answer p) e' ∙ sym (given-place hers who.time)
          ∙ ap (λ (z : Given). z.own.place) (sym e') in
          let free : q.used ≡ false = ap (λ (z : Given). z.own.place.used) e' ∙ given-free hers who.time in
          rw (counted, ← o, ← free, same, widths (row_at who.desk) finished_most, widths (mark_at who.desk) marks_each)
          (ap (λ (a : Given). counts (yield_of who.desk rows marks a)) (e' ∙ no _ _ (other _ _ _ (sym f ∙ known) (sym k ∙ enough)) refl))
