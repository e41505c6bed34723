-- `relay::join` meets its contract: the part is taken over the place where it is kept, or lost. Assumes nothing.
use Rattle.std.proofs.Common.{ℕ, ◌≡◌, ◌<◌, ◌≤◌, List, length, refl, sym, ap, ◌∙◌, true, false, get_or, Some, None, arith}
use Rattle.std.proofs.Math.ListN.{set}
use Rattle.std.proofs.lemmas.List.{get_or_default}
use Rattle.paper.specs.declared.Answer.{Answer}
use Rattle.paper.specs.declared.Sender.{Sender}
use Rattle.unit.specs.declared.Reading.{Reading}
use Rattle.unit.specs.Layout.{read_of}
use Rattle.sample.specs.declared.Place.{Place}
use Rattle.sample.specs.Place.{closed}
use Rattle.desk.specs.Desk.{is_part}
use Rattle.asks.specs.declared.Arrival.{Arrival}
use Rattle.asks.specs.Settled.{arrival_of, open_in}
use Rattle.memory.specs.Relay.{Tables, tables, Done, done, desks_of, received_at}
use Rattle.looks.specs.Looks.{reach_at, spot_in}
use Rattle.steps.specs.Plan.{Plan, plan, part_planned, laid_plan, counted_plan}
use Rattle.steps.specs.Kept.{joined_at, kept-done, lost-done}
use Rattle.steps.specs.Back.{spot_at, spot-found, spot-lost, spot-opens, joined_is}
use Rattle.relay.proofs.join.Goals as goal

-- the values on the way: how many places are looked at, the part, and what is left where it is kept or lost
module _ (s : Tables) (who : Sender) (rest out : List ℕ) (r : Reading) (read : r ≡ read_of rest) (part : is_part r.unit ≡ true)
    (m : ℕ) (x : Arrival) (m-is : m ≡ reach_at (desks_of s.marks) who.time (length s.places)) (x-is : x ≡ arrival_of r) where
  abbrev reach : ℕ
  reach = reach_at (desks_of s.marks) who.time (length s.places)

  abbrev spot : ℕ
  spot = spot_at s who rest out r read part

  module _ (i : ℕ) (at_is : Some i ≡ spot_in who.desk who.time m x.part.total s.places) where
    found : (i ≡ spot) × (i < length s.places)
    found =
        spot-found s who rest out r read part i (at_is ∙ (λ j. spot_in who.desk who.time (m-is j) (x-is j).part.total s.places))

    opens : (get_or s.places i closed).used ≡ false → 1 < x.part.total
    opens u =
        rw x-is (spot-opens s who rest out r read part (rw (← found.0) found.1) (rw (← found.0) u))

    -- the place as the code indexes it, with d past the end
    module _ (d : Place) where
      abbrev here : Place
      here = get_or s.places i d

      here-is : here ≡ get_or s.places i closed
      here-is = get_or_default s.places i d closed found.1

      lets : here.used ≡ false → 1 < x.part.total
      lets u = opens (sym (ap (λ (p : Place). p.used) here-is) ∙ u)

      kept : (p : Place) (a : Answer) (rows marks out' : List ℕ)
          → plan p a rows marks s.stores out'
          ≡ counted_plan who.desk here.used
          (laid_plan here (part_planned (length s.places) (open_in here) s.rows s.marks s.stores out who x rest))
          → done (tables (set s.places i p) rows marks s.stores) out' a ≡ received_at s who rest out
      kept p a rows marks out' e =
          kept-done i (length s.places) s who x rest out refl found.1 p a rows marks out'
          (e ∙ (λ j.
          let was = here-is j in
          counted_plan who.desk was.used
          (laid_plan was (part_planned (length s.places) (open_in was) s.rows s.marks s.stores out who x rest))))
          ∙ (λ j. joined_at (found.0 j) s who (x-is j) rest out) ∙ joined_is s who rest out r read part

  lost : None ≡ spot_in who.desk who.time m x.part.total s.places → (a : Answer) (rows marks out' : List ℕ)
      → plan (part_planned (length s.places) closed s.rows s.marks s.stores out who x rest).place a rows marks s.stores out'
      ≡ part_planned (length s.places) closed s.rows s.marks s.stores out who x rest
      → done (tables s.places rows marks s.stores) out' a ≡ received_at s who rest out
  lost e a rows marks out' k =
      let past = spot-lost s who rest out r read part (e ∙ (λ j. spot_in who.desk who.time (m-is j) (x-is j).part.total s.places)) in
      lost-done spot (length s.places) s who x rest out refl past a rows marks out' k
      ∙ (λ j. joined_at spot s who (x-is j) rest out) ∙ joined_is s who rest out r read part

pub offset_bounds-places-i : goal.offset_bounds-places-i
offset_bounds-places-i c =
    let a = c.args in
    let s = tables a.places.now a.rows.now a.marks.now a.stores.now in
    let inside : c.in-Some.i < length a.places.now =
    (found s a.who a.rest.now a.out.now a.r c.requires.0 c.requires.1 _ _ c.reach-m.ensures c.arrived-x.ensures _ c.in-Some.ensures).1 in
    omega (arith, inside)

pub bounds-places-i : goal.bounds-places-i
bounds-places-i c =
    let a = c.args in
    let s = tables a.places.now a.rows.now a.marks.now a.stores.now in
    (found s a.who a.rest.now a.out.now a.r c.requires.0 c.requires.1 _ _ c.reach-m.ensures c.arrived-x.ensures _ c.in-Some.ensures).1

pub step-requires : goal.step-requires
step-requires c =
    let a = c.args in
    let s = tables a.places.now a.rows.now a.marks.now a.stores.now in
    lets s a.who a.rest.now a.out.now a.r c.requires.0 c.requires.1 _ _ c.reach-m.ensures c.arrived-x.ensures _ c.in-Some.ensures _

pub returns-in-Some : goal.returns-in-Some
returns-in-Some c =
    let a = c.args in
    let s = tables a.places.now a.rows.now a.marks.now a.stores.now in
    let t = c.step in
    kept s a.who a.rest.now a.out.now a.r c.requires.0 c.requires.1 _ _ c.reach-m.ensures c.arrived-x.ensures _ c.in-Some.ensures _
    t.new.p t.result t.new.rows t.new.marks t.new.out (t.ensures a.stores.now refl)

pub returns-in-None : goal.returns-in-None
returns-in-None c =
    let a = c.args in
    let s = tables a.places.now a.rows.now a.marks.now a.stores.now in
    lost s a.who a.rest.now a.out.now a.r c.requires.0 c.requires.1 _ _ c.reach-m.ensures c.arrived-x.ensures c.in-None.ensures _ _ _ _
    (c.step_lost.ensures a.stores.now refl)
