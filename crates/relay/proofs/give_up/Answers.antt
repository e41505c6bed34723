-- `relay::give_up` meets its contract: the sample that was found is given up, and its place freed. Assumes nothing.
use Rattle.std.proofs.Common.{ℕ, ◌≤◌, ◌≡◌, List, length, take, refl, ap, sym, ◌∙◌, arith, Option, Some, None, Ok, Err, length-take-le, Bool, true, false, rules}
use Rattle.std.specs.Option.{is_some}
use Rattle.laws.specs.Rows.{◌<?◌, no, ge, ge-of}
use Rattle.laws.specs.Table.{seek}
use Rattle.paper.specs.declared.Name.{Name}
use Rattle.paper.specs.declared.Sender.{Sender}
use Rattle.paper.specs.declared.Refusal.{Refusal}
use Rattle.paper.specs.Words.{whose}
use Rattle.sample.specs.declared.Place.{Place}
use Rattle.sample.specs.Place.{closed}
use Rattle.desk.specs.GivenUp.{GivenUp, Freed}
use Rattle.table.specs.Table.{stored, place_where}
use Rattle.table.proofs.Facts.{somewhere, place-some, place-none}
use Rattle.memory.specs.Table.{is_at}
use Rattle.memory.specs.Relay.{Tables, tables, desks_of, released, given_up_at}
use Rattle.looks.specs.Looks.{reach_of, reach_at, freed_at}
use Rattle.steps.specs.Plan.{yield, yielding, place_after}
use Rattle.steps.specs.Found.{reach-most}
use Rattle.steps.specs.Yielded.{given-up-is}
use Rattle.relay.proofs.give_up.Goals as goal

-- the values on the way: whose sample it is, how many places are looked at, and where the sample stands
module _ (s : Tables) (who : Name) (its : Sender) (m : ℕ) (at : Option ℕ) (g : GivenUp) (rows marks : List ℕ)
    (its-is : its ≡ whose who) (m-is : m ≡ reach_at (desks_of s.marks) its.time (length s.places))
    (at_is : at ≡ place_where (is_at its.desk its.time) (take m s.places))
    (e : (p : Place) → p.used ≡ is_some at → yield (place_after g p) g rows marks ≡ yielding (length s.places) p s.rows s.marks who) where
  abbrev reach : ℕ
  reach = reach_of (desks_of s.marks) (length s.places)

  abbrev front : List Place
  front = take reach s.places

  abbrev sought : Place → Bool
  sought = is_at who.desk (Some who.time)

  reach-is : m ≡ reach
  reach-is = m-is ∙ (λ j. reach_at (desks_of s.marks) (its-is j).time (length s.places))

  within : reach ≤ length s.places
  within = reach-most (desks_of s.marks) (Some who.time) (length s.places)

  long : length front ≡ reach
  long = length-take-le reach s.places within

  stands : at ≡ place_where sought front
  stands = at_is ∙ (λ j. place_where (is_at (its-is j).desk (its-is j).time) (take (reach-is j) s.places))

  given : (p : Place) → p.used ≡ (seek sought front <? reach)
      → yield (place_after g p) g rows marks ≡ yielding (length s.places) p s.rows s.marks who
  given p u = e p (u ∙ ap (λ (k : ℕ). seek sought front <? k) (sym long) ∙ sym (somewhere sought front) ∙ sym (ap is_some stands))

  abbrev freeing : GivenUp → List Place
  freeing r = stored reach (freed_at r (seek sought front) (length s.places)) closed s.places

  is : (l : List Place) → l ≡ freeing g → released (tables l rows marks s.stores) g ≡ given_up_at s who
  is l k = ap (λ (ps : List Place). released (tables ps rows marks s.stores) g) k ∙ given-up-is s who g rows marks given

  refused : (w : Refusal) → g ≡ Err w → s.places ≡ freeing g
  refused w k =
      no (length s.places <? reach) _ (ge _ _ within) refl
      ∙ ap freeing (sym k)

  freed : (i : ℕ) → at ≡ Some i → g ≡ Freed → (l : List Place) → l ≡ stored m i closed s.places → l ≡ freeing g
  freed i h k l f =
      let q = (place-some sought front i (sym h ∙ stands)).0 in
      f ∙ (λ j. stored (reach-is j) (q j) closed s.places) ∙ ap freeing (sym k)

  unfound : at ≡ None → g ≡ Freed → s.places ≡ freeing g
  unfound h k =
      let q = place-none sought front (sym h ∙ stands) in
      no (seek sought front <? reach) _ (ap (λ (n : ℕ). seek sought front <? n) (sym long) ∙ q) refl ∙ ap freeing (sym k)

pub returns-in_err-yield_step : goal.returns-in_err-yield_step
returns-in_err-yield_step c = λ stores.
    let a = c.args in
    let s = tables a.places.now a.rows.now a.marks.now stores in
    let y = c.yield_step in
    let w = c.in_err-yield_step.field-0.0 in
    let its : c.from-whose.result ≡ whose a.who = search rules in
    let k : c.from_residual.result ≡ Err w = search rules in
    let was : y.result ≡ Err w = c.in_err-yield_step.was in
    ap (released (tables a.places.now y.new.rows y.new.marks stores)) (k ∙ sym was)
    ∙ is s a.who _ _ _ y.result y.new.rows y.new.marks its c.reach-m.ensures c.find-at.ensures
    (λ p u. y.ensures p (u ∙ sym c.is_some.ensures)) a.places.now
    (refused s a.who _ _ _ y.result y.new.rows y.new.marks its c.reach-m.ensures c.find-at.ensures
    (λ p u. y.ensures p (u ∙ sym c.is_some.ensures)) w was)

pub returns-in-Some : goal.returns-in-Some
returns-in-Some c = λ stores.
    let a = c.args in
    let s = tables a.places.now a.rows.now a.marks.now stores in
    let y = c.yield_step in
    let its : c.from-whose.result ≡ whose a.who = search rules in
    let was : y.result ≡ Freed = c.in_ok-yield_step.was in
    ap (released (tables c.free.new.t y.new.rows y.new.marks stores)) (sym was)
    ∙ is s a.who _ _ _ y.result y.new.rows y.new.marks its c.reach-m.ensures c.find-at.ensures
    (λ p u. y.ensures p (u ∙ sym c.is_some.ensures)) c.free.new.t
    (freed s a.who _ _ _ y.result y.new.rows y.new.marks its c.reach-m.ensures c.find-at.ensures
    (λ p u. y.ensures p (u ∙ sym c.is_some.ensures)) _ c.in-Some.is was _ c.free.ensures)

pub returns-in_default : goal.returns-in_default
returns-in_default c = λ stores.
    let a = c.args in
    let s = tables a.places.now a.rows.now a.marks.now stores in
    let y = c.yield_step in
    let its : c.from-whose.result ≡ whose a.who = search rules in
    let none : c.find-at.result ≡ None = search rules in
    let was : y.result ≡ Freed = c.in_ok-yield_step.was in
    ap (released (tables a.places.now y.new.rows y.new.marks stores)) (sym was)
    ∙ is s a.who _ _ _ y.result y.new.rows y.new.marks its c.reach-m.ensures c.find-at.ensures
    (λ p u. y.ensures p (u ∙ sym c.is_some.ensures)) a.places.now
    (unfound s a.who _ _ _ y.result y.new.rows y.new.marks its c.reach-m.ensures c.find-at.ensures
    (λ p u. y.ensures p (u ∙ sym c.is_some.ensures)) none was)
