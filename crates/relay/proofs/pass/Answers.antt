-- `relay::pass` meets its contract: the table is looked at and stays, and all else that was lent is handed on to `pass_step`. Assumes
-- nothing.
use Rattle.std.proofs.Common.{ℕ, ◌≡◌, Bool, List, length, take, ap, sym, ◌∙◌}
use Rattle.paper.specs.declared.Sender.{Sender}
use Rattle.sample.specs.declared.Place.{Place}
use Rattle.unit.specs.declared.Reading.{Reading}
use Rattle.table.specs.Table.{holds}
use Rattle.memory.specs.Table.{is_at}
use Rattle.memory.specs.Relay.{Tables, tables, desks_of}
use Rattle.looks.specs.Looks.{reach_for}
use Rattle.steps.specs.Plan.{Plan, pass_planned}
use Rattle.steps.specs.Back.{passed_is}
use Rattle.relay.proofs.pass.Goals as goal

-- the values on the way: how many places are looked at, and whether the sample is open
module _ (s : Tables) (who : Sender) (r : Reading) (rest out : List ℕ) (m : ℕ) (b : Bool)
    (m-is : m ≡ reach_for (desks_of s.marks) who.time (length s.places) r.unit) (b-is : b ≡ holds (is_at who.desk who.time) (take m s.places)) where
  stands : b ≡ holds (is_at who.desk who.time) (take (reach_for (desks_of s.marks) who.time (length s.places) r.unit) s.places)
  stands = b-is ∙ ap (λ (k : ℕ). holds (is_at who.desk who.time) (take k s.places)) m-is

  planned : (z : Place → Plan) → ((p : Place) → p.used ≡ b → z p ≡ pass_planned (length s.places) p s.rows s.marks s.stores out who r rest)
      → (p : Place) → p.used ≡ holds (is_at who.desk who.time) (take (reach_for (desks_of s.marks) who.time (length s.places) r.unit) s.places)
      → z p ≡ pass_planned (length s.places) p s.rows s.marks s.stores out who r rest
  planned z e p u = e p (u ∙ sym stands)

pub returns : goal.returns
returns c =
    let a = c.args in
    let s = tables a.places.now a.rows.now a.marks.now a.stores.now in
    let t = c.pass_step in
    passed_is s a.who a.rest.now a.out.now a.r c.requires.0 c.requires.1 t.result t.new.rows t.new.marks t.new.stores t.new.out
    (planned s a.who a.r a.rest.now a.out.now _ _ c.reach_for-m.ensures c.is_open-is_open.ensures _ t.ensures)
