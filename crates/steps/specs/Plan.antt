-- The steps of a call in between: what a call leaves of everything but the table. Assumes nothing.
use Rattle.std.specs.Prelude.{ℕ, ◌+◌, ◌*◌, Bool, List, [], length, Ok, Err}
use Rattle.laws.specs.Rows.{◌or◌}
use Rattle.laws.specs.Region.{part, splice}
use Rattle.paper.specs.Limits.{finished_most, marks_each, store_size, head_size}
use Rattle.paper.specs.declared.Answer.{Answer}
use Rattle.paper.specs.declared.Name.{Name}
use Rattle.paper.specs.declared.Sender.{Sender}
use Rattle.unit.specs.declared.Reading.{Reading}
use Rattle.sample.specs.declared.Place.{Place}
use Rattle.sample.specs.Place.{closed}
use Rattle.desk.specs.GivenUp.{GivenUp}
use Rattle.desk.specs.Desk.{Own, After, Given, own, part_at}
use Rattle.asks.specs.declared.Arrival.{Arrival}
use Rattle.asks.specs.Settled.{laid, passed}
use Rattle.memory.specs.Relay.{row_of, marks_of, store_of, desks_of, stored_shares, recounted, stranger, lacks, lacks_three, gated, yielded}

-- ---- what a call leaves of everything but the table, and its answer
pub record Plan : Type 0 where
  pub place : Place
  pub answer : Answer
  pub rows : List ℕ
  pub marks : List ℕ
  pub stores : List ℕ
  pub out : List ℕ

abbrev pub plan : Place → Answer → (rows marks stores out : List ℕ) → Plan
plan p a rows marks stores out = record { place = p; answer = a; rows = rows; marks = marks; stores = stores; out = out }

abbrev pub plan_of : (desk : ℕ) → (rows marks stores : List ℕ) → After → Plan
plan_of desk rows marks stores a =
    plan a.own.place a.answer (splice (finished_most * desk) finished_most a.own.row rows)
    (splice (head_size + marks_each * desk) marks_each a.own.marks marks)
    (splice (store_size * desk) store_size a.own.store stores) a.own.out

-- the desk's own things, p being its sample of this time
abbrev pub own_at : (desk : ℕ) → Place → (rows marks stores out : List ℕ) → Own
own_at desk p rows marks stores out = own p (row_of desk rows) (marks_of desk marks) (store_of desk stores) out

-- `table` places are lent; a is what the desk makes of its own things
abbrev pub settled_plan : (table : ℕ) → Place → (rows marks stores out : List ℕ) → Sender → (Own → After) → Plan
settled_plan table p rows marks stores out who a =
    plan_of who.desk rows marks stores
    (gated (stranger (desks_of marks) who.desk or lacks (desks_of marks) table (length rows) (length marks) (length stores))
    (own_at who.desk p rows marks stores out) who.time (a (own_at who.desk p rows marks stores out)))

-- a part
abbrev pub part_of_rest : Arrival → (rest : List ℕ) → List ℕ
part_of_rest x rest = part x.part.start x.part.len rest

unfoldable pub part_planned : (table : ℕ) → Place → (rows marks stores out : List ℕ) → Sender → Arrival → (rest : List ℕ) → Plan
part_planned table p rows marks stores out who x rest =
    settled_plan table p rows marks stores out who
    (λ (s : Own). part_at (stored_shares (desks_of marks) who.desk marks) s who.desk who.time x.used x.part
    (part_of_rest x rest))

-- in a free place that was to be opened nothing changes where no sample was
abbrev pub laid_plan : Place → Plan → Plan
laid_plan before x = plan (laid before x.place) x.answer x.rows x.marks x.stores x.out

-- the place, which was open or not, is counted
abbrev pub counted_plan : (desk : ℕ) → (was : Bool) → Plan → Plan
counted_plan desk was x =
    plan x.place x.answer x.rows (recounted desk was x.place.used x.marks) x.stores x.out

-- any other unit
unfoldable pub pass_planned : (table : ℕ) → Place → (rows marks stores out : List ℕ) → Sender → Reading → (rest : List ℕ) → Plan
pass_planned table p rows marks stores out who r rest =
    settled_plan table p rows marks stores out who (λ (s : Own). passed s who.time r rest)

-- ---- give-up
pub record Yield : Type 0 where
  pub place : Place
  pub answer : GivenUp
  pub rows : List ℕ
  pub marks : List ℕ

abbrev pub yield : Place → GivenUp → (rows marks : List ℕ) → Yield
yield p a rows marks = record { place = p; answer = a; rows = rows; marks = marks }

abbrev pub yield_of : (desk : ℕ) → (rows marks : List ℕ) → Given → Yield
yield_of desk rows marks a =
    yield a.own.place a.answer (splice (finished_most * desk) finished_most a.own.row rows)
    (splice (head_size + marks_each * desk) marks_each a.own.marks marks)

abbrev pub counted_yield : (desk : ℕ) → (was : Bool) → Yield → Yield
counted_yield desk was y = yield y.place y.answer y.rows (recounted desk was y.place.used y.marks)

unfoldable pub yielding : (table : ℕ) → Place → (rows marks : List ℕ) → Name → Yield
yielding table p rows marks who =
    counted_yield who.desk p.used
    (yield_of who.desk rows marks
    (yielded (stranger (desks_of marks) who.desk or lacks_three (desks_of marks) table (length rows) (length marks))
    (own p (row_of who.desk rows) (marks_of who.desk marks) [] []) who.time))

-- the place after a give-up
abbrev pub place_after : GivenUp → Place → Place
place_after (Ok u) p = closed
place_after (Err r) p = p
