-- One call's work for one desk where its sample stands in a table: what the call finds there, and what it leaves. Assumes nothing.
use Rattle.asks.specs.Bar.{Free}
use Rattle.std.specs.Prelude.{ℕ, Bool, List, Err}
use Rattle.std.specs.Borrow.{MutBor}
use denote.Triple.Both.{Both}
use Rattle.laws.specs.Rows.{◌⇒◌⁏◌}
use Rattle.paper.specs.declared.Refusal.TheVariants as R
use Rattle.paper.specs.Time.{Time}
use Rattle.paper.specs.declared.Outcome.{Outcome}
use Rattle.paper.specs.declared.Outcome.TheVariants as O
use Rattle.paper.specs.declared.Answer.{Answer}
use Rattle.unit.specs.declared.Part as P
use Rattle.unit.specs.declared.Unit.{Unit}
use Rattle.unit.specs.declared.Unit.TheVariants.{End, Skipped, Refused, Whole, Part, Description}
use Rattle.unit.specs.declared.Reading.{Reading}
use Rattle.sample.specs.declared.Place.{Place}
use Rattle.sample.specs.Head.{Head, whole}
use Rattle.sample.specs.Place.{closed}
use Rattle.desk.specs.declared.Shares.{Shares}
use Rattle.desk.specs.Desk.{Own, After, own, says, stay, six, used_up, part_at, taken, is_part}
use Rattle.asks.specs.declared.Arrival.{Arrival}
use Rattle.asks.specs.Bar.{Bar}

-- ---- a place of which the numbers are told and the arrays are lent: before the call, and after it
abbrev Array : Type 0
Array = Both (MutBor (List ℕ)) (MutBor (List ℕ))

abbrev pub before : Head → (kinds starts lens bytes : Array) → Place
before h kinds starts lens bytes = whole h kinds.entry.now starts.entry.now lens.entry.now bytes.entry.now

abbrev pub after : Head → (kinds starts lens bytes : Array) → Place
after h kinds starts lens bytes = whole h kinds.exit.now starts.exit.now lens.exit.now bytes.exit.now

-- the numbers of the sample after the call, and the answer
pub record Settled : Type 0 where
  pub head : Head
  pub answer : Answer

abbrev pub settled : Head → (used : ℕ) → (next : Time) → Outcome → Settled
settled h used next o = record { head = h; answer = says used next o }

-- ---- a place of the table, and the desk's sample
-- a free place holds no sample of the desk
unfoldable pub open_in : Place → Place
open_in before = before.used ⇒ before ⁏ closed

-- p is the desk's sample after the call; where none was opened, the free place stays as it stood
unfoldable pub laid : (before p : Place) → Place
laid before p = before.used ⇒ p ⁏ p.used ⇒ p ⁏ before

abbrev pub laid_in : (before : Place) → After → After
laid_in before a =
    record { own = own (laid before a.own.place) a.own.row a.own.marks a.own.store a.own.out; answer = a.answer }

-- ---- a part of a sample that is not open
abbrev pub opening : Shares → (row marks store out : List ℕ) → (desk : ℕ) → Time → Arrival → List ℕ → After
opening h row marks store out desk t x d = part_at h (own closed row marks store out) desk t x.used x.part d

-- what bars it, in the order of refusals: 6, 5, 8, 9; it is no repeat, and conflicts with nothing
unfoldable pub barred : (late over : Bool) → Shares → Bar
barred late over h =
    late ⇒ Err R.Late
    ⁏ over ⇒ Err R.Size
    ⁏ six closed h ⇒ Err R.Six
    ⁏ used_up closed h ⇒ Err R.Common
    ⁏ Free

-- ---- a unit that was read
abbrev pub no_part : P.Part
no_part = record { kind = 0; total = 0; this = 0; sdur = 0; u = 0; sidx = 0; slen = 0; start = 0; len = 0 }

abbrev pub part_of : Unit → P.Part
part_of (Part x) = x
part_of End = no_part
part_of (Skipped t) = no_part
part_of (Refused r) = no_part
part_of (Whole w) = no_part
part_of (Description w) = no_part

abbrev pub arrival_of : Reading → Arrival
arrival_of r = record { used = r.used; part = part_of r.unit }

-- a unit that is no part asks for no share; of a part nothing is taken
abbrev pub unasked : Shares
unasked = record { opens = 0; common = 0; desks = 0 }

unfoldable pub passed : Own → Time → Reading → (rest : List ℕ) → After
passed s t r rest = is_part r.unit ⇒ stay s 0 t O.End ⁏ taken unasked s 0 t r.used rest r.unit
