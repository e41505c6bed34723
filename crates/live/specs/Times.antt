-- A live line of unknown length, in any tables, with any rest and output: what a call makes of the running time, and which units make it
-- unknown; 18, exactly; and that at an unknown time all but text units is answered as at any known one. Assumes nothing.
use Rattle.std.specs.Prelude.{◌≡◌, None}
use Rattle.std.proofs.Math.Bool.{true}
use Rattle.paper.specs.Words.{by_time}
use Rattle.paper.specs.Time.{Time}
use Rattle.unit.specs.declared.Unit.{Unit}
use Rattle.unit.specs.declared.Unit.TheVariants.{End, Skipped, Refused, Whole, Part, Description}
use Rattle.desk.specs.Desk.{After, says, later, later_part}
use Rattle.desk.specs.Desk.{is_text}
use Rattle.desk.specs.Effects.{refusal_number}
use Rattle.memory.specs.Relay.{Done, done}

-- ---- what a unit makes of the running time
abbrev pub next_of : Time → Unit → Time
next_of t (Whole w) = by_time t (λ time. later time w.sdur) None
next_of t (Part x) = by_time t (λ time. later_part time x) None
next_of t End = t
next_of t (Skipped y) = t
next_of t (Refused r) = t
next_of t (Description w) = t

-- the time that an answer hands on, and what is so where it is 18
pub record Timing (next : Time) (E : Type 0) (a : After) : Type 0 where
  pub hands : a.answer.next ≡ next
  pub if-18 : refusal_number a.answer.outcome ≡ 18 → E

-- a text unit at an unknown time
abbrev pub NoTime : Time → Unit → Type 0
NoTime t x = (t ≡ None) × (is_text x ≡ true)

abbrev pub Timed : Unit → Time → After → Type 0
Timed x t = Timing (next_of t x) (NoTime t x)

-- ---- the units that make a known time unknown
abbrev pub Endless : Unit → Type 0
Endless (Whole w) = w.sdur ≡ 0
Endless (Part x) = (x.this ≡ x.total) × (x.sdur ≡ 0)
Endless End = ⊥
Endless (Skipped y) = ⊥
Endless (Refused r) = ⊥
Endless (Description w) = ⊥

-- d with an unknown next time
abbrev pub untold : Done → Done
untold d = done d.tables d.out (says d.answer.used None d.answer.outcome)
