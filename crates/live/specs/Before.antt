-- The relay as it was before a time could be unknown: SDUR 0 is added like any other. A call at a known time is answered as it answers it
-- exactly if no unknown time comes of it; and with a known start and no SDUR 0 in TYPE 1 units and last parts, so is every call over a
-- whole payload. Assumes nothing.
use Rattle.std.specs.Prelude.{ℕ, zero, suc, List, [], ◌∷◌, drop, Some}
use Rattle.laws.specs.Rows.{◌⇒◌⁏◌, ◌or◌, ◌=?◌}
use Rattle.paper.specs.declared.Sender.{Sender}
use Rattle.paper.specs.Time.{Time}
use Rattle.unit.specs.declared.Unit.{Unit}
use Rattle.unit.specs.declared.Unit.TheVariants.{End, Skipped, Refused, Whole, Part, Description}
use Rattle.unit.specs.Layout.{read_of, data_of}
use Rattle.desk.specs.declared.Shares.{Shares}
use Rattle.desk.specs.Desk.{Own, After, added, whole_taken, part_taken, timed}
use Rattle.desk.specs.Desk.{taken}
use Rattle.memory.specs.Relay.{Tables, desks_of, own_of, stored_shares, stranger, lacking, gated, Done, settled}
use Rattle.memory.specs.Relay.{sender}
use Rattle.live.specs.Times.{Endless}

-- ---- what a unit made of the running time
abbrev pub next_before : (time : ℕ) → Unit → ℕ
next_before time (Whole w) = added time w.sdur
next_before time (Part x) = x.this =? x.total ⇒ added time x.sdur ⁏ time
next_before time End = time
next_before time (Skipped y) = time
next_before time (Refused r) = time
next_before time (Description w) = time

-- ---- and a call: all else is as it is, 18 too, which from a known time it never comes to
abbrev pub taken_before : Shares → Own → (desk : ℕ) → Time → (used : ℕ) → (rest : List ℕ) → Unit → After
taken_before h s desk t used rest (Whole w) =
    timed s t used (λ time. whole_taken s time used (Some (next_before time (Whole w))) w (data_of rest (Whole w)))
taken_before h s desk t used rest (Part x) =
    timed s t used (λ time. part_taken h s desk time used (Some (next_before time (Part x))) x (data_of rest (Part x)))
taken_before h s desk t used rest End = taken h s desk t used rest End
taken_before h s desk t used rest (Skipped y) = taken h s desk t used rest (Skipped y)
taken_before h s desk t used rest (Refused r) = taken h s desk t used rest (Refused r)
taken_before h s desk t used rest (Description w) = taken h s desk t used rest (Description w)

abbrev pub received_before : Tables → Sender → (rest out : List ℕ) → Done
received_before s who rest out =
    let n = desks_of s.marks in
    let o = own_of n s who.desk who.time out in
    settled n s who.desk who.time
    (gated (stranger n who.desk or lacking n s) o who.time
    (taken_before (stored_shares n who.desk s.marks) o who.desk who.time (read_of rest).used rest (read_of rest).unit))

-- ---- a payload: a call hands the tables, the time and the rest behind the bytes used to the next. For each call, what others do to the
-- tables before it, and the output that is lent for it
abbrev pub Turns : Type 0
Turns = List ((Tables → Tables) × List ℕ)

abbrev pub over_payload : (call : Tables → Sender → (rest out : List ℕ) → Done) → Tables → Sender → Turns → (rest : List ℕ) → List Done
over_payload call s who [] rest = []
over_payload call s who (turn ∷ turns) rest =
    let d = call (turn.0 s) who rest turn.1 in
    d ∷ over_payload call d.tables (sender who.desk d.answer.next) turns (drop d.answer.used rest)

-- its unit number i, from 0, as the reader finds it
abbrev pub nth_unit : (i : ℕ) → (rest : List ℕ) → Unit
nth_unit zero rest = (read_of rest).unit
nth_unit (suc i) rest = nth_unit i (drop (read_of rest).used rest)

abbrev pub Lasting : (rest : List ℕ) → Type 0
Lasting rest = (i : ℕ) → Endless (nth_unit i rest) → ⊥
