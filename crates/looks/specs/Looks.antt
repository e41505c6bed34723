-- What of the table is looked at, and which place is kept or freed. Assumes nothing.
use Rattle.std.specs.Prelude.{ℕ, min, List, take, Option, Some, None, Ok, Err}
use Rattle.laws.specs.Rows.{◌⇒◌⁏◌, ◌and◌, ◌<?◌}
use Rattle.paper.specs.Limits.{desks_most, places}
use Rattle.paper.specs.Words.{by_time}
use Rattle.paper.specs.declared.Name.{Name}
use Rattle.paper.specs.declared.Sender.{Sender}
use Rattle.paper.specs.Time.{Time}
use Rattle.unit.specs.declared.Unit.{Unit}
use Rattle.desk.specs.GivenUp.{GivenUp}
use Rattle.desk.specs.Desk.{is_text}
use Rattle.sample.specs.declared.Place.{Place}
use Rattle.memory.specs.Relay.{sender}
use Rattle.memory.specs.Table.{vacant, is_at}
use Rattle.table.specs.Table.{holds, place_where}

-- ---- what is looked at: of `len` places that are lent, those of n desks
unfoldable pub reach_of : (n len : ℕ) → ℕ
reach_of n len = desks_most <? n ⇒ 0 ⁏ min (places n) len

-- none at an unknown time
abbrev pub reach_at : (n : ℕ) → Time → (len : ℕ) → ℕ
reach_at n t len = by_time t (λ time. reach_of n len) 0

-- none where the unit names no sample
abbrev pub reach_for : (n : ℕ) → Time → (len : ℕ) → Unit → ℕ
reach_for n t len u = is_text u ⇒ reach_at n t len ⁏ 0

-- the lowest free place is looked for only where the sample was not found among the first m places
unfoldable pub asked_of : (at m : ℕ) → ℕ
asked_of at m = at <? m ⇒ 0 ⁏ m

-- where a part is kept: in the place of its sample, else in the lowest free one, where the part does not end its sample at once; `len`
-- where in none
unfoldable pub spot_of : (at low m len total : ℕ) → ℕ
spot_of at low m len total = at <? m ⇒ at ⁏ low <? m and 1 <? total ⇒ low ⁏ len

-- the same, and none where it is kept in none
unfoldable pub spot_in : (desk : ℕ) → Time → (m total : ℕ) → List Place → Option ℕ
spot_in desk t m total l =
    holds (is_at desk t) (take m l) ⇒ place_where (is_at desk t) (take m l)
    ⁏ 1 <? total ⇒ place_where vacant (take m l)
    ⁏ None

-- whose sample a name is: its desk's, at its time
abbrev pub sender_of : Name → Sender
sender_of who = sender who.desk (Some who.time)

-- which place is to be freed after a give-up: `len` where none
abbrev pub freed_at : GivenUp → (at len : ℕ) → ℕ
freed_at (Ok u) at len = at
freed_at (Err r) at len = len
