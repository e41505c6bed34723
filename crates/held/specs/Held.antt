-- What a call over a table by value answers: the table after it, and the call's own answer. Assumes nothing.
use Rattle.std.specs.Prelude.{ℕ, List}
use Rattle.paper.specs.declared.Answer.{Answer}
use Rattle.sample.specs.declared.Place.{Place}
use Rattle.desk.specs.GivenUp.{GivenUp}
use Rattle.memory.specs.Started.{Started}
use Rattle.memory.specs.Relay.{tables}
use Rattle.memory.specs.Lent.{Slice, Lent}
use Rattle.held.specs.declared.With.{With}

abbrev pub Begun : Type 0
Begun = With Started

abbrev pub Called : Type 0
Called = With Answer

abbrev pub Yielded : Type 0
Yielded = With GivenUp

abbrev pub begun : List Place → Started → Begun
begun places answer = record { places = places; answer = answer }

abbrev pub called : List Place → Answer → Called
called places answer = record { places = places; answer = answer }

abbrev pub yielded : List Place → GivenUp → Yielded
yielded places answer = record { places = places; answer = answer }

-- the memory of such a call: the table that was handed in and the one that was handed back, with what was lent
abbrev pub kept : (places places' : List Place) → (rows marks stores : Slice ℕ) → Lent
kept places places' rows marks stores = record {
  entry = tables places rows.entry.now marks.entry.now stores.entry.now;
  exit = tables places' rows.exit.now marks.exit.now stores.exit.now;
}

abbrev pub kept_three : (places places' : List Place) → (rows marks : Slice ℕ) → (stores : List ℕ) → Lent
kept_three places places' rows marks stores = record {
  entry = tables places rows.entry.now marks.entry.now stores;
  exit = tables places' rows.exit.now marks.exit.now stores;
}
