-- What a call is lent, as it was before the call and as it is after it, and what each call of the relay promises of the two: all that is
-- left, and the answer, are what the definition makes of all that was there. Assumes nothing.
use Rattle.std.specs.Prelude.{ℕ, ◌≡◌, List}
use Rattle.std.specs.Borrow.{Bor, MutBor}
use denote.Triple.Both.{Both}
use Rattle.paper.specs.declared.Answer.{Answer}
use Rattle.paper.specs.declared.Name.{Name}
use Rattle.paper.specs.declared.Sender.{Sender}
use Rattle.sample.specs.declared.Place.{Place}
use Rattle.desk.specs.GivenUp.{GivenUp}
use Rattle.memory.specs.Started.{Started}
use Rattle.memory.specs.Relay.{Tables, tables, prepared, set_up, done, received_at, released, given_up_at}

-- a slice that is lent to be written, one that is lent to be read, and the tables
abbrev pub Slice : Type 0 → Type 0
Slice X = Both (MutBor (List X)) (MutBor (List X))

abbrev pub ReadSlice : Type 0 → Type 0
ReadSlice X = Both (Bor (List X)) (Bor (List X))

abbrev pub Lent : Type 0
Lent = Both Tables Tables

abbrev pub lent : Slice Place → (rows marks stores : Slice ℕ) → Lent
lent places rows marks stores = record {
  entry = tables places.entry.now rows.entry.now marks.entry.now stores.entry.now;
  exit = tables places.exit.now rows.exit.now marks.exit.now stores.exit.now;
}

-- where no store is lent: whatever it holds
abbrev pub lent_three : Slice Place → (rows marks : Slice ℕ) → (stores : List ℕ) → Lent
lent_three places rows marks stores = record {
  entry = tables places.entry.now rows.entry.now marks.entry.now stores;
  exit = tables places.exit.now rows.exit.now marks.exit.now stores;
}

-- ---- the calls
abbrev pub SetsUp : (n : ℕ) → Lent → Started → Type 0
SetsUp n l r = prepared l.exit r ≡ set_up n l.entry

abbrev pub Receives : Lent → Sender → (rest : ReadSlice ℕ) → (out : Slice ℕ) → Answer → Type 0
Receives l who rest out a = done l.exit out.exit.now a ≡ received_at l.entry who rest.entry.now out.entry.now

abbrev pub GivesUp : (List ℕ → Lent) → Name → GivenUp → Type 0
GivesUp l who r = (stores : List ℕ) → released (l stores).exit r ≡ given_up_at (l stores).entry who
