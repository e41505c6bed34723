-- Joining, for every sender: in every run from set-up, of every desk, whatever it and all others send, each part that is kept is told
-- TOTAL less the different parts kept, and each sample that is joined is its parts in THIS order, and fits the output. Assumes nothing.
use Rattle.std.specs.Prelude.{ℕ}
use Rattle.good.specs.View.{View}
use Rattle.joined.specs.Ledger.{Ledger}
use Rattle.joined.specs.Tallies.{Tallies}

-- the desk's place of each time and the ledger's page of it tally
abbrev pub Tally : View → Ledger → Type 0
Tally v L = (t : ℕ) → Tallies (v.at t) (L t)
