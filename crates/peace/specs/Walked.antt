-- Runs of the relay that walks, as it was before the numbers were stored: from set-up on, every call of every run gets what it gets there.
-- And after any list of calls the stored numbers are what a walk finds. Assumes nothing.
use Rattle.std.specs.Prelude.{ℕ, List, [], ◌∷◌}
use Rattle.memory.specs.Relay.{Tables, looked_up, sender}
use Rattle.good.specs.Good.{name}
use Rattle.good.specs.Walked.{walked_at, walked_given_up}
use Rattle.peace.specs.Run.{Call, receive, give-up, lookup, caller, Got, answered, released, shown}

-- ---- what a call gets there, the tables after it, and a run
abbrev pub got_walked : Tables → Call → Got
got_walked s (receive desk t rest out) =
    answered (walked_at s (sender desk t) rest out).answer (walked_at s (sender desk t) rest out).out
got_walked s (give-up desk time) = released (walked_given_up s (name desk time)).answer
got_walked s (lookup desk index book) = shown (looked_up s.marks s.stores desk index book)

abbrev pub next_walked : Tables → Call → Tables
next_walked s (receive desk t rest out) = (walked_at s (sender desk t) rest out).tables
next_walked s (give-up desk time) = (walked_given_up s (name desk time)).tables
next_walked s (lookup desk index book) = s

abbrev pub run_walked : Tables → List Call → List (ℕ × Got)
run_walked s [] = []
run_walked s (c ∷ cs) = (caller c, got_walked s c) ∷ run_walked (next_walked s c) cs
