-- What set-up makes and each call keeps holds after any list of calls. Assumes nothing.
use Rattle.std.specs.Prelude.{ℕ, List, [], ◌∷◌}
use Rattle.memory.specs.Relay.{Tables}
use Rattle.peace.specs.Run.{Call, Got, next}

-- the tables after the calls, one after the other
abbrev pub tables_after : Tables → List Call → Tables
tables_after s [] = s
tables_after s (c ∷ cs) = tables_after (next s c) cs

-- what holds of all that the calls of a run get
abbrev pub AllGet : (Got → Type 0) → List (ℕ × Got) → Type 0
AllGet Q [] = Unit {0}
AllGet Q (g ∷ gs) = Q g.1 × AllGet Q gs
