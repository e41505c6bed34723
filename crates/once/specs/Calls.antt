-- One call of the desk, whichever it is: if it counts it gets what is due to it, and the desk has afterwards what the next stage says.
-- Assumes nothing.
use Rattle.std.specs.Prelude.{ℕ, Bool, false}
use Rattle.laws.specs.Rows.{◌⇒◌⁏◌}
use Rattle.unit.specs.Layout.{read_of}
use Rattle.writer.specs.Write.{Caption}
use Rattle.peace.specs.Run.{Call, receive, give-up, lookup}
use Rattle.once.specs.Ours.{counts, payload_number}
use Rattle.once.specs.Due.{Stage, hands_out, due}

-- whether what is due to the call is the sample
abbrev pub handing_due : Caption → (M time : ℕ) → Stage → Call → Bool
handing_due c M time s (receive desk at rest out) =
    counts time (receive desk at rest out) ⇒ hands_out (due c M time s (payload_number (read_of rest).unit)) ⁏ false
handing_due c M time s (give-up desk at) = false
handing_due c M time s (lookup desk index book) = false
