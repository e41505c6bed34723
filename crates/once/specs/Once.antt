-- Handed out once: a sample whose payloads all come to a modest desk is handed out at exactly one call, whatever all others do.
-- Assumes nothing.
use Rattle.std.specs.Prelude.{ℕ, ◌≤◌, ◌≡◌, List}
use Rattle.std.proofs.Math.Bool.{false}
use Rattle.writer.specs.Write.{Caption, count}
use Rattle.peace.specs.Run.{Call}
use Rattle.once.specs.Ours.{Comes}
use Rattle.once.specs.Due.{Stage, gathering, finished}

-- how often the sample is still to be handed out, and what has to come for that
abbrev pub remaining : Stage → ℕ
remaining (gathering came) = 1
remaining (finished since) = 0

abbrev pub Awaits : Caption → (M time : ℕ) → Stage → List Call → Type 0
Awaits c M time (gathering came) xs = (k : ℕ) → 1 ≤ k → k ≤ count c M → came k ≡ false → Comes c M time k xs
Awaits c M time (finished since) xs = Unit {0}
