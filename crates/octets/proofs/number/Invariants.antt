use Rattle.std.proofs.Common.{◌≡◌, ◌<◌, ◌^◌}
use Rattle.octets.specs.Be.{be_at}
use Rattle.octets.proofs.number.Given as goal

abbrev pub invariant-loop-k : goal.invariant-loop-k
invariant-loop-k g l = (l.number ≡ be_at l.k l.fn.s l.i) × (l.number < 256 ^ l.k)
