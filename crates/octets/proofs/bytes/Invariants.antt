-- `octets::bytes` meets its contract. The invariant: the last k bytes are those of x, and the rest of x is ahead. Assumes nothing.
use Rattle.std.proofs.Common.{◌≡◌, ◌-◌, ◌/◌, ◌^◌, length, drop}
use Rattle.octets.specs.Be.{be_bytes}
use Rattle.octets.proofs.bytes.Given as goal

abbrev pub invariant-loop-k : goal.invariant-loop-k
invariant-loop-k g l =
    (length l.bytes ≡ g.row.N) × (drop (g.row.N - l.k) l.bytes ≡ be_bytes l.k l.x) × (l.rest ≡ l.x / 256 ^ l.k)
