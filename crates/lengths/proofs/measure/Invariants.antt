-- `lengths::measure` meets its contract. The invariant: what is counted and what is left make all. Assumes nothing.
use Rattle.std.proofs.Common.{◌≡◌, ◌≤◌, ◌+◌, ◌-◌, ◌*◌, length}
use Rattle.joining.specs.Joining.{together, string_of}
use Rattle.sample.specs.Place.{pieces_in}
use Rattle.lengths.proofs.measure.Given as goal

abbrev pub invariant-loop-k : goal.invariant-loop-k
invariant-loop-k l = record {
  string_most : l.string ≤ l.k * 1024;
  sample_most : l.sample ≤ l.k * 1024;
  string : length (string_of (pieces_in l.p.kinds l.p.starts l.p.lens l.p.bytes 1 l.n))
      ≡ l.string + length (string_of (pieces_in l.p.kinds l.p.starts l.p.lens l.p.bytes (l.k + 1) (l.n - l.k)));
  sample : length (together (pieces_in l.p.kinds l.p.starts l.p.lens l.p.bytes 1 l.n))
      ≡ l.sample + length (together (pieces_in l.p.kinds l.p.starts l.p.lens l.p.bytes (l.k + 1) (l.n - l.k)));
}
