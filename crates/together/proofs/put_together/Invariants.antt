-- `together::put_together` meets its contract. The invariant: to lay the parts that are left is to lay all. Assumes nothing.
use Rattle.std.proofs.Common.{◌≡◌, ◌≤◌, ◌+◌, ◌-◌, ◌*◌}
use Rattle.std.proofs.lemmas.List.Edits.{sets}
use Rattle.joining.specs.Joining.{together}
use Rattle.sample.specs.Place.{pieces_in}
use Rattle.together.proofs.put_together.Given as goal

abbrev pub invariant-loop-k : goal.invariant-loop-k
invariant-loop-k l = record {
  most : l.at ≤ l.k * 1024;
  laid : sets l.fn.out 0 (together (pieces_in l.p.kinds l.p.starts l.p.lens l.p.bytes 1 l.n))
      ≡ sets l.out l.at (together (pieces_in l.p.kinds l.p.starts l.p.lens l.p.bytes (l.k + 1) (l.n - l.k)));
}
