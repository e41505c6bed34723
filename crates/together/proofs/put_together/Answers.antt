-- `together::put_together` meets its contract. The invariant: to lay the parts that are left is to lay all. Assumes nothing.
use Rattle.std.proofs.Common.{◌+◌, ◌-◌, ◌++◌, ◌≡◌, ap, sym, ◌∙◌, length, get_or, arith}
use Rattle.laws.specs.Region.{sets-append}
use Rattle.joining.specs.Joining.{together}
use Rattle.sample.specs.Place.{pieces_in, pieces_of}
use Rattle.sample.specs.Turns.{length-part-all, together-turn, together-end}
use Rattle.together.proofs.put_together.Goals as goal

pub loop-k-preserved : goal.loop-k-preserved
loop-k-preserved c =
    let l = c.loop-k in
    let p = c.args.p.now in
    let n = c.min-n.result in
    let few = length-part-all (get_or p.starts l.k 0) (get_or p.lens l.k 0) p.bytes in
    let bytes = c.cut-data.result.now in
    let rest = together (pieces_in p.kinds p.starts p.lens p.bytes (l.k + 1 + 1) (n - (l.k + 1))) in
    let turn : together (pieces_in p.kinds p.starts p.lens p.bytes (l.k + 1) (n - l.k)) ≡ bytes ++ rest =
    rw c.cut-data.ensures (together-turn p.kinds p.starts p.lens p.bytes l.k n (omega arith)) in
    record {
      most = omega (arith, few, ap length c.cut-data.ensures);
      laid = l.invariant.laid ∙ rw (turn, c.put.ensures) (sets-append bytes rest l.out l.at);
    }

pub returns : goal.returns
unfolding pieces_of
returns c =
    let l = c.loop-k in
    let p = c.args.p.now in
    let done = together-end p.kinds p.starts p.lens p.bytes l.k c.min-n.result (omega arith) in
    rw (← c.min-n.ensures) (sym (rw done at l.invariant.laid))
