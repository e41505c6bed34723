-- `frees::free` meets its contract: whether i is below both says whether a place is closed. Assumes nothing.
use Rattle.std.proofs.Common.{ap, ◌∙◌, arith, slice_set, inl, inr}
use Rattle.sample.specs.Place.{closed}
use Rattle.table.proofs.Stored.{stored-in, stored-out}
use Rattle.frees.proofs.free.Goals as goal
use Rattle.frees.proofs.free.Goals.{else-i-m-via-then-i-m+else-i-t, else-i-m-via-else-i-m}

pub returns-then-i-t : goal.returns-then-i-t
returns-then-i-t c =
    ap (slice_set c.args.t.now c.args.i) c.closed.ensures
    ∙ stored-in c.args.t.now c.args.m c.args.i closed (c.if-i-m.true, c.if-i-t.true)

pub returns-else-i-m : goal.returns-else-i-m
returns-else-i-m c =
    stored-out c.args.t.now c.args.m c.args.i closed
    (elim c.else-i-m.branch [ else-i-m-via-then-i-m+else-i-t w ↦ inr w.if-i-t.false | else-i-m-via-else-i-m w ↦ inl w.if-i-m.false ])
