-- `yields::yield_step` meets its contract: the refusals leave all as it was, and else the desk settles it. Assumes nothing.
use native.Mathlib.Omega.{arith}
use Prim.Native.Nat.{ℕ}
use mathlib.Core.Path.{sym, ap, ◌∙◌}
use mathlib.Core.List.{[]}
use lib.ListN.{length}
use Rattle.memory.specs.Relay.{stranger, lacks_three}
use Rattle.gate.specs.Tests.{proper, desk-few, row_within, mark-within}
use Rattle.steps.specs.Steps.{room-three, yield-stranger, yield-lacking, yield-through}
use Rattle.yields.proofs.yield_step.Goals.{then-is_stranger-via-then-is_stranger, then-is_stranger-via-else-is_stranger+then-lacks_three}
use Rattle.yields.proofs.yield_step.Goals as goal

pub lacks_three-requires : goal.lacks_three-requires
lacks_three-requires c = (proper _ _ (sym c.is_stranger.ensures ∙ c.if-is_stranger.false)).0

pub row_of-requires : goal.row_of-requires
row_of-requires c = desk-few (room-three c.args.marks.now _ _ _ _ _ _ c.is_stranger.ensures c.if-is_stranger.false c.lacks_three.ensures c.if-lacks_three.false c.desks_of-n.ensures)

pub offset_bounds-rows-row_of : goal.offset_bounds-rows-row_of
offset_bounds-rows-row_of c = record { fits = omega (arith, c.row_of.ensures, desk-few (room-three c.args.marks.now _ _ _ _ _ _ c.is_stranger.ensures c.if-is_stranger.false c.lacks_three.ensures c.if-lacks_three.false c.desks_of-n.ensures)) }

pub slice_bounds-give_up-end : goal.slice_bounds-give_up-end
slice_bounds-give_up-end c = omega (arith, c.row_of.ensures, row_within (room-three c.args.marks.now _ _ _ _ _ _ c.is_stranger.ensures c.if-is_stranger.false c.lacks_three.ensures c.if-lacks_three.false c.desks_of-n.ensures))

pub marks_of-requires : goal.marks_of-requires
marks_of-requires c = desk-few (room-three c.args.marks.now _ _ _ _ _ _ c.is_stranger.ensures c.if-is_stranger.false c.lacks_three.ensures c.if-lacks_three.false c.desks_of-n.ensures)

pub slice_bounds-give_up-end-2 : goal.slice_bounds-give_up-end-2
slice_bounds-give_up-end-2 c = omega (arith, c.marks_of.ensures, mark-within (room-three c.args.marks.now _ _ _ _ _ _ c.is_stranger.ensures c.if-is_stranger.false c.lacks_three.ensures c.if-lacks_three.false c.desks_of-n.ensures))

pub count-requires : goal.count-requires
count-requires c = desk-few (room-three c.args.marks.now _ _ _ _ _ _ c.is_stranger.ensures c.if-is_stranger.false c.lacks_three.ensures c.if-lacks_three.false c.desks_of-n.ensures)

pub returns-then-is_stranger : goal.returns-then-is_stranger
returns-then-is_stranger c = λ p o.
    let a = c.args in
    let e = c.desks_of-n.ensures in
    let f = c.is_stranger.ensures ∙ ap (λ (n : ℕ). stranger n a.who.desk) e in
    elim c.then-is_stranger.branch [
      | then-is_stranger-via-then-is_stranger w ↦ yield-stranger a.table p a.rows.now a.marks.now a.who _ f w.if-is_stranger.true
      | then-is_stranger-via-else-is_stranger+then-lacks_three w ↦
          yield-lacking a.table p a.rows.now a.marks.now a.who _ f w.if-is_stranger.false _
          (w.lacks_three.ensures ∙ ap (λ (n : ℕ). lacks_three n a.table (length a.rows.now) (length a.marks.now)) e) w.if-lacks_three.true
    ]

pub returns : goal.returns
returns c = λ p o.
    let a = c.args in
    let e = c.desks_of-n.ensures in
    let f = c.is_stranger.ensures ∙ ap (λ (n : ℕ). stranger n a.who.desk) e in
    let k = c.lacks_three.ensures
    ∙ ap (λ (n : ℕ). lacks_three n a.table (length a.rows.now) (length a.marks.now)) e in
    let r = c.row_of.ensures in
    let m = c.marks_of.ensures in
    rw (r.0, r.1)
    (yield-through a.table p a.rows.now a.marks.now a.who _ f c.if-is_stranger.false _ k c.if-lacks_three.false _ _ _ _
    (rw (r.0, r.1, m.0, m.1) at (c.give_up-g.ensures p [] [] o)) _ o _ (rw (m.0, m.1) at c.count.ensures))
