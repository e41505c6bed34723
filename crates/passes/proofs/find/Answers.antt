-- `passes::find` meets its contract. The invariant: to pass over what is left is to pass over all. Assumes nothing.
use native.Mathlib.Omega.{arith}
use mathlib.Core.Path.{refl}
use Rattle.writer.proofs.Find.{passed_on, passed-all, next-inside, next-further}
use Rattle.passes.proofs.find.Goals as goal

pub loop-e-init : goal.loop-e-init
loop-e-init c = record { inside = omega arith; counted = omega arith; same = refl }

pub returns-then-next-e : goal.returns-then-next-e
returns-then-next-e c =
    let a = c.args in
    let l = c.loop-e in
    (passed-all a.u a.k a.number a.s.now l.f l.e c.boundary-next.result l.invariant c.boundary-next.ensures c.if-next-e.true, omega arith)

pub turn-f-requires : goal.turn-f-requires
turn-f-requires c =
    let a = c.args in
    let l = c.loop-e in
    omega (arith, next-further a.u a.k a.number a.s.now l.f l.e c.boundary-next.result l.invariant c.boundary-next.ensures)

pub loop-e-smaller : goal.loop-e-smaller
loop-e-smaller c =
    let a = c.args in
    let l = c.loop-e in
    let b = c.boundary-next in
    omega (
      arith,
      next-further a.u a.k a.number a.s.now l.f l.e b.result l.invariant b.ensures,
      next-inside a.u a.k a.number a.s.now l.f l.e b.result l.invariant b.ensures,
    )

pub loop-e-preserved : goal.loop-e-preserved
loop-e-preserved c =
    let a = c.args in
    let l = c.loop-e in
    let b = c.boundary-next in
    passed_on a.u a.k a.number a.s.now l.f l.e b.result l.invariant b.ensures c.if-next-e.false c.turn-f.result c.turn-f.ensures
