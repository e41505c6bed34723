-- `yields::pass_step` meets its contract: a gate that is shut leaves all as it was, and else the desk passes the unit. Assumes nothing.
use mathlib.Core.Path.{refl}
use Rattle.gate.specs.Tests.{gate-at}
use Rattle.steps.specs.Steps.{pass-shut, pass-through}
use Rattle.yields.proofs.pass_step.Goals as goal

pub returns-in-Err : goal.returns-in-Err
returns-in-Err c = λ p o.
    let a = c.args in
    let f = gate-at _ _ _ _ _ _ _ _ _ _ c.gate_at-g.ensures.why refl refl in
    pass-shut a.table p a.rows.now a.marks.now a.stores.now a.out.now a.who a.r a.rest.now _ f _
    c.in-Err.is _ c.says.ensures

pub returns-in-Ok : goal.returns-in-Ok
returns-in-Ok c = λ p o.
    let a = c.args in
    let f = gate-at _ _ _ _ _ _ _ _ _ _ c.gate_at-g.ensures.why refl refl in
    let r = c.row_of.ensures in
    let m = c.marks_of.ensures in
    let s = c.store_of.ensures in
    rw (r.0, r.1, m.0, m.1, s.0, s.1)
    (pass-through a.table p a.rows.now a.marks.now a.stores.now a.out.now a.who a.r a.rest.now _ f
    c.in-Ok.is _ _ _ _ _ (rw (r.0, r.1, m.0, m.1, s.0, s.1) at (c.pass.ensures p o)))
