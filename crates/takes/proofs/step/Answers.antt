-- `takes::step` meets its contract: a gate that is shut leaves all as it was; else the desk takes the part, and its place is counted.
-- Assumes nothing.
use Prim.Native.Nat.{ℕ}
use mathlib.Core.Path.{refl, ap, ◌∙◌}
use Rattle.memory.specs.Relay.{store_of, stored_shares}
use Rattle.gate.specs.Tests.{gate-at}
use Rattle.steps.specs.Steps.{step-shut, step_through}
use Rattle.takes.proofs.step.Goals as goal

pub returns-in-Err : goal.returns-in-Err
returns-in-Err c = λ stores len.
    let a = c.args in
    let f = gate-at _ _ _ _ _ _ _ _ _ _ c.gate_at-g.ensures.why refl len in
    step-shut a.table a.p.now a.rows.now a.marks.now stores a.out.now a.who a.x a.rest.now _ f _
    c.in-Err.is _ c.says.ensures

pub returns-in-Ok : goal.returns-in-Ok
returns-in-Ok c = λ stores len.
    let a = c.args in
    let f = gate-at _ _ _ _ _ _ _ _ _ _ c.gate_at-g.ensures.why refl len in
    let h = c.shares-h.ensures ∙ ap (λ (n : ℕ). stored_shares n a.who.desk a.marks.now) c.desks_of.ensures in
    let r = c.row_of.ensures in
    let m = c.marks_of.ensures in
    rw (r.0, r.1)
    (step_through a.table a.p.now a.rows.now a.marks.now stores a.out.now a.who a.x a.rest.now _ f
    c.in-Ok.is _ h _ _ _ _ _ _ c.cut-d.ensures (rw (r.0, r.1, m.0, m.1) at (c.take_part-answer.ensures (store_of a.who.desk stores))) _
    (rw (m.0, m.1) at c.count.ensures))

pub take_part-answer-requires : goal.take_part-answer-requires
take_part-answer-requires c = c.requires
