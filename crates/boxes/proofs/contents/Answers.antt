-- `boxes::contents` meets its contract: in each arm the step found that variant. Assumes nothing.
use native.Mathlib.Omega.{arith}
use mathlib.Core.Path.{◌∙◌, ◌≡◌}
use Rattle.std.specs.Prelude.{Some, None, Ok}
use Rattle.std.proofs.Common.{ap}
use Rattle.octets.specs.Be.{four-bytes}
use Rattle.boxes.proofs.Stepping.{contents-is, further}
use Rattle.boxes.proofs.contents.Goals as goal

pub overflow_add-at : goal.overflow_add-at
overflow_add-at c =
    let a = c.args in
    let i : c.step.result.found ≡ Ok c.in-Ok-Some.field-0 = c.in-Ok-Some.is in
    let j : c.in-Ok-Some.field-0 ≡ Some c.in-Ok-Some.field-0-0 = rw c.in-Ok-Some.is at c.in-Ok-Some.field-0-is in
    omega (arith, further a.m.now a.at {t = c.in-Ok-Some.field-0-0} (rw (← c.step.ensures) (i ∙ ap Ok j)))

pub returns-in-Ok-Some : goal.returns-in-Ok-Some
returns-in-Ok-Some c =
    let a = c.args in
    let i : c.step.result.found ≡ Ok c.in-Ok-Some.field-0 = c.in-Ok-Some.is in
    let j : c.in-Ok-Some.field-0 ≡ Some c.in-Ok-Some.field-0-0 = rw c.in-Ok-Some.is at c.in-Ok-Some.field-0-is in
    let e = contents-is a.m.now a.at _ (Ok (Some c.in-Ok-Some.field-0-0)) c.step.ensures (i ∙ ap Ok j) in
    c.cut.ensures ∙ rw (c.saturating_sub.ensures, c.number-size.ensures.0, four-bytes) e

pub returns-in-Ok-None : goal.returns-in-Ok-None
returns-in-Ok-None c =
    let a = c.args in
    let i : c.step.result.found ≡ Ok c.in-Ok-None.field-0 = c.in-Ok-None.is in
    let j : c.in-Ok-None.field-0 ≡ None = rw c.in-Ok-None.is at c.in-Ok-None.field-0-is in
    c.cut-in-Ok-None.ensures ∙ contents-is a.m.now a.at _ (Ok None) c.step.ensures (i ∙ ap Ok j)

pub returns-in-Err : goal.returns-in-Err
returns-in-Err c =
    let a = c.args in
    c.cut-in-Err.ensures ∙ contents-is a.m.now a.at _ _ c.step.ensures c.in-Err.is
