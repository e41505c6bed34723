-- `strings::boundary` meets its contract. The invariant: to go on from here is to go from the start. Assumes nothing.
use native.Mathlib.Omega.{arith}
use mathlib.Core.Path.{refl, sym, ◌∙◌}
use Rattle.text.specs.Unicode.{boundary}
use Rattle.text.specs.Found.{found_some, found_none}
use Rattle.text.proofs.Walk.{reach-on, reach-none, reach-over, reach-end}
use Rattle.strings.proofs.boundary.Goals as goal

pub loop-e-init : goal.loop-e-init
unfolding boundary
loop-e-init c = refl

pub returns-in_default : goal.returns-in_default
returns-in_default c =
    let a = c.args in
    let l = c.loop-e in
    let z = found_none _ (sym c.character.ensures ∙ c.in_default.is) in
    reach-none a.u a.s.now a.limit l.e _ refl z ∙ sym l.invariant

pub returns-then-limit-e : goal.returns-then-limit-e
returns-then-limit-e c =
    let a = c.args in
    let l = c.loop-e in
    let f = found_some _ _ (sym c.character.ensures ∙ c.in-Some.is) in
    reach-over a.u a.s.now a.limit l.e _ f.0 (omega arith) ∙ sym l.invariant

pub loop-e-preserved : goal.loop-e-preserved
loop-e-preserved c =
    let a = c.args in
    let l = c.loop-e in
    let f = found_some _ _ (sym c.character.ensures ∙ c.in-Some.is) in
    l.invariant ∙ reach-on a.u a.s.now a.limit l.e _ f.0 (omega arith) (omega arith)

pub loop-e-smaller : goal.loop-e-smaller
loop-e-smaller c =
    let f = found_some _ _ (sym c.character.ensures ∙ c.in-Some.is) in
    omega arith

pub returns : goal.returns
returns c =
    let a = c.args in
    let l = c.loop-e in
    reach-end a.u a.s.now a.limit l.e (omega arith) ∙ sym l.invariant
