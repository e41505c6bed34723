-- `slots::forget` meets its contract. The invariant: to forget what is left is to forget all. Assumes nothing.
use Rattle.std.specs.Prelude.{ℕ, ◌+◌, ◌-◌, List, refl}
use Rattle.std.proofs.Common.{arith, ap, sym, ◌∙◌}
use Rattle.paper.specs.Limits.{window}
use Rattle.style.specs.Store.{forgotten_from}
use Rattle.style.specs.Turns.{forgotten-turn, forgotten-end}
use Rattle.slots.proofs.forget.Goals as goal

pub loop-i-init : goal.loop-i-init
loop-i-init c = refl

pub loop-i-preserved : goal.loop-i-preserved
loop-i-preserved c =
    let l = c.loop-i in
    let a = c.args in
    let t = forgotten-turn a.newest a.new l.store l.i window c.loop-i-test.true in
    let e = ap (λ (s : List ℕ). forgotten_from a.newest a.new s (l.i + 1) (window - (l.i + 1))) (sym c.forget_at.ensures) in
    l.invariant ∙ t ∙ e

pub returns : goal.returns
returns c =
    let l = c.loop-i in
    let a = c.args in
    sym (l.invariant ∙ forgotten-end a.newest a.new l.store l.i window (omega arith))
