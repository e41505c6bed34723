-- `strings::well_formed` meets its contract: UTF-8 by its blocks, UTF-16 character by character to the end. Assumes nothing.
use Prim.Native.Nat.{ℕ}
use mathlib.Core.Path.{sym, ap, ◌∙◌}
use Rattle.text.specs.Unicode.{well_formed}
use Rattle.strings.specs.Steps.{led-well}
use Rattle.strings.proofs.well_formed.Goals as goal

pub returns-then-u-eq0 : goal.returns-then-u-eq0
returns-then-u-eq0 c =
    let s = c.args.s.now in
    c.by_blocks.ensures ∙ ap (λ (u : ℕ). well_formed u s) (sym c.if-u-eq0.true)

pub returns : goal.returns
returns c =
    let a = c.args in
    c.is_some.ensures ∙ led-well a.u a.s.now _ c.walked.ensures
