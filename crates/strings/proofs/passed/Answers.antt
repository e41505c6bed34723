-- `strings::passed` meets its contract: the characters of a block of ASCII end with it. Assumes nothing.
use native.Mathlib.Omega.{arith}
use Prim.Native.Nat.{ℕ, ◌+◌}
use mathlib.Core.Path.{sym, ap, ◌∙◌}
use lib.ListN.{length}
use Rattle.text.specs.Runs.{walked_to}
use Rattle.text.proofs.Runs.{block-end, block_within, ascii-walked}
use Rattle.strings.specs.Steps.{led, led_there}
use Rattle.strings.proofs.passed.Goals as goal

pub overflow_add-to : goal.overflow_add-to
overflow_add-to c =
    let a = c.args in
    omega (arith, block_within a.s.now _ a.at c.cut-block.ensures)

pub returns-then-ascii : goal.returns-then-ascii
returns-then-ascii c =
    let a = c.args in
    let cut = c.cut-block.ensures in
    let to = a.at + length c.cut-block.result.now in
    led_there a.at to to (λ h. h)
    ∙ ap (led a.at to) (ascii-walked a.s.now _ a.at cut (sym c.ascii.ensures ∙ c.if-ascii.true))
    ∙ ap (λ (e : ℕ). led a.at e (walked_to 0 a.s.now a.at e)) (block-end a.s.now _ a.at cut)

pub returns : goal.returns
returns c =
    let a = c.args in
    let cut = c.cut-block.ensures in
    c.by_small.ensures ∙ ap (λ (e : ℕ). led a.at e (walked_to 0 a.s.now a.at e)) (block-end a.s.now _ a.at cut)
