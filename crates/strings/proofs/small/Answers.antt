-- `strings::small` meets its contract: the characters of a block of ASCII end with it. Assumes nothing.
use native.Mathlib.Omega.{arith}
use Prim.Native.Nat.{ℕ}
use mathlib.Core.Path.{sym, ap, ◌∙◌}
use Rattle.text.specs.Runs.{walked_to}
use Rattle.strings.specs.Steps.{small_end, small-end, small-walked, led, led_there}
use Rattle.strings.proofs.small.Goals as goal

pub returns-then-ascii : goal.returns-then-ascii
unfolding small_end
returns-then-ascii c =
    let a = c.args in
    let least = c.min.ensures in
    let less = c.saturating_sub.ensures in
    let all = sym c.ascii.ensures ∙ c.if-ascii.true in
    led_there a.at (small_end a.at a.to) _ (λ h. omega arith)
    ∙ ap (led a.at (small_end a.at a.to)) (small-walked a.at a.to _ _ least less a.s.now (omega arith) (omega arith) all)

pub returns : goal.returns
returns c =
    let a = c.args in
    let least = c.min.ensures in
    let less = c.saturating_sub.ensures in
    c.walked.ensures ∙ ap (λ (e : ℕ). led a.at e (walked_to 0 a.s.now a.at e)) (small-end a.at a.to _ _ least less)
