-- `finder::length` meets its contract: what is cut off behind `at` is all that stands there. Assumes nothing.
use Prim.Native.Nat.{ℕ}
use mathlib.Core.Path.{sym, ap, ◌∙◌}
use mathlib.Core.List.{List}
use lib.ListN.{drop}
use Rattle.std.specs.Prelude.{Option, unwrap_or}
use Rattle.text.specs.Unicode.{character}
use Rattle.text.specs.Found.{found_or}
use Rattle.text.specs.Laws.{all-behind}
use Rattle.text.proofs.Finder.{sixteen_is, one_bit}
use Rattle.finder.proofs.length.Goals as goal

pub returns-then-u-eq0 : goal.returns-then-u-eq0
returns-then-u-eq0 c =
    let a = c.args in
    let rest = drop a.at a.s.now in
    c.unwrap_or.ensures
    ∙ ap (λ (x : Option ℕ). unwrap_or x 0) c.eight.ensures
    ∙ found_or _
    ∙ ap (λ (b : List ℕ). character 0 b) (c.cut-rest.ensures ∙ all-behind a.s.now a.at)
    ∙ ap (λ (u : ℕ). character u rest) (sym c.if-u-eq0.true)

pub returns-else-u-eq0 : goal.returns-else-u-eq0
returns-else-u-eq0 c =
    let a = c.args in
    let rest = drop a.at a.s.now in
    c.unwrap_or-else-u-eq0.ensures
    ∙ ap (λ (x : Option ℕ). unwrap_or x 0) c.sixteen.ensures
    ∙ found_or _
    ∙ sym (sixteen_is _)
    ∙ ap (λ (b : List ℕ). character 1 b) (c.cut-rest.ensures ∙ all-behind a.s.now a.at)
    ∙ one_bit a.u rest c.if-u-eq0.false
