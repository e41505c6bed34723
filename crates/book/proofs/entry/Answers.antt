-- `book::entry` meets its contract. The invariant: to look through what is left is to look through all. Assumes nothing.
use native.Mathlib.Nat.{sub-zero}
use Rattle.std.proofs.Common.{arith, ap, sym, ◌∙◌}
use Rattle.style.specs.Record.{description_of}
use Rattle.style.specs.Turns.{entry_here, entry_next, entry-end}
use Rattle.book.proofs.entry.Goals as goal

pub loop-i-init : goal.loop-i-init
loop-i-init c = rw sub-zero

pub returns-then-index_at-index : goal.returns-then-index_at-index
returns-then-index_at-index c =
    let l = c.loop-i in
    let a = c.args in
    c.description_of.ensures ∙ ap description_of c.record_at.ensures
    ∙ sym (l.invariant ∙ entry_here a.book.now l.i a.n a.index c.loop-i-test.true (omega arith))

pub loop-i-preserved : goal.loop-i-preserved
loop-i-preserved c =
    let l = c.loop-i in
    let a = c.args in
    l.invariant ∙ entry_next a.book.now l.i a.n a.index c.loop-i-test.true (λ e. omega arith)

pub returns : goal.returns
returns c =
    let l = c.loop-i in
    let a = c.args in
    sym (l.invariant ∙ entry-end a.book.now l.i a.n a.index (omega arith))
