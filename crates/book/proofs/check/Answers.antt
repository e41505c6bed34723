-- `book::check` meets its contract. The invariant: to check what is left is to check all. Assumes nothing.
use native.Mathlib.Nat.{sub-zero}
use Rattle.std.proofs.Common.{arith, ap, sym, ◌∙◌}
use Rattle.laws.specs.Rows.{branched}
use Rattle.style.specs.Book.{check_from}
use Rattle.style.specs.Turns.{check-here, check-next, check-end}
use Rattle.book.proofs.check.Goals as goal

pub loop-i-init : goal.loop-i-init
loop-i-init c = rw sub-zero

pub returns-then-bad_record : goal.returns-then-bad_record
returns-then-bad_record c =
    let l = c.loop-i in
    let a = c.args in
    let n = c.count-n in
    sym (ap (check_from a.book.now 0) (sym n.ensures) ∙ l.invariant ∙ check-here a.book.now l.i n.result c.loop-i-test.true (branched _ _ _ c.bad_record.ensures c.if-bad_record.true))

pub loop-i-preserved : goal.loop-i-preserved
loop-i-preserved c =
    let l = c.loop-i in
    l.invariant ∙ check-next c.args.book.now l.i c.count-n.result c.loop-i-test.true (branched _ _ _ c.bad_record.ensures c.if-bad_record.false)

pub returns : goal.returns
returns c =
    let l = c.loop-i in
    let a = c.args in
    let n = c.count-n in
    sym (ap (check_from a.book.now 0) (sym n.ensures) ∙ l.invariant ∙ check-end a.book.now l.i n.result (omega arith) (omega arith))
