-- `ends::finish` meets its contract: the count that is stored is at most sixteen. Assumes nothing.
use Rattle.std.proofs.Common.{ℕ, ap, ◌∙◌, set, arith}
use Rattle.finished.specs.Times.{marked_row, marked_used}
use Rattle.finished.proofs.Marks.{used-most}
use Rattle.ends.proofs.finish.Goals as goal

pub overflow_cast-used : goal.overflow_cast-used
overflow_cast-used c = omega (arith, c.mark-used.ensures.1, used-most c.word.result)

pub returns : goal.returns
returns c =
    let a = c.args in
    let w = c.word.ensures in
    let m = c.mark-used.ensures in
    (m.0 ∙ ap (λ (n : ℕ). marked_row a.row.now n a.time) w, c.put_word.ensures ∙ ap (set a.marks.now 0) (m.1 ∙ ap marked_used w))
