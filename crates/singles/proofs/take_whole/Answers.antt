-- `singles::take_whole` meets its contract: each return is one of the laws of TYPE 1. Assumes nothing.
use Rattle.std.proofs.Common.{◌∙◌}
use Rattle.desk.specs.Desk.{own}
use Rattle.singles.specs.Singles.{whole-late, whole_open, whole-size, whole_out}
use Rattle.singles.proofs.take_whole.Goals as goal

pub returns-then-is_late : goal.returns-then-is_late
returns-then-is_late c = λ p store h.
    let a = c.args in
    let s = own p a.row.now a.marks.now store a.out.now in
    whole-late s a.time a.used _ a.w a.d.now c.add_time-next.ensures _
    c.is_late.ensures c.if-is_late.true _ c.says.ensures

pub returns-then-is_open : goal.returns-then-is_open
returns-then-is_open c = λ p store h.
    let a = c.args in
    let s = own p a.row.now a.marks.now store a.out.now in
    whole_open s a.time a.used _ a.w a.d.now c.add_time-next.ensures _
    c.is_late.ensures c.if-is_late.false (h ∙ c.if-is_open.true) _ c.says-then-is_open.ensures

pub returns-then-w-gt-SAMPLE_MOST : goal.returns-then-w-gt-SAMPLE_MOST
returns-then-w-gt-SAMPLE_MOST c = λ p store h.
    let a = c.args in
    let s = own p a.row.now a.marks.now store a.out.now in
    whole-size s a.time a.used _ a.w a.d.now c.add_time-next.ensures _
    c.is_late.ensures c.if-is_late.false
    (h ∙ c.if-is_open.false) c.if-w-gt-SAMPLE_MOST.true _ c.says-then-w-gt-SAMPLE_MOST.ensures

pub returns : goal.returns
returns c = λ p store h.
    let a = c.args in
    let s = own p a.row.now a.marks.now store a.out.now in
    whole_out s a.time a.used _ a.w a.d.now
    c.add_time-next.ensures _ c.is_late.ensures c.if-is_late.false (h ∙ c.if-is_open.false) c.if-w-gt-SAMPLE_MOST.false _ _ _
    c.finish.ensures.0 c.finish.ensures.1 c.put.ensures _ c.says-2.ensures
