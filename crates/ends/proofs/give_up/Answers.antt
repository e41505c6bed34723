-- `ends::give_up` meets its contract: an open sample is freed, and there is none to free else. Assumes nothing.
use Rattle.desk.specs.Desk.{own}
use Rattle.ends.specs.Ends.{given-freed, given-none}
use Rattle.ends.proofs.give_up.Goals as goal

pub returns : goal.returns
returns c = λ p store out u.
    let a = c.args in
    let s = own p a.row.now a.marks.now store out in
    given-freed s a.time _ u c.if-not-is_open.false _ _ c.finish.ensures.0 c.finish.ensures.1

pub returns-then-not-is_open : goal.returns-then-not-is_open
returns-then-not-is_open c = λ p store out u.
    let a = c.args in
    let s = own p a.row.now a.marks.now store out in
    given-none s a.time _ u c.if-not-is_open.true
