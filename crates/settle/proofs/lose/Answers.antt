-- `settle::lose` meets its contract: the part is taken at a known time, and gets 18 at an unknown one. Assumes nothing.
use Rattle.std.proofs.Common.{◌∙◌}
use Rattle.sample.specs.Place.{closed}
use Rattle.desk.specs.Desk.{own}
use Rattle.asks.specs.Asked.{timed-known, timed-unknown}
use Rattle.settle.specs.Settles.{lost}
use Rattle.settle.proofs.lose.Goals as goal

pub returns-in-Some : goal.returns-in-Some
returns-in-Some c = λ store.
    let a = c.args in
    let s = own closed a.row.now a.marks.now store a.out.now in
    lost _ _ _ _ store _ _
    (c.lose_at.ensures store ∙ timed-known s a.t a.x.used _ _ c.in-Some.is)

pub returns-in-None : goal.returns-in-None
returns-in-None c = λ store.
    let a = c.args in
    let s = own closed a.row.now a.marks.now store a.out.now in
    lost closed _ a.row.now a.marks.now store a.out.now _
    (rw c.says.ensures (timed-unknown s a.t a.x.used _ c.in-None.is))
