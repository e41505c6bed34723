-- `settle::take_at` meets its contract: the next running time goes in, to the open sample or to the free place. Assumes nothing.
use Rattle.settle.specs.Settles.{taken-open, taken-new}
use Rattle.settle.proofs.take_at.Goals as goal
use Rattle.settle.proofs.take_at.Goals.{then-p, else-p}

pub returns : goal.returns
returns c = λ store.
    let a = c.args in
    elim c.if-p.branch [
      | then-p w ↦
          rw (c.says.ensures, w.p-is, w.row-is, w.marks-is, w.out-is, w.outcome-is)
          (taken-open a.h a.row.now a.marks.now store a.out.now a.desk a.time a.x.used _ a.x.part a.d.now
          c.next_time.ensures a.p.now w.if-p.true _ (w.join-outcome.ensures a.h a.x.used _ store))
      | else-p w ↦
          rw (c.says.ensures, w.p-is, w.row-is, w.marks-is, w.out-is, w.outcome-is)
          (taken-new a.h a.row.now a.marks.now store a.out.now a.desk a.time a.x.used _ a.x.part a.d.now
          c.next_time.ensures a.p.now w.if-p.false _ (w.open-outcome.ensures a.x.used _ store a.out.now))
    ]
