-- `settle::lose_at` meets its contract: a part that is barred leaves nothing, else it is completed in a place of the call. Assumes nothing.
use Rattle.std.proofs.Common.{◌≡◌, ap, ◌∙◌}
use Rattle.sample.specs.declared.Place.{Place}
use Rattle.sample.specs.Place.{closed, opened, kept}
use Rattle.desk.specs.Desk.{own, completed}
use Rattle.begins.specs.Begins.{new_not, new-now}
use Rattle.settle.specs.Settles.{lost, part-new}
use Rattle.settle.proofs.lose_at.Goals as goal
use Rattle.settle.proofs.lose_at.Goals.{in-Err, in-Ok}

pub returns : goal.returns
returns c = λ store.
    let a = c.args in
    let row = a.row.now in
    let marks = a.marks.now in
    let x = a.x.part in
    let used = a.x.used in
    let d = a.d.now in
    let out = a.out.now in
    let next = c.next_time.result in
    let new = part-new a.h row marks store out a.desk a.time used next x d c.next_time.ensures in
    elim c.match-find_bar.branch [
      | in-Err w ↦
          rw (c.says.ensures, w.row-is, w.marks-is, w.out-is, w.outcome-is)
          (lost closed _ row marks store out _
          (new_not a.h row marks store out a.desk a.time used next x d
          _ _ c.is_late-late.ensures (c.is_too_much.ensures a.desk a.time) _ c.find_bar.ensures _ w.in-Err.is ∙ new))
      | in-Ok w ↦
          let is : w.keep.new.p ≡ kept (opened a.desk a.time x) x d =
          w.keep.ensures ∙ ap (λ (p : Place). kept p x d) w.opened-p.ensures in
          rw (c.says.ensures, w.row-is, w.marks-is, w.out-is, w.outcome-is)
          (lost _ _ _ _ store _ _
          (w.complete-outcome.ensures closed used next store
          ∙ ap (completed (own closed row marks store out) a.time used next) is
          ∙ new-now a.h row marks store out a.desk a.time used next x d
          _ _ c.is_late-late.ensures (c.is_too_much.ensures a.desk a.time) _ c.find_bar.ensures w.in-Ok.is
          ∙ new))
    ]
