-- `begins::open` meets its contract: a part that is barred leaves the free place, else the place is the new sample. Assumes nothing.
use Rattle.std.proofs.Common.{◌≡◌, ap, ◌∙◌}
use Rattle.paper.specs.declared.Outcome.TheVariants as O
use Rattle.sample.specs.declared.Place.{Place}
use Rattle.sample.specs.Place.{opened, kept, missing}
use Rattle.desk.specs.Desk.{says}
use Rattle.begins.specs.Begins.{laid_none, laid-new, used-new, new_not, new_kept}
use Rattle.begins.proofs.open.Goals as goal

pub returns-in-Err : goal.returns-in-Err
returns-in-Err c = λ used next store out.
    let a = c.args in
    laid_none a.p.now c.requires.0 _ a.row.now a.marks.now store out _
    (new_not a.h a.row.now a.marks.now store out a.desk a.time used next a.x a.d.now
    _ _ c.is_late-late.ensures (c.is_too_much.ensures a.desk a.time) _ c.find_bar.ensures _ c.in-Err.is)

pub returns-in-Ok : goal.returns-in-Ok
returns-in-Ok c = λ used next store out.
    let a = c.args in
    let new = opened a.desk a.time a.x in
    let is : c.keep.new.p ≡ kept new a.x a.d.now = c.keep.ensures ∙ ap (λ (p : Place). kept p a.x a.d.now) c.opened.ensures in
    rw (c.missing.ensures, is)
    (laid-new a.p.now c.requires.0 (says used next (O.Kept (missing (kept new a.x a.d.now)))) a.row.now a.marks.now store out _
    _ (used-new a.desk a.time a.x a.d.now)
    (new_kept a.h a.row.now a.marks.now store out a.desk a.time used next a.x a.d.now
    _ _ c.is_late-late.ensures (c.is_too_much.ensures a.desk a.time) _ c.find_bar.ensures c.in-Ok.is c.requires.1))
