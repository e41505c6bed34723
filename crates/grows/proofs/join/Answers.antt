-- `grows::join` meets its contract: each return is the law of the first test that holds. Assumes nothing.
use Rattle.std.proofs.Common.{refl}
use Rattle.desk.specs.Desk.{own}
use Rattle.grows.specs.Grows.{no_six, not-used-up, join-late, join-repeat, join-conflict, join-size, join_kept}
use Rattle.grows.proofs.join.Goals as goal

pub returns-then-is_late : goal.returns-then-is_late
returns-then-is_late c = λ h used next store.
    let a = c.args in
    let s = own a.p.now a.row.now a.marks.now store a.out.now in
    join-late h s a.time used next a.p.now a.x a.d.now _ c.is_late.ensures c.if-is_late.true _ refl

pub returns-then-repeats : goal.returns-then-repeats
returns-then-repeats c = λ h used next store.
    let a = c.args in
    let s = own a.p.now a.row.now a.marks.now store a.out.now in
    join-repeat h s a.time used next a.p.now a.x a.d.now _ c.is_late.ensures c.if-is_late.false
    _ c.repeats.ensures c.if-repeats.true _ refl

pub returns-then-does_conflict : goal.returns-then-does_conflict
returns-then-does_conflict c = λ h used next store.
    let a = c.args in
    let s = own a.p.now a.row.now a.marks.now store a.out.now in
    join-conflict h s a.time used next a.p.now a.x a.d.now _ c.is_late.ensures c.if-is_late.false
    _ c.repeats.ensures c.if-repeats.false _ c.does_conflict.ensures c.if-does_conflict.true _ refl

pub returns-then-oversize : goal.returns-then-oversize
returns-then-oversize c = λ h used next store.
    let a = c.args in
    let s = own a.p.now a.row.now a.marks.now store a.out.now in
    join-size h s a.time used next a.p.now a.x a.d.now _ c.is_late.ensures c.if-is_late.false
    _ c.repeats.ensures c.if-repeats.false _ c.does_conflict.ensures c.if-does_conflict.false
    _ c.oversize.ensures c.if-oversize.true _ refl

pub returns : goal.returns
returns c = λ h used next store.
    let a = c.args in
    let p = a.p.now in
    let s = own p a.row.now a.marks.now store a.out.now in
    join_kept h s a.time used next p a.x a.d.now _ c.is_late.ensures c.if-is_late.false
    _ c.repeats.ensures c.if-repeats.false _ c.does_conflict.ensures c.if-does_conflict.false
    _ c.oversize.ensures c.if-oversize.false _ (no_six p h c.requires) refl _ (not-used-up p h c.requires) refl
    _ c.keep.ensures _ (c.complete.ensures p used next store)
