-- `others::pass` meets its contract: what the reader found decides, and only whether a sample is open is asked. Assumes nothing.
use Rattle.std.proofs.Common.{refl, ◌∙◌}
use Rattle.desk.specs.Desk.{own}
use Rattle.others.specs.Others.{passed_is, passed-part}
use Rattle.others.proofs.pass.Goals as goal

pub returns-in-End : goal.returns-in-End
returns-in-End c = λ p h.
    let a = c.args in
    let s = own p a.row.now a.marks.now a.store.now a.out.now in
    passed_is s a.t a.rest.now a.r _
    c.in-End.is refl _ (rw c.says.ensures)

pub returns-in-Skipped : goal.returns-in-Skipped
returns-in-Skipped c = λ p h.
    let a = c.args in
    let s = own p a.row.now a.marks.now a.store.now a.out.now in
    passed_is s a.t a.rest.now a.r _
    c.in-Skipped.is refl _ (rw c.says-in-Skipped.ensures)

pub returns-in-Refused : goal.returns-in-Refused
returns-in-Refused c = λ p h.
    let a = c.args in
    let s = own p a.row.now a.marks.now a.store.now a.out.now in
    passed_is s a.t a.rest.now a.r _
    c.in-Refused.is refl _ (rw c.says-in-Refused.ensures)

pub returns-in-Whole : goal.returns-in-Whole
returns-in-Whole c = λ p h.
    let a = c.args in
    let s = own p a.row.now a.marks.now a.store.now a.out.now in
    passed_is s a.t a.rest.now a.r _
    c.in-Whole.is refl _
    (c.whole_at.ensures p a.store.now h ∙ rw c.cut-d.ensures)

pub returns-in-Part : goal.returns-in-Part
returns-in-Part c = λ p h.
    let a = c.args in
    let s = own p a.row.now a.marks.now a.store.now a.out.now in
    passed-part s a.t a.rest.now a.r _
    c.in-Part.is _ (rw c.says-in-Part.ensures)

pub returns-in-Description : goal.returns-in-Description
returns-in-Description c = λ p h.
    let a = c.args in
    let s = own p a.row.now a.marks.now a.store.now a.out.now in
    passed_is s a.t a.rest.now a.r _
    c.in-Description.is refl _
    (c.take_description.ensures p a.row.now a.out.now ∙ rw c.cut-d-in-Description.ensures)
