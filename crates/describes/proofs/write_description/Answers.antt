-- `describes::write_description` meets its contract: refusals 12, 13, 14, or the one payload. Assumes nothing.
use Rattle.std.proofs.Common.{sym, ◌∙◌}
use Rattle.writer.proofs.Returns.{described-12, described-13, described-14, described-payload}
use Rattle.describes.proofs.write_description.Goals as goal

pub returns-then-is_undescribed : goal.returns-then-is_undescribed
returns-then-is_undescribed c =
    let a = c.args in
    described-12 a.sidx a.d.now a.m a.number a.out.now (sym c.is_undescribed.ensures ∙ c.if-is_undescribed.true)

pub returns-then-m-d : goal.returns-then-m-d
returns-then-m-d c =
    let a = c.args in
    described-13 a.sidx a.d.now a.m a.number a.out.now (sym c.is_undescribed.ensures ∙ c.if-is_undescribed.false)
    c.if-m-d.true

pub returns-then-number-ne1 : goal.returns-then-number-ne1
returns-then-number-ne1 c =
    let a = c.args in
    described-14 a.sidx a.d.now a.m a.number a.out.now
    (sym c.is_undescribed.ensures ∙ c.if-is_undescribed.false) c.if-m-d.false c.if-number-ne1.true

pub returns : goal.returns
returns c =
    let a = c.args in
    described-payload a.sidx a.d.now a.m a.number a.out.now
    (sym c.is_undescribed.ensures ∙ c.if-is_undescribed.false)
    c.if-m-d.false c.if-number-ne1.false _ _ c.lay-len.ensures
