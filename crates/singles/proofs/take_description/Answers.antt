-- `singles::take_description` meets its contract: the store is noted in, and the newest value stands in its mark. Assumes nothing.
use Rattle.std.proofs.Common.{arith}
use Rattle.desk.specs.Desk.{own}
use Rattle.singles.specs.Singles.{description-taken}
use Rattle.singles.proofs.take_description.Goals as goal

pub returns : goal.returns
returns c = λ p row out.
    let a = c.args in
    let s = own p row a.marks.now a.store.now out in
    description-taken s a.t a.used a.w a.d.now
    c.word.result c.word.ensures (omega (arith, c.word.type_inv)) _ _
    c.note-r.ensures _ c.put_word.ensures _ c.says.ensures
