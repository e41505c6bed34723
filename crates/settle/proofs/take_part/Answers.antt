-- `settle::take_part` meets its contract: the part is taken at a known time, and gets 18 at an unknown one. Assumes nothing.
use Rattle.std.specs.Prelude.{None}
use Rattle.std.proofs.Common.{sym, ap, ◌∙◌}
use Rattle.paper.specs.declared.Refusal.TheVariants as R
use Rattle.paper.specs.declared.Outcome.TheVariants as O
use Rattle.sample.specs.declared.Place.{Place}
use Rattle.desk.specs.Desk.{own, left, answering}
use Rattle.asks.specs.Settled.{open_in, laid_in}
use Rattle.asks.specs.Asked.{timed-known, timed-unknown, laid_same}
use Rattle.settle.proofs.take_part.Goals as goal

pub returns-in-Some : goal.returns-in-Some
returns-in-Some c = λ store.
    let a = c.args in
    let s = own (open_in a.p.now) a.row.now a.marks.now store a.out.now in
    c.take_at.ensures store ∙ ap (laid_in a.p.now) (timed-known s a.t a.x.used _ _ c.in-Some.is)

pub returns-in-None : goal.returns-in-None
returns-in-None c = λ store.
    let a = c.args in
    let s = own (open_in a.p.now) a.row.now a.marks.now store a.out.now in
    rw c.says.ensures
    (ap (λ (p : Place). left (answering p a.x.used None (O.Refused R.Untimed)) a.row.now a.marks.now store a.out.now)
    (sym (laid_same a.p.now))
    ∙ ap (laid_in a.p.now) (timed-unknown s a.t a.x.used _ c.in-None.is))
