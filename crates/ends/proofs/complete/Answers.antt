-- `ends::complete` meets its contract: each return is one of the laws of a part that is kept. Assumes nothing.
use Rattle.std.proofs.Common.{◌≡◌, refl, ap, ◌∙◌}
use Rattle.paper.specs.declared.Outcome.{Outcome}
use Rattle.joining.specs.Joining.{sound}
use Rattle.sample.specs.Place.{pieces_of}
use Rattle.desk.specs.Desk.{own, answering}
use Rattle.ends.specs.Ends.{kept-some, kept-joined, kept-spoiled}
use Rattle.ends.proofs.complete.Goals as goal
use Rattle.ends.proofs.complete.Goals.{then-is_sound, else-is_sound}

pub returns-then-missing-gt0 : goal.returns-then-missing-gt0
returns-then-missing-gt0 c = λ q used next store.
    let a = c.args in
    let s = own q a.row.now a.marks.now store a.out.now in
    kept-some s a.time used next a.p.now _ c.missing-missing.ensures c.if-missing-gt0.true _ refl

pub returns : goal.returns
unfolding sound
returns c = λ q used next store.
    let a = c.args in
    let p = a.p.now in
    let s = own q a.row.now a.marks.now store a.out.now in
    let n = c.measure-l.ensures in
    let f = c.finish.ensures in
    let is : c.is_sound.result ≡ sound p.slen (pieces_of p) = rw (← n.1) c.is_sound.ensures in
    elim c.if-is_sound.branch [
      | then-is_sound w ↦
          kept-joined s a.time used next p _ c.missing-missing.ensures c.if-missing-gt0.false
          _ is _ c.closed.ensures _ _ f.0 f.1 w.if-is_sound.true _ _ n.0 n.1 _ (w.out-is ∙ w.put_together.ensures)
          _ (ap (λ (o : Outcome). answering c.closed.result used next o) w.outcome-is)
      | else-is_sound w ↦
          rw w.out-is
          (kept-spoiled s a.time used next p _ c.missing-missing.ensures c.if-missing-gt0.false
          _ is _ c.closed.ensures _ _ f.0 f.1 w.if-is_sound.false
          _ (ap (λ (o : Outcome). answering c.closed.result used next o) w.outcome-is))
    ]
