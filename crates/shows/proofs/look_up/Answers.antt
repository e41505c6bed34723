-- `shows::look_up` meets its contract: an empty part, or what the desk is shown. Assumes nothing.
use Rattle.std.specs.Prelude.{ℕ}
use Rattle.std.proofs.Common.{arith, sym, ap, ◌∙◌}
use Rattle.laws.specs.Rows.{ge}
use Rattle.memory.specs.Relay.{stranger}
use Rattle.gate.specs.Tests.{proper}
use Rattle.shows.specs.Shows.{look-stranger, look-marks, look-stores, look-through}
use Rattle.shows.proofs.look_up.Goals as goal
use Rattle.shows.proofs.look_up.Goals.{then-is_stranger-via-then-is_stranger, then-is_stranger-via-else-is_stranger+then-marks-n, then-is_stranger-via-else-is_stranger+else-marks-n+then-stores-n}

pub returns-then-is_stranger : goal.returns-then-is_stranger
returns-then-is_stranger c =
    let a = c.args in
    let e = c.desks_of-n.ensures in
    let f = c.is_stranger.ensures ∙ ap (λ (n : ℕ). stranger n a.desk) e in
    elim c.then-is_stranger.branch [
      | then-is_stranger-via-then-is_stranger w ↦ look-stranger a.marks.now a.stores.now a.desk a.index a.book.now _ f w.if-is_stranger.true
      | then-is_stranger-via-else-is_stranger+then-marks-n w ↦
          look-marks a.marks.now a.stores.now a.desk a.index a.book.now _ f w.if-is_stranger.false (omega (arith, e))
      | then-is_stranger-via-else-is_stranger+else-marks-n+then-stores-n w ↦
          look-stores a.marks.now a.stores.now a.desk a.index a.book.now _ f w.if-is_stranger.false (ge _ _ (omega (arith, e))) (omega (arith, e))
    ]

pub overflow_mul-desk : goal.overflow_mul-desk
overflow_mul-desk c = record { fits = omega (arith, proper _ _ (sym c.is_stranger.ensures ∙ c.if-is_stranger.false)) }

pub overflow_mul-desk-2 : goal.overflow_mul-desk-2
overflow_mul-desk-2 c = record { fits = omega (arith, proper _ _ (sym c.is_stranger.ensures ∙ c.if-is_stranger.false)) }

pub overflow_add-desk : goal.overflow_add-desk
overflow_add-desk c = record { fits = omega (arith, proper _ _ (sym c.is_stranger.ensures ∙ c.if-is_stranger.false)) }

pub overflow_add-desk-2 : goal.overflow_add-desk-2
overflow_add-desk-2 c = record { fits = omega (arith, proper _ _ (sym c.is_stranger.ensures ∙ c.if-is_stranger.false)) }

pub returns : goal.returns
returns c =
    let a = c.args in
    let e = c.desks_of-n.ensures in
    let f = c.is_stranger.ensures ∙ ap (λ (n : ℕ). stranger n a.desk) e in
    look-through a.marks.now a.stores.now a.desk a.index a.book.now _ f c.if-is_stranger.false
    (ge _ _ (omega (arith, e))) (ge _ _ (omega (arith, e))) _ _ _
    c.cut-store.ensures c.word-newest.ensures c.show.ensures
