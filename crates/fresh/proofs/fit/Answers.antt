-- `fresh::fit` meets its contract. Assumes nothing.
use Rattle.std.proofs.Common.{refl, sym, ◌∙◌}
use Rattle.gate.specs.Tests.{either, other, few}
use Rattle.fresh.specs.Start.{fit-refused, fit-ready}
use Rattle.fresh.proofs.fit.Goals.{then-is_improper-via-then-is_improper, then-is_improper-via-else-is_improper+then-is_lacking}
use Rattle.fresh.proofs.fit.Goals as goal

pub is_lacking-requires : goal.is_lacking-requires
is_lacking-requires c = few _ (sym c.is_improper.ensures ∙ c.if-is_improper.false)

pub returns-then-is_improper : goal.returns-then-is_improper
returns-then-is_improper c =
    let r = c.args.room in
    fit-refused c.args.n r.places r.rows r.marks r.stores
    (elim c.then-is_improper.branch [
      | then-is_improper-via-then-is_improper w ↦ either _ _ (sym c.is_improper.ensures ∙ w.if-is_improper.true)
      | then-is_improper-via-else-is_improper+then-is_lacking w ↦
          other _ _ _ (sym c.is_improper.ensures ∙ w.if-is_improper.false) (sym w.is_lacking.ensures ∙ w.if-is_lacking.true)
    ])

pub returns : goal.returns
returns c =
    let r = c.args.room in
    fit-ready c.args.n r.places r.rows r.marks r.stores
    (other _ _ _ (sym c.is_improper.ensures ∙ c.if-is_improper.false) (sym c.is_lacking.ensures ∙ c.if-is_lacking.false))
