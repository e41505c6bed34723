-- `list::list` meets its contract: a long input is told so; else memory is set up for one desk, and the units are listed. Assumes nothing.
use native.Mathlib.Omega.{arith}
use Rattle.list.specs.Runs.{begun_fresh, begun-good, listed-long, listed-units}
use Rattle.list.proofs.list.Goals as goal

pub returns-then-input-gt-PAYLOAD_MOST : goal.returns-then-input-gt-PAYLOAD_MOST
returns-then-input-gt-PAYLOAD_MOST c =
    let a = c.args in
    listed-long a.input.now a.text.now _ _ (omega (arith, c.if-input-gt-PAYLOAD_MOST.true)) c.put_text.ensures

pub list_units-requires : goal.list_units-requires
list_units-requires c =
    begun-good _ c.closed.ensures _ c.set_up-begun.ensures

pub returns : goal.returns
returns c =
    let a = c.args in
    listed-units a.input.now a.text.now _ _ _ (omega (arith, c.if-input-gt-PAYLOAD_MOST.false))
    (begun_fresh _ c.closed.ensures _ c.set_up-begun.ensures) c.list_units.ensures
