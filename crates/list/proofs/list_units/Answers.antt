-- `list::list_units` meets its contract: each turn writes one line, and goes on by a byte at least. Assumes nothing.
use Rattle.std.proofs.Common.{arith}
use Rattle.memory.specs.Relay.{tables}
use Rattle.list.specs.Runs.{begin, called_of, turn, turn-used, finish}
use Rattle.list.proofs.list_units.Goals as goal

pub loop-at-init : goal.loop-at-init
loop-at-init c = begin _ _ _ c.requires

pub overflow_add-at : goal.overflow_add-at
overflow_add-at c =
    let l = c.loop-at in
    let s = tables l.places l.rows l.marks l.stores in
    let d = called_of _ s l.time l.at c.args.input.now c.receive-called.ensures in
    let u = turn-used _ c.args.input.now l.text s l.time l.at l.next l.invariant _ c.loop-at-test.true d in
    omega arith

pub loop-at-smaller : goal.loop-at-smaller
loop-at-smaller c =
    let l = c.loop-at in
    let s = tables l.places l.rows l.marks l.stores in
    let d = called_of _ s l.time l.at c.args.input.now c.receive-called.ensures in
    let u = turn-used _ c.args.input.now l.text s l.time l.at l.next l.invariant _ c.loop-at-test.true d in
    omega arith

pub loop-at-preserved : goal.loop-at-preserved
loop-at-preserved c =
    let l = c.loop-at in
    let s = tables l.places l.rows l.marks l.stores in
    let d = called_of _ s l.time l.at c.args.input.now c.receive-called.ensures in
    turn _ c.args.input.now l.text s l.time l.at l.next l.invariant _ _ _ c.loop-at-test.true d c.put_line-next.ensures

pub returns : goal.returns
returns c =
    let l = c.loop-at in
    finish _ c.args.input.now l.text (tables l.places l.rows l.marks l.stores) l.time l.at l.next l.invariant _ _ c.loop-at-test.false
    c.put_text.ensures
