-- `notes::note` meets its contract: a unit that is new is put down. Assumes nothing.
use Rattle.style.specs.Turns.{noted-described}
use Rattle.notes.proofs.note.Goals as goal

pub returns : goal.returns
returns c =
    let a = c.args in
    let new = c.in_default.ensures in
    noted-described a.store.now a.newest a.sidx a.d.now new.proper new.few new.other new.free
    _ c.newest_of-new.ensures _ c.forget.ensures _ c.put_description.ensures
