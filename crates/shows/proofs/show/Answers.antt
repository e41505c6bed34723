-- `shows::show` meets its contract: each return stands at its row. Assumes nothing.
use Rattle.std.specs.Prelude.{refl}
use Rattle.laws.specs.Rows.{yes, no, lt, ge}
use Rattle.style.specs.Shown.{shown}
use Rattle.shows.proofs.show.Goals as goal

pub returns-then-index-lt-IN_BAND : goal.returns-then-index-lt-IN_BAND
unfolding shown
returns-then-index-lt-IN_BAND c = yes _ _ (lt _ _ c.if-index-lt-IN_BAND.true) c.description_of.ensures

pub returns-then-index-lt-RESERVED : goal.returns-then-index-lt-RESERVED
unfolding shown
returns-then-index-lt-RESERVED c = no _ _ (ge _ _ c.if-index-lt-IN_BAND.false) (yes _ _ (lt _ _ c.if-index-lt-RESERVED.true) c.of_book.ensures)

pub returns-else-index-lt-RESERVED : goal.returns-else-index-lt-RESERVED
unfolding shown
returns-else-index-lt-RESERVED c = no _ _ (ge _ _ c.if-index-lt-IN_BAND.false) (no _ _ (ge _ _ c.if-index-lt-RESERVED.false) refl)
