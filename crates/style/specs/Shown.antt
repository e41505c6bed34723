-- Looking up an index. Assumes nothing.
use Rattle.std.specs.Prelude.{ℕ, List, []}
use Rattle.laws.specs.Rows.{◌⇒◌⁏◌, ◌<?◌}
use Rattle.paper.specs.Limits.{in_band, reserved}
use Rattle.style.specs.Book.{check_of, entry_of}
use Rattle.style.specs.Store.{in_store}

-- 0 to 127 from the desk's store alone, 128 to 254 from the book alone, no other
unfoldable pub shown : (book store : List ℕ) → (newest index : ℕ) → List ℕ
shown book store newest index =
    index <? in_band ⇒ in_store store newest index
    ⁏ index <? reserved ⇒ entry_of book index (check_of book)
    ⁏ []
