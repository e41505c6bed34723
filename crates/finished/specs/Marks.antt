-- What marking does to a desk's row and, where that has its sixteen numbers, to its finished times. Assumes nothing.
use Prim.Native.Nat.{ℕ, ◌-◌}
use mathlib.Core.List.{List, [], ◌∷◌}
use Rattle.std.proofs.Math.ListN.{length, drop}
use Rattle.paper.specs.Limits.{finished_most}
use Rattle.finished.specs.Times.{marked_row, marked_used}

-- all of a list that is no longer than that
abbrev pub last_sixteen : List ℕ → List ℕ
last_sixteen xs = drop (length xs - finished_most) xs

-- times that are marked one after the other
unfoldable pub row_after : List ℕ → ℕ → List ℕ → List ℕ
row_after row used [] = row
row_after row used (time ∷ more) = row_after (marked_row row used time) (marked_used used) more

unfoldable pub used_after : ℕ → List ℕ → ℕ
used_after used [] = used
used_after used (time ∷ more) = used_after (marked_used used) more
