-- Finding the part of a number in one pass: what the pass does at each part, and that it counts them and stops at the right one.
-- Assumes nothing.
use Rattle.std.specs.Prelude.{ℕ, ◌+◌, ◌-◌, ◌≤◌, ◌≡◌}
use mathlib.Core.List.{List, [], ◌∷◌}
use Rattle.std.proofs.Math.ListN.{length, drop}
use Rattle.laws.specs.Rows.{◌⇒◌⁏◌, ◌=?◌}
use Rattle.laws.specs.Region.{part}
use Rattle.writer.specs.Cut.{strings}
use Rattle.writer.specs.declared.PartFound.{PartFound}

abbrev pub found : (count from to : ℕ) → PartFound
found n a e = record { count = n; from = a; to = e }

-- the part of s that was found
abbrev pub found_in : PartFound → List ℕ → List ℕ
found_in f s = part f.from (f.to - f.from) s

-- one part, from e to e', is passed: it is counted, and kept if it has the number that is wanted
unfoldable pub turned : (number : ℕ) → PartFound → (e e' : ℕ) → PartFound
turned number f e e' = f.count + 1 =? number ⇒ found (f.count + 1) e e' ⁏ found (f.count + 1) f.from f.to

-- all the parts that stand from e on, one after the other
unfoldable pub sought : (number e : ℕ) → PartFound → List (List ℕ) → PartFound
sought number e f [] = f
sought number e f (p ∷ ps) = sought number (e + length p) (turned number f e (e + length p)) ps

pub record Passed (U k number : ℕ) (s : List ℕ) (f : PartFound) (e : ℕ) : Type 0 where
  pub inside : e ≤ length s
  pub counted : f.count ≤ e
  pub same : sought number 0 (found 0 0 0) (strings U k s) ≡ sought number e f (strings U k (drop e s))
