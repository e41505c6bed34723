-- The laws of the cells of a list (`Region`) together, by where the cells begin: behind the first b elements, or at the front. Of the
-- latter they are the former with b = 0, and `0 + k` is k but does not compute to it. Assumes nothing.
use Rattle.std.specs.Prelude.{ℕ, ◌+◌, ◌*◌, ◌≤◌, ◌<◌, ◌≡◌, ◌≢◌, List, length, drop}
use Rattle.std.proofs.Common.{zero-add, add-zero, arith, subst}
use Rattle.laws.specs.Region.{part, splice, length-cell, length-cells, cell_same, cell_other, cells-before, cells-beyond}

-- of n cells, each w long, cell d is replaced by ys; k elements behind the beginning of the cells is `at k`
pub record Cells (at : ℕ → ℕ) (w n d : ℕ) (xs ys : List ℕ) : Type 0 where
  pub long : length (splice (at (w * d)) w ys xs) ≡ length xs
  pub same : part (at (w * d)) w (splice (at (w * d)) w ys xs) ≡ ys
  pub other : (e : ℕ) → e ≢ d → part (at (w * e)) w (splice (at (w * d)) w ys xs) ≡ part (at (w * e)) w xs
  pub before : part 0 (at 0) (splice (at (w * d)) w ys xs) ≡ part 0 (at 0) xs
  pub beyond : drop (at (w * n)) (splice (at (w * d)) w ys xs) ≡ drop (at (w * n)) xs

abbrev pub behind : (b k : ℕ) → ℕ
behind b k = b + k

abbrev pub front : (k : ℕ) → ℕ
front k = k

pub cells-behind : (b w n d : ℕ) (xs : List ℕ) → b + w * n ≤ length xs → d < n → (ys : List ℕ) → length ys ≡ w
    → Cells (behind b) w n d xs ys
cells-behind b w n d xs l h ys e = record {
  long = length-cells b w n d xs l h ys e;
  same = cell_same b w n d xs l h ys e;
  other = cell_other b w n d xs l h ys e;
  before = rw (add-zero b) (cells-before b w n d xs l h ys e);
  beyond = cells-beyond b w n d xs l h ys e;
}

module _ (w n d : ℕ) (xs : List ℕ) (l : w * n ≤ length xs) (h : d < n) where
  pub length_front : length (part (w * d) w xs) ≡ w
  length_front = simp zero-add at (length-cell 0 w n d xs (omega arith) h)

  pub cells-front : (ys : List ℕ) → length ys ≡ w → Cells front w n d xs ys
  cells-front ys e = subst (λ (at : ℕ → ℕ). Cells at w n d xs ys) (λ i k. zero-add k i) (cells-behind 0 w n d xs (omega arith) h ys e)
