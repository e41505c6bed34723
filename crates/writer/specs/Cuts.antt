-- The returns of the writer for a sample that is cut, in the code's own values. Assumes nothing.
use Rattle.std.specs.Prelude.{ℕ, ◌-◌, ◌≤◌, ◌≡◌, true, false, length}
use mathlib.Core.List.{List}
use Rattle.paper.specs.Limits.{parts_most}
use Rattle.writer.specs.Cut.{strings}
use Rattle.writer.specs.Find.{found, sought}
use Rattle.writer.specs.Write.{Caption, long, parts, unwritable}
use Rattle.writer.specs.declared.PartFound.{PartFound}

-- a sample that 12 lets through is cut into n parts, and 13 lets them through; f is what the pass over its string finds for number k
pub record Counted (c : Caption) (M k : ℕ) (out : List ℕ) (f : PartFound) (n : ℕ) : Type 0 where
  pub allowed : unwritable c M (length out) ≡ false
  pub cut : long c M ≡ true
  pub some : length c.string ≡ 0 → ⊥
  pub pass : f ≡ sought k 0 (found 0 0 0) (strings c.U (M - 10) c.string)
  pub total : n ≡ length (parts c M)
  pub few : n ≤ parts_most
