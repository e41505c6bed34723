-- Bytes that the code takes together: ASCII, and the characters of a block. No part of any public promise. Assumes nothing.
use Rattle.std.specs.Prelude.{ℕ, ◌+◌, ◌-◌, ◌<◌, ◌≤◌, min, ◌≡◌, Bool}
use Rattle.std.proofs.Math.Bool.{true, false}
use mathlib.Core.List.{List, [], ◌∷◌}
use Rattle.std.proofs.Math.ListN.{length, drop}
use Rattle.laws.specs.Rows.{◌⇒◌⁏◌, ◌and◌, ◌<?◌, ◌=?◌}
use Rattle.text.specs.Unicode.{character, well_formed, boundary}

-- ---- ASCII

-- whether all bytes are 00 to 7F
unfoldable pub ascii : List ℕ → Bool
ascii [] = true
ascii (b ∷ s) = b <? 0x80 and ascii s

-- ---- the loop over bytes: all that were seen, and those still ahead

unfoldable pub seen : (all : Bool) → List ℕ → Bool
seen all s = all and ascii s

-- ---- what is taken together

-- from b, the last place within `to` that whole characters lead to: b itself where it is `to`, the place behind the character that goes on
-- beyond `to`, and `at` where none stands there
unfoldable pub over : (U : ℕ) → List ℕ → (at to b : ℕ) → ℕ
over U s at to b = b <? to ⇒ (character U (drop b s) =? 0 ⇒ at ⁏ b + character U (drop b s)) ⁏ b

-- the place behind the characters from `at` on that begin before `to`; `at` where one of them is not well-formed
unfoldable pub walked_to : (U : ℕ) → List ℕ → (at to : ℕ) → ℕ
walked_to U s at to = over U s at to (boundary U s at to)

-- what it tells, from a place of the string: whole characters lead to e, which is not before `to`; or e is `at`, and what stands there is
-- not well-formed
pub record Passed (U : ℕ) (s : List ℕ) (at to e : ℕ) : Type 0 where
  pub there : e ≤ length s
  pub same : to ≤ e → well_formed U (drop at s) ≡ well_formed U (drop e s)
  pub not : e < to → (e ≡ at) × (well_formed U (drop at s) ≡ false)

-- ---- blocks

-- how many bytes are looked at together, and where those from `at` on end
abbrev pub block_most : ℕ
block_most = 128

unfoldable pub block_end : List ℕ → (at : ℕ) → ℕ
block_end s at = at + min block_most (length s - at)
