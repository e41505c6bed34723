-- What each answer of the writer says: of a payload, that its bytes are what the writer leaves; of 12, 13 and 14, that each is given
-- exactly when the paper says. Assumes nothing.
use Rattle.std.specs.Prelude.{ℕ, ◌≤◌, ◌<◌, ◌≡◌, List, length, take, drop}
use Rattle.paper.specs.Limits.{description_most, in_band, size_least, size_most}
use Rattle.unit.specs.Layout.{description}
use Rattle.unit.specs.Again.{bytes_of}
use Rattle.writer.specs.Write.{Caption, count, payload}

-- ---- a sample
-- payload number k was written over the front of `before`: `len` bytes, N payloads in all, and `now` is the output
pub record PayloadWritten (c : Caption) (M k : ℕ) (before now : List ℕ) (len N : ℕ) : Type 0 where
  pub from : 1 ≤ k
  pub to : k ≤ N
  pub total : N ≡ count c M
  pub size : len ≡ length (payload c M k)
  pub front : take len now ≡ payload c M k
  pub behind : drop len now ≡ drop len before

-- ---- a description
-- what 12 does not refuse
pub record Describable (SIDX n M room : ℕ) : Type 0 where
  pub index : SIDX < in_band
  pub some : 0 < n
  pub few : n ≤ description_most
  pub least : size_least ≤ M
  pub most : M ≤ size_most
  pub lent : M ≤ room

-- its one payload was written over the front of `before`
pub record DescriptionWritten (SIDX : ℕ) (d : List ℕ) (M k : ℕ) (before now : List ℕ) (len N : ℕ) : Type 0 where
  pub first : k ≡ 1
  pub only : N ≡ 1
  pub sent : Describable SIDX (length d) M (length before)
  pub size : len ≡ length (bytes_of (description SIDX (length d)) d)
  pub front : take len now ≡ bytes_of (description SIDX (length d)) d
  pub behind : drop len now ≡ drop len before
