-- A record of document 01, in a style book and in a desk's store alike: byte 0 the index, byte 1 zero, bytes 2 and 3 the length,
-- then the description and zeros. Assumes nothing.
use Rattle.std.specs.Prelude.{ℕ, ◌*◌, ◌%◌, List, [], ◌∷◌, ◌++◌, Bool, false, length, replicate}
use Rattle.std.proofs.lemmas.List.Edits.{sets}
use Rattle.laws.specs.Rows.{◌or◌, ◌<?◌}
use Rattle.laws.specs.Region.{part}
use Rattle.octets.specs.Be.{u8_at, u16_at, be16}
use Rattle.paper.specs.Limits.{record_size}

-- record i, counted from 0 (shorter, or empty, where the list ends before)
abbrev pub record_at : List ℕ → ℕ → List ℕ
record_at s i = part (record_size * i) record_size s

abbrev pub index_of : List ℕ → ℕ
index_of r = u8_at r 0

abbrev pub length_of : List ℕ → ℕ
length_of r = u16_at r 2

-- as many bytes as the length says, behind the four
abbrev pub description_of : List ℕ → List ℕ
description_of r = part 4 (length_of r) r

abbrev pub blank : List ℕ
blank = replicate record_size 0

-- the record of d for the index v
unfoldable pub record_of : (v : ℕ) → List ℕ → List ℕ
record_of v d = sets blank 0 (v % 256 ∷ 0 ∷ be16 (length d) ++ d)

-- there is a byte that is not zero
unfoldable pub filled : List ℕ → Bool
filled [] = false
filled (x ∷ xs) = 0 <? x or filled xs
