-- How document 01 cuts a sample: which parts of the string and of the modifiers go out one after the other.
-- Assumes nothing.
use Rattle.std.specs.Prelude.{ℕ, zero, suc, ◌-◌, min, List, [], ◌∷◌, ◌++◌, map, length, take, drop}
use Rattle.laws.specs.Rows.{◌⇒◌⁏◌, ◌=?◌}
use Rattle.joining.specs.Joining.{Piece, piece}
use Rattle.text.specs.Unicode.{reach}

-- s in parts one after the other, each as long as `size` says of what is left, until it says 0; n parts at most
unfoldable pub cuts_within : (size : List ℕ → ℕ) → ℕ → List ℕ → List (List ℕ)
cuts_within size zero s = []
cuts_within size (suc n) s = size s =? 0 ⇒ [] ⁏ take (size s) s ∷ cuts_within size n (drop (size s) s)

unfoldable pub cuts : (size : List ℕ → ℕ) → List ℕ → List (List ℕ)
cuts size s = cuts_within size (length s) s

-- string parts: as long as possible, at most k bytes, ending at a character
abbrev pub strings : (U k : ℕ) → List ℕ → List (List ℕ)
strings U k = cuts (λ s. reach U s k)

-- modifier parts: k bytes, the last perhaps shorter
abbrev pub blocks : (k : ℕ) → List ℕ → List (List ℕ)
blocks k = cuts (λ s. min k (length s))

-- of the modifier parts the first is TYPE 3 and the others are TYPE 4
unfoldable pub modified : List (List ℕ) → List Piece
modified [] = []
modified (b ∷ bs) = piece 3 b ∷ map (piece 4) bs

-- the parts of a sample for the size limit M: a string part has M - 10 bytes of room, a modifier part M - 7
unfoldable pub pieces : (U M : ℕ) (string modifiers : List ℕ) → List Piece
pieces U M s m = map (piece 2) (strings U (M - 10) s) ++ modified (blocks (M - 7) m)
