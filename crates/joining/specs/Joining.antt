-- Document 01, 'Joining', on paper: the parts of a sample, all there and taken in THIS order, and what they are put together to.
-- Assumes nothing.
use Rattle.std.specs.Prelude.{ℕ, Bool, true, false, length}
use mathlib.Core.List.{List, [], ◌∷◌, map, flatten}
use Rattle.laws.specs.Rows.{◌⇒◌⁏◌, ◌and◌, ◌=?◌}

-- a part's TYPE and data
pub record Piece : Type 0 where
  pub kind : ℕ
  pub bytes : List ℕ

abbrev pub piece : ℕ → List ℕ → Piece
piece t d = record { kind = t; bytes = d }

abbrev pub kinds : List Piece → List ℕ
kinds = map (λ (p : Piece). p.kind)

-- the sample: the parts' data, one after the other
abbrev pub together : List Piece → List ℕ
together ps = flatten (map (λ (p : Piece). p.bytes) ps)

-- its string: the same of the TYPE 2 parts alone
abbrev pub string_of : List Piece → List ℕ
string_of ps = flatten (map (λ (p : Piece). p.kind =? 2 ⇒ p.bytes ⁏ []) ps)

-- any number of TYPE 4
unfoldable pub laters : List ℕ → Bool
laters [] = true
laters (t ∷ ts) = t =? 4 and laters ts

-- any number of TYPE 2, then either nothing or one TYPE 3 and any number of TYPE 4
unfoldable pub going : List ℕ → Bool
going [] = true
going (t ∷ ts) = t =? 2 ⇒ going ts ⁏ t =? 3 and laters ts

-- one or more TYPE 2, then either nothing or one TYPE 3 and any number of TYPE 4
unfoldable pub ordered : List ℕ → Bool
ordered [] = false
ordered (t ∷ ts) = t =? 2 and going ts

-- the parts make a sample: joined if this holds, else spoiled
unfoldable pub sound : (SLEN : ℕ) → List Piece → Bool
sound SLEN ps = ordered (kinds ps) and length (together ps) =? SLEN
