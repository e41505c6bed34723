-- Characters and strings, as the Unicode Standard has them: the scalar values, their two encodings, and what a place in a list of
-- bytes begins with. U is a unit's bit: 0 is UTF-8, anything else UTF-16 big-endian. All of it is total. Assumes nothing.
-- Three definitions have to be believed, `scalar`, `utf8` and `utf16`: all else here is said by them, or proved to say the same.
use Rattle.std.specs.Prelude.{ℕ, zero, suc, ◌+◌, ◌-◌, ◌/◌, ◌%◌, ◌≡◌, Bool, true, false, List, [], ◌∷◌, ◌++◌, length, drop}
use Rattle.laws.specs.Rows.{◌⇒◌⁏◌, ◌or◌, ◌and◌, ◌<?◌, ◌=?◌}
use Rattle.octets.specs.Be.{be16}
use Rattle.text.specs.Chart.{chart, charted, paired}

-- ---- a character's value, and its bytes

-- a Unicode scalar value: up to 10FFFF, but for the surrogates D800 to DFFF
unfoldable pub scalar : ℕ → Bool
scalar c = c <? 0xD800 or 0xDFFF <? c and c <? 0x110000

-- below 80 one byte; below 800 two, 110xxxxx 10xxxxxx; below 10000 three, 1110xxxx and two of 10xxxxxx; else four, 11110xxx and
-- three of 10xxxxxx
unfoldable pub utf8 : ℕ → List ℕ
utf8 c =
    c <? 0x80 ⇒ c ∷ []
    ⁏ c <? 0x800 ⇒ (0xC0 + c / 0x40) ∷ (0x80 + c % 0x40) ∷ []
    ⁏ c <? 0x10000 ⇒ (0xE0 + c / 0x1000) ∷ (0x80 + c / 0x40 % 0x40) ∷ (0x80 + c % 0x40) ∷ []
    ⁏ (0xF0 + c / 0x40000) ∷ (0x80 + c / 0x1000 % 0x40) ∷ (0x80 + c / 0x40 % 0x40) ∷ (0x80 + c % 0x40) ∷ []

-- below 10000 one number of 16 bits; else the two halves of c less 10000, behind a high surrogate's D800 and a low one's DC00
unfoldable pub utf16 : ℕ → List ℕ
utf16 c = c <? 0x10000 ⇒ be16 c ⁏ be16 (0xD800 + (c - 0x10000) / 0x400) ++ be16 (0xDC00 + (c - 0x10000) % 0x400)

unfoldable pub encoded : (U c : ℕ) → List ℕ
encoded U c = U =? 0 ⇒ utf8 c ⁏ utf16 c

-- ---- the character that a list of bytes begins with

-- how many bytes the well-formed character has that s begins with; 0 where s begins with none. That these are the encodings of the scalar
-- values is proved (Finder)
unfoldable pub character : (U : ℕ) → List ℕ → ℕ
character U s = U =? 0 ⇒ charted chart s ⁏ paired s

-- ---- strings

-- the bytes of the characters cs, one after the other
unfoldable pub encodings : (U : ℕ) → List ℕ → List ℕ
encodings U [] = []
encodings U (c ∷ cs) = encoded U c ++ encodings U cs

-- whether all of them are scalar values
unfoldable pub scalars : List ℕ → Bool
scalars [] = true
scalars (c ∷ cs) = scalar c and scalars cs

-- well-formed: the encodings of scalar values, one after the other
pub record WellFormed (U : ℕ) (s : List ℕ) : Type 0 where
  pub values : List ℕ
  pub good : scalars values ≡ true
  pub same : s ≡ encodings U values

-- the same, found out: n characters at most, one after the other. A character has a byte at least, so as many as there are bytes
-- are all
unfoldable pub well_within : (n U : ℕ) → List ℕ → Bool
well_within zero U s = true
well_within (suc n) U s =
    length s =? 0 ⇒ true
    ⁏ character U s =? 0 ⇒ false
    ⁏ well_within n U (drop (character U s) s)

unfoldable pub well_formed : (U : ℕ) → List ℕ → Bool
well_formed U s = well_within (length s) U s

-- how many bytes from the front are whole characters within the limit, found out in the same way
unfoldable pub reach_within : (n U : ℕ) → List ℕ → ℕ → ℕ
reach_within zero U s limit = 0
reach_within (suc n) U s limit =
    character U s =? 0 ⇒ 0
    ⁏ limit <? character U s ⇒ 0
    ⁏ character U s + reach_within n U (drop (character U s) s) (limit - character U s)

unfoldable pub reach : (U : ℕ) → List ℕ → ℕ → ℕ
reach U s limit = reach_within (length s) U s limit

-- the last place from `at` on that whole characters lead to, within the limit
unfoldable pub boundary : (U : ℕ) → List ℕ → (at limit : ℕ) → ℕ
boundary U s at limit = at + reach U (drop at s) (limit - at)
