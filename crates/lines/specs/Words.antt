-- The words of the listing, bytes of ASCII, each named by what it spells; a blank belongs to the word beside it. Assumes nothing.
use Rattle.std.specs.Prelude.{ℕ, List, [], ◌∷◌}

-- `at `
abbrev pub word_at : List ℕ
word_at = 0x61 ∷ 0x74 ∷ 0x20 ∷ []

-- ` used `
abbrev pub word_used : List ℕ
word_used = 0x20 ∷ 0x75 ∷ 0x73 ∷ 0x65 ∷ 0x64 ∷ 0x20 ∷ []

-- ` time `
abbrev pub word_time : List ℕ
word_time = 0x20 ∷ 0x74 ∷ 0x69 ∷ 0x6d ∷ 0x65 ∷ 0x20 ∷ []

-- `?`
abbrev pub word_unknown : List ℕ
word_unknown = 0x3f ∷ []

-- ` `
abbrev pub word_blank : List ℕ
word_blank = 0x20 ∷ []

-- a new line
abbrev pub new_line : List ℕ
new_line = 0x0a ∷ []

-- ---- the outcomes
-- `end`
abbrev pub word_end : List ℕ
word_end = 0x65 ∷ 0x6e ∷ 0x64 ∷ []

-- `whole `
abbrev pub word_whole : List ℕ
word_whole = 0x77 ∷ 0x68 ∷ 0x6f ∷ 0x6c ∷ 0x65 ∷ 0x20 ∷ []

-- `joined `
abbrev pub word_joined : List ℕ
word_joined = 0x6a ∷ 0x6f ∷ 0x69 ∷ 0x6e ∷ 0x65 ∷ 0x64 ∷ 0x20 ∷ []

-- `kept `
abbrev pub word_kept : List ℕ
word_kept = 0x6b ∷ 0x65 ∷ 0x70 ∷ 0x74 ∷ 0x20 ∷ []

-- `repeat`
abbrev pub word_repeat : List ℕ
word_repeat = 0x72 ∷ 0x65 ∷ 0x70 ∷ 0x65 ∷ 0x61 ∷ 0x74 ∷ []

-- `described`
abbrev pub word_described : List ℕ
word_described = 0x64 ∷ 0x65 ∷ 0x73 ∷ 0x63 ∷ 0x72 ∷ 0x69 ∷ 0x62 ∷ 0x65 ∷ 0x64 ∷ []

-- `skipped `
abbrev pub word_skipped : List ℕ
word_skipped = 0x73 ∷ 0x6b ∷ 0x69 ∷ 0x70 ∷ 0x70 ∷ 0x65 ∷ 0x64 ∷ 0x20 ∷ []

-- `refused `
abbrev pub word_refused : List ℕ
word_refused = 0x72 ∷ 0x65 ∷ 0x66 ∷ 0x75 ∷ 0x73 ∷ 0x65 ∷ 0x64 ∷ 0x20 ∷ []

-- ---- more bytes than are listed
-- `too long`
abbrev pub word_too_long : List ℕ
word_too_long = 0x74 ∷ 0x6f ∷ 0x6f ∷ 0x20 ∷ 0x6c ∷ 0x6f ∷ 0x6e ∷ 0x67 ∷ []
