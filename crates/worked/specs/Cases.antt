-- The twelve cases of document 01, 'Worked by hand', and those of requests 1 to 3 of document 02, as lists, and one statement over them:
-- each holds of the definitions that the promises of set-up, receive, give-up, lookup and the writer cite. Assumes nothing.
use Rattle.memory.specs.Started.{Ready}
use Rattle.writer.specs.Written.{packed}
use Rattle.std.specs.Prelude.{ℕ, ◌≡◌, ◌⊎◌, replicate, drop, Some, None, Err}
use mathlib.Core.List.{List, [], ◌∷◌, ◌++◌, map}
use Rattle.std.proofs.lemmas.List.Edits.{sets}
use Rattle.laws.specs.Region.{part}
use Rattle.paper.specs.Limits.{head_size}
use Rattle.paper.specs.declared.Refusal.TheVariants as R
use Rattle.paper.specs.declared.Outcome.{Outcome}
use Rattle.paper.specs.declared.Outcome.TheVariants as O
use Rattle.desk.specs.Desk.{says, facts}
use Rattle.writer.specs.Written.{Written}
use Rattle.writer.specs.Write.{Caption, caption}
use Rattle.writer.specs.Write.{after, written}
use Rattle.memory.specs.Relay.{Tables, set_up}
use Rattle.good.specs.Fresh.{Exact, exact_tables}
use Rattle.peace.specs.Run.{Call, receive, give-up, Got, answered, released, next, run}
use Rattle.worked.specs.Descriptions.{blank_output, describes, describes_gets}

-- ---- what a case says
-- a caption of so many ASCII letters and no modifiers, and the output lent for a payload of it
abbrev pub letters : ℕ → Caption
letters many = caption 0 128 1 (replicate many 0x61) []

abbrev pub lent_output : List ℕ
lent_output = replicate 20 0xEE

pub data Case : Type 0 where
  -- of so many fresh desks, that these calls get this, one after the other
  plays : (desks : ℕ) → (calls : List Call) → (gets : List Got) → Case
  -- of two fresh desks, that this is stored in the head of the marks, at first and after each of these calls
  stores : (calls : List Call) → (heads : List (List ℕ)) → Case
  -- of so many letters, the limit M and payload number k, that the writer answers this, and leaves this in the output
  writes : (many M k : ℕ) → Written → (out : List ℕ) → Case

-- what the calls of a run get, one after the other
abbrev pub gotten : List (ℕ × Got) → List Got
gotten gs = map (λ (g : ℕ × Got). g.1) gs

-- the head of the marks, at first and after each call
abbrev pub heads_of : Tables → List Call → List (List ℕ)
heads_of s [] = part 0 head_size s.marks ∷ []
heads_of s (c ∷ cs) = part 0 head_size s.marks ∷ heads_of (next s c) cs

abbrev pub Holds : Case → Type 0
Holds (plays desks calls gets) =
    (s : Tables) → (set_up desks s).answer ≡ Ready → Exact desks s → gotten (run (set_up desks s).tables calls) ≡ gets
Holds (stores calls heads) = (s : Tables) → (set_up 2 s).answer ≡ Ready → Exact 2 s → heads_of (set_up 2 s).tables calls ≡ heads
Holds (writes many M k w out) = written (letters many) M k lent_output ≡ after w out

abbrev pub All : List Case → Type 0
All [] = Unit {0}
All (c ∷ cs) = Holds c × All cs

-- ---- the calls
abbrev pub at : (desk time : ℕ) → List ℕ → Call
at desk time rest = receive desk (Some time) rest blank_output

-- a unit of case 7 at each of these times
abbrev pub part1 : List ℕ
part1 = 0x02 ∷ 0x00 ∷ 0x0B ∷ 0x21 ∷ 0x00 ∷ 0x00 ∷ 0x64 ∷ 0x80 ∷ 0x00 ∷ 0x0E ∷ 0x48 ∷ 0x69 ∷ []

abbrev pub part2 : List ℕ
part2 = 0x03 ∷ 0x00 ∷ 0x12 ∷ 0x22 ∷ 0x00 ∷ 0x00 ∷ 0x64 ∷ 0x00 ∷ 0x00 ∷ 0x00 ∷ 0x0C ∷ 0x62 ∷ 0x6C ∷ 0x6E ∷ 0x6B ∷ 0x00 ∷ 0x00 ∷ 0x00 ∷ 0x01 ∷ []

abbrev pub joined14 : List ℕ
joined14 = 0x48 ∷ 0x69 ∷ 0x00 ∷ 0x00 ∷ 0x00 ∷ 0x0C ∷ 0x62 ∷ 0x6C ∷ 0x6E ∷ 0x6B ∷ 0x00 ∷ 0x00 ∷ 0x00 ∷ 0x01 ∷ []

abbrev pub opens : (desk : ℕ) → (times : List ℕ) → List Call
opens desk times = map (λ (t : ℕ). at desk t part1) times

-- ---- the answers: with the output as it was, or with a sample at its front
abbrev pub hears : (used next : ℕ) → Outcome → Got
hears used next x = answered (says used (Some next) x) blank_output

abbrev pub handed : (used next : ℕ) → Outcome → List ℕ → Got
handed used next x bytes = answered (says used (Some next) x) (sets blank_output 0 bytes)

abbrev pub keeps : (times : List ℕ) → List Got
keeps times = map (λ (t : ℕ). hears 12 t (O.Kept 1)) times

-- ---- the list
abbrev pub case_1 : Case
case_1 =
    plays 1 (at 0 1000 (0x01 ∷ 0x00 ∷ 0x0A ∷ 0x80 ∷ 0x01 ∷ 0x5F ∷ 0x90 ∷ 0x00 ∷ 0x02 ∷ 0x48 ∷ 0x69 ∷ []) ∷ [])
    (handed 11 91000 (O.Whole (facts 1000 0 128 90000 2 2)) (0x48 ∷ 0x69 ∷ []) ∷ [])

abbrev pub case_2 : Case
case_2 = plays 1 (at 0 0 (0x01 ∷ 0x00 ∷ 0x08 ∷ 0x80 ∷ 0x00 ∷ 0x00 ∷ 0x01 ∷ 0x00 ∷ 0x00 ∷ []) ∷ []) (hears 9 1 (O.Whole (facts 0 0 128 1 0 0)) ∷ [])

abbrev pub case_3 : Case
case_3 = plays 1 (at 0 0 (0x01 ∷ 0x00 ∷ 0x07 ∷ 0x80 ∷ 0x00 ∷ 0x00 ∷ 0x01 ∷ 0x00 ∷ []) ∷ []) (hears 8 0 (O.Refused R.Fields) ∷ [])

abbrev pub case_4 : Case
case_4 = plays 1 (at 0 0 (0x01 ∷ 0x00 ∷ 0x01 ∷ []) ∷ []) (hears 3 0 (O.Refused R.Frame) ∷ [])

abbrev pub case_5 : Case
case_5 = plays 1 (at 0 0 (0x06 ∷ 0x00 ∷ 0x02 ∷ []) ∷ []) (hears 3 0 (O.Skipped 6) ∷ [])

abbrev pub case_6 : Case
case_6 =
    plays 1 (at 0 4294967295 (0x01 ∷ 0x00 ∷ 0x08 ∷ 0x80 ∷ 0x00 ∷ 0x00 ∷ 0x02 ∷ 0x00 ∷ 0x00 ∷ []) ∷ [])
    (hears 9 1 (O.Whole (facts 4294967295 0 128 2 0 0)) ∷ [])

-- the part with THIS = TOTAL moves the time by its SDUR
abbrev pub case_7_8 : Case
case_7_8 = plays 1 (at 0 5 part1 ∷ at 0 5 part2 ∷ []) (hears 12 5 (O.Kept 1) ∷ handed 19 105 (O.Joined (facts 5 0 128 100 2 14)) joined14 ∷ [])

abbrev pub case_8_7 : Case
case_8_7 = plays 1 (at 0 5 part2 ∷ at 0 5 part1 ∷ []) (hears 19 105 (O.Kept 1) ∷ handed 12 5 (O.Joined (facts 5 0 128 100 2 14)) joined14 ∷ [])

-- newest 10, then 74: newest 74, 10 forgotten. Newest 10, then 75: newest stays, so 10 is held still, and so is 75, the last before it
abbrev pub case_9_74 : Case
case_9_74 = plays 1 (describes 0 74) (describes_gets [])

abbrev pub case_9_75 : Case
case_9_75 = plays 1 (describes 0 75) (describes_gets (0x41 ∷ []))

abbrev pub case_10 : Case
case_10 =
    plays 2 (opens 0 (1 ∷ 2 ∷ 3 ∷ 4 ∷ 5 ∷ 6 ∷ 7 ∷ []) ++ opens 1 (1 ∷ 2 ∷ 3 ∷ []))
    (keeps (1 ∷ 2 ∷ 3 ∷ 4 ∷ 5 ∷ 6 ∷ []) ++ (hears 12 7 (O.Refused R.Six) ∷ keeps (1 ∷ 2 ∷ []) ++ (hears 12 3 (O.Refused R.Common) ∷ [])))

-- eight letters in two parts of four: LEN 13, TOTAL 2 and THIS, SDUR 1, SIDX 128, SLEN 8. The output behind them stays
abbrev pub case_11 : (k TOTAL-THIS : ℕ) → Case
case_11 k TOTAL-THIS =
    writes 8 14 k (packed 14 2)
    (0x02 ∷ 0x00 ∷ 0x0D ∷ TOTAL-THIS ∷ 0x00 ∷ 0x00 ∷ 0x01 ∷ 0x80 ∷ 0x00 ∷ 0x08 ∷ replicate 4 0x61 ++ replicate 6 0xEE)

-- and in one TYPE 1
abbrev pub case_11_whole : Case
case_11_whole =
    writes 8 17 1 (packed 17 1) (0x01 ∷ 0x00 ∷ 0x10 ∷ 0x80 ∷ 0x00 ∷ 0x00 ∷ 0x01 ∷ 0x00 ∷ 0x08 ∷ replicate 8 0x61 ++ replicate 3 0xEE)

abbrev pub case_12 : Case
case_12 =
    writes 60 14 15 (packed 14 15)
    (0x02 ∷ 0x00 ∷ 0x0D ∷ 0xFF ∷ 0x00 ∷ 0x00 ∷ 0x01 ∷ 0x80 ∷ 0x00 ∷ 0x3C ∷ replicate 4 0x61 ++ replicate 6 0xEE)

abbrev pub case_12_refused : Case
case_12_refused = writes 61 14 1 (Err R.Parts) lent_output

-- ---- request 1 of document 02
-- SDUR 9, TLEN 1,025 and as many bytes FF, at time 6: 17, before 5; the unit's bytes are used, and the time stays
abbrev pub case_17_long : Case
case_17_long =
    plays 1
    (at 0 6 (0x01 ∷ 0x04 ∷ 0x09 ∷ 0x80 ∷ 0x00 ∷ 0x00 ∷ 0x09 ∷ 0x04 ∷ 0x01 ∷ replicate 1025 0xFF) ∷ [])
    (hears 1034 6 (O.Refused R.IllFormed) ∷ [])

-- a part of two, at time 5, whose data is these bytes of SLEN 3; the second would add its SDUR
abbrev pub euro : (LEN TOTAL-THIS : ℕ) → List ℕ → Call
euro LEN TOTAL-THIS d = at 0 5 (0x02 ∷ 0x00 ∷ LEN ∷ TOTAL-THIS ∷ 0x00 ∷ 0x00 ∷ 0x64 ∷ 0x80 ∷ 0x00 ∷ 0x03 ∷ d)

-- the euro sign cut inside: each part is judged by itself, so both are 17, and nothing is open
abbrev pub case_17_halves : Case
case_17_halves =
    plays 1 (euro 0x0B 0x21 (0xE2 ∷ 0x82 ∷ []) ∷ euro 0x0A 0x22 (0xAC ∷ []) ∷ give-up 0 5 ∷ [])
    (hears 12 5 (O.Refused R.IllFormed) ∷ hears 11 5 (O.Refused R.IllFormed) ∷ released (Err R.NotOpen) ∷ [])

-- a sample of these bytes, the first TLEN of them its string; byte 0 is U and TYPE 1, SDUR 1
abbrev pub text : (head LEN TLEN : ℕ) → List ℕ → List ℕ
text head LEN TLEN d = head ∷ 0x00 ∷ LEN ∷ 0x80 ∷ 0x00 ∷ 0x00 ∷ 0x01 ∷ 0x00 ∷ TLEN ∷ d

-- behind TLEN nothing is looked at; at a time that is finished a good string is late, and a bad one 17, which adds nothing
abbrev pub case_17_late : Case
case_17_late =
    plays 1 (at 0 7 (text 0x01 9 0 (0xFF ∷ [])) ∷ at 0 7 (text 0x01 9 0 (0xFF ∷ [])) ∷ at 0 7 (text 0x01 9 1 (0xFF ∷ [])) ∷ [])
    (handed 10 8 (O.Whole (facts 7 0 128 1 0 1)) (0xFF ∷ []) ∷ hears 10 8 (O.Refused R.Late) ∷ hears 10 7 (O.Refused R.IllFormed) ∷ [])

-- U says how: 'A' is a string of UTF-8 and an odd length of UTF-16; D8 80 is a letter of UTF-8 and half a pair of UTF-16, and D8 3D DE 00 a
-- pair of UTF-16 and none of UTF-8
abbrev pub case_17_other : Case
case_17_other =
    plays 1
    (at 0 1 (text 0x01 9 1 (0x41 ∷ [])) ∷ at 0 2 (text 0x81 9 1 (0x41 ∷ [])) ∷ at 0 3 (text 0x01 10 2 (0xD8 ∷ 0x80 ∷ []))
    ∷ at 0 4 (text 0x81 10 2 (0xD8 ∷ 0x80 ∷ [])) ∷ at 0 5 (text 0x81 12 4 (0xD8 ∷ 0x3D ∷ 0xDE ∷ 0x00 ∷ []))
    ∷ at 0 6 (text 0x01 12 4 (0xD8 ∷ 0x3D ∷ 0xDE ∷ 0x00 ∷ [])) ∷ [])
    (handed 10 2 (O.Whole (facts 1 0 128 1 1 1)) (0x41 ∷ []) ∷ hears 10 2 (O.Refused R.IllFormed)
    ∷ handed 11 4 (O.Whole (facts 3 0 128 1 2 2)) (0xD8 ∷ 0x80 ∷ []) ∷ hears 11 4 (O.Refused R.IllFormed)
    ∷ handed 13 6 (O.Whole (facts 5 1 128 1 4 4)) (0xD8 ∷ 0x3D ∷ 0xDE ∷ 0x00 ∷ []) ∷ hears 13 6 (O.Refused R.IllFormed) ∷ [])

-- of TYPE 3 nothing is looked at: FF is kept
abbrev pub case_17_modifiers : Case
case_17_modifiers =
    plays 1 (at 0 5 (0x03 ∷ 0x00 ∷ 0x07 ∷ 0x22 ∷ 0x00 ∷ 0x00 ∷ 0x64 ∷ 0xFF ∷ []) ∷ []) (hears 8 105 (O.Kept 1) ∷ [])

-- ---- request 2 of document 02
-- two desks, the common use, and the open samples of either
abbrev pub two : (common first second : ℕ) → List ℕ
two common first second = 2 ∷ common ∷ first ∷ second ∷ replicate 6 0

-- the third takes a common place; one is joined; with two open a sample of one part opens and ends in one call, joined or, being of TYPE
-- 3, spoiled; another is opened, and one is spoiled (refusal 10: three bytes of fourteen); of the two that are left one is given up
abbrev pub case_stored : Case
case_stored =
    stores
    (opens 0 (1 ∷ 2 ∷ 3 ∷ []) ++ (at 0 1 part2 ∷ at 0 5 (0x02 ∷ 0x00 ∷ 0x0A ∷ 0x11 ∷ 0x00 ∷ 0x00 ∷ 0x64 ∷ 0x80 ∷ 0x00 ∷ 0x01 ∷ 0x41 ∷ [])
    ∷ at 0 6 (0x03 ∷ 0x00 ∷ 0x07 ∷ 0x11 ∷ 0x00 ∷ 0x00 ∷ 0x64 ∷ 0x41 ∷ []) ∷ at 0 4 part1
    ∷ at 0 3 (0x03 ∷ 0x00 ∷ 0x07 ∷ 0x22 ∷ 0x00 ∷ 0x00 ∷ 0x64 ∷ 0xFF ∷ []) ∷ give-up 0 2 ∷ []))
    (two 0 0 0 ∷ two 0 1 0 ∷ two 0 2 0 ∷ two 1 3 0 ∷ two 0 2 0 ∷ two 0 2 0 ∷ two 0 2 0 ∷ two 1 3 0 ∷ two 0 2 0 ∷ two 0 1 0 ∷ [])

-- ---- request 3 of document 02
-- a line of one letter whose SDUR is 0; and what stands behind it in its payload: a sample of SDUR 5, a description, a TYPE 6, one byte
abbrev pub line : List ℕ
line = 0x01 ∷ 0x00 ∷ 0x09 ∷ 0x80 ∷ 0x00 ∷ 0x00 ∷ 0x00 ∷ 0x00 ∷ 0x01 ∷ 0x41 ∷ []

abbrev pub behind : List ℕ
behind =
    0x01 ∷ 0x00 ∷ 0x08 ∷ 0x80 ∷ 0x00 ∷ 0x00 ∷ 0x05 ∷ 0x00 ∷ 0x00 ∷ 0x05 ∷ 0x00 ∷ 0x04 ∷ 0x01 ∷ 0x61 ∷ 0x06 ∷ 0x00 ∷ 0x02 ∷ 0x01 ∷ []

-- at an unknown time: what is left behind so many bytes of these, and an answer that says the time is unknown
abbrev pub lost : (bytes : ℕ) → Call
lost bytes = receive 0 None (drop bytes behind) blank_output

abbrev pub unknown : (used : ℕ) → Outcome → Got
unknown used x = answered (says used None x) blank_output

-- a sample whose string is half a letter, and the last of two parts, of SDUR 0
abbrev pub half : List ℕ
half = 0x01 ∷ 0x00 ∷ 0x09 ∷ 0x80 ∷ 0x00 ∷ 0x00 ∷ 0x05 ∷ 0x00 ∷ 0x01 ∷ 0xC3 ∷ []

abbrev pub last : List ℕ
last = 0x02 ∷ 0x00 ∷ 0x0A ∷ 0x22 ∷ 0x00 ∷ 0x00 ∷ 0x00 ∷ 0x80 ∷ 0x00 ∷ 0x02 ∷ 0x42 ∷ []

-- the time behind the line is unknown: the sample there is 18, and all else as ever, 17 too. In a second payload, of the same time, it is
-- late, and the time unknown again; and so it is behind a last part that is kept
abbrev pub live_calls : List Call
live_calls =
    at 0 0 (line ++ behind) ∷ lost 0 ∷ lost 9 ∷ lost 14 ∷ lost 17 ∷ lost 18 ∷ receive 0 None half blank_output ∷ at 0 0 line
    ∷ at 0 9 last ∷ []

abbrev pub live_gets : List Got
live_gets =
    answered (says 10 None (O.Whole (facts 0 0 128 0 1 1))) (sets blank_output 0 (0x41 ∷ [])) ∷ unknown 9 (O.Refused R.Untimed)
    ∷ unknown 5 O.Described ∷ unknown 3 (O.Skipped 6) ∷ unknown 1 (O.Refused R.Frame) ∷ unknown 0 O.End
    ∷ unknown 10 (O.Refused R.IllFormed)
    ∷ unknown 10 (O.Refused R.Late) ∷ unknown 11 (O.Kept 1)
    ∷ []

abbrev pub case_live : Case
case_live = plays 1 live_calls live_gets

-- ---- the cases of document 01, and those of requests 1, 2 and 3
abbrev pub cases_01 : List Case
cases_01 =
    case_1 ∷ case_2 ∷ case_3 ∷ case_4 ∷ case_5 ∷ case_6 ∷ case_7_8 ∷ case_8_7
    ∷ case_9_74 ∷ case_9_75
    ∷ case_10
    ∷ case_11 1 0x21 ∷ case_11 2 0x22 ∷ case_11_whole
    ∷ case_12 ∷ case_12_refused
    ∷ []

abbrev pub cases_17 : List Case
cases_17 = case_17_long ∷ case_17_halves ∷ case_17_late ∷ case_17_other ∷ case_17_modifiers ∷ []

abbrev pub cases_stored : List Case
cases_stored = case_stored ∷ []

abbrev pub cases_live : List Case
cases_live = case_live ∷ []

-- ---- what the rules compute to in the memory that set-up makes
abbrev pub gets : (desks : ℕ) → List Call → List Got
gets desks calls = gotten (run (exact_tables desks) calls)

abbrev pub Computes : Case → Type 0
Computes (plays desks calls x) = gets desks calls ≡ x
Computes (stores calls heads) = heads_of (exact_tables 2) calls ≡ heads
Computes (writes many M k w out) = Holds (writes many M k w out)

abbrev pub AllHold : List Case → Type 0
AllHold [] = Unit {0}
AllHold (c ∷ cs) = (Computes c ⊎ Holds c) × AllHold cs
