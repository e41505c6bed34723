-- Worked runs, by computation. The parts of cases 7 and 8 of document 01 are what the writer gives of their sample; calls that bring them
-- keep to all that 'handed out once' presumes. And how long a repeat is late: until sixteen more samples are finished. Assumes nothing.
use Rattle.std.specs.Prelude.{ℕ, zero, suc, ◌+◌, replicate, Some}
use mathlib.Core.List.{List, [], ◌∷◌, ◌++◌}
use Rattle.paper.specs.Limits.{sample_most}
use Rattle.paper.specs.declared.Outcome.{Outcome}
use Rattle.writer.specs.Write.{Caption, caption}
use Rattle.desk.specs.Desk.{says}
use Rattle.good.specs.Fresh.{fresh_view}
use Rattle.peace.specs.Run.{Call, receive, give-up, Got, answered}
use Rattle.peace.specs.Alone.{alone, Frugal}
use Rattle.once.specs.Ours.{NotGivenUp, EachGot}
use Rattle.once.specs.Due.{start, AllSoon}

abbrev pub first : List ℕ
first = 0x02 ∷ 0x00 ∷ 0x0B ∷ 0x21 ∷ 0x00 ∷ 0x00 ∷ 0x64 ∷ 0x80 ∷ 0x00 ∷ 0x0E ∷ 0x48 ∷ 0x69 ∷ []

abbrev pub second : List ℕ
second =
    0x03 ∷ 0x00 ∷ 0x12 ∷ 0x22 ∷ 0x00 ∷ 0x00 ∷ 0x64 ∷ 0x00 ∷ 0x00 ∷ 0x00 ∷ 0x0C ∷ 0x62 ∷ 0x6C ∷ 0x6E ∷ 0x6B ∷ 0x00 ∷ 0x00 ∷ 0x00 ∷ 0x01 ∷ []

-- case 1: a whole sample; case 2: an empty one
abbrev pub all : List ℕ
all = 0x01 ∷ 0x00 ∷ 0x0A ∷ 0x80 ∷ 0x01 ∷ 0x5F ∷ 0x90 ∷ 0x00 ∷ 0x02 ∷ 0x48 ∷ 0x69 ∷ []

abbrev pub empty : List ℕ
empty = 0x01 ∷ 0x00 ∷ 0x08 ∷ 0x80 ∷ 0x00 ∷ 0x00 ∷ 0x01 ∷ 0x00 ∷ 0x00 ∷ []

-- three parts, of TYPE 2, 3 and 4
abbrev pub letters : List ℕ
letters = 0x02 ∷ 0x00 ∷ 0x0C ∷ 0x31 ∷ 0x00 ∷ 0x00 ∷ 0x64 ∷ 0x80 ∷ 0x00 ∷ 0x0F ∷ 0x61 ∷ 0x62 ∷ 0x63 ∷ []

abbrev pub blink : List ℕ
blink =
    0x03 ∷ 0x00 ∷ 0x10 ∷ 0x32 ∷ 0x00 ∷ 0x00 ∷ 0x64 ∷ 0x00 ∷ 0x00 ∷ 0x00 ∷ 0x0C ∷ 0x62 ∷ 0x6C ∷ 0x6E ∷ 0x6B ∷ 0x00 ∷ 0x00 ∷ []

abbrev pub blinked : List ℕ
blinked = 0x04 ∷ 0x00 ∷ 0x08 ∷ 0x33 ∷ 0x00 ∷ 0x00 ∷ 0x64 ∷ 0x00 ∷ 0x01 ∷ []

abbrev pub blank : List ℕ
blank = replicate sample_most 0

abbrev pub gets : (desk : ℕ) → (rest : List ℕ) → Call
gets desk rest = receive desk (Some 5) rest blank

-- ---- the captions, and that these are the payloads that the writer gives of them
abbrev pub blnk : List ℕ
blnk = 0x00 ∷ 0x00 ∷ 0x00 ∷ 0x0C ∷ 0x62 ∷ 0x6C ∷ 0x6E ∷ 0x6B ∷ 0x00 ∷ 0x00 ∷ 0x00 ∷ 0x01 ∷ []

abbrev pub hi : Caption
hi = caption 0 128 100 (0x48 ∷ 0x69 ∷ []) blnk

abbrev pub plain : Caption
plain = caption 0 128 90000 (0x48 ∷ 0x69 ∷ []) []

abbrev pub abc : Caption
abc = caption 0 128 100 (0x61 ∷ 0x62 ∷ 0x63 ∷ []) blnk

-- ---- two parts: a give-up that is refused, the second part, the first with an output that is too short, the second again, the first
-- with more in its rest, a give-up that is refused, and the first again
abbrev pub calls : (desk : ℕ) → List Call
calls desk =
    give-up desk 5 ∷ gets desk second ∷ receive desk (Some 5) first [] ∷ gets desk second ∷ gets desk (first ++ second) ∷ give-up desk 5
    ∷ gets desk first ∷ []

-- a whole sample between two give-ups that are refused, and it again
abbrev pub whole_calls : (desk : ℕ) → List Call
whole_calls desk = give-up desk 5 ∷ gets desk all ∷ give-up desk 5 ∷ gets desk all ∷ []

-- three parts, out of order, between two give-ups that are refused, and one of them again
abbrev pub three_calls : (desk : ℕ) → List Call
three_calls desk = give-up desk 5 ∷ gets desk blinked ∷ gets desk letters ∷ gets desk blink ∷ give-up desk 5 ∷ gets desk letters ∷ []

-- in each of them two samples at most are open, no give-up frees the sample, and no other finishes
pub record Meets (c : Caption) (M : ℕ) (xs : List Call) : Type 0 where
  pub frugal : Frugal fresh_view xs
  pub kept-up : EachGot (NotGivenUp 5) xs (alone fresh_view xs)
  pub soon : AllSoon c M 5 start xs (alone fresh_view xs)

-- ---- the sharp edge: n other samples finish, and the first part comes again
abbrev pub others : (n : ℕ) → List Call
others zero = gets 0 first ∷ []
others (suc n) = receive 0 (Some (100 + n)) empty blank ∷ others n

abbrev pub run_with : (n : ℕ) → List Call
run_with n = gets 0 first ∷ gets 0 second ∷ others n

abbrev pub hears : Outcome → Got
hears x = answered (says 12 (Some 5) x) blank
