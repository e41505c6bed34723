-- 'Handed out once', in words: which calls of a desk count for the sample of a time, and what is presumed of the desk's calls.
-- Definitions only. Assumes nothing.
use Rattle.desk.specs.GivenUp.{Freed}
use Rattle.std.specs.Prelude.{ℕ, ◌≤◌, ◌≡◌, Bool, true, false, ◌⊎◌, List, [], ◌∷◌, ◌++◌, length, Some}
use Rattle.laws.specs.Rows.{◌⇒◌⁏◌, ◌<?◌}
use Rattle.paper.specs.Limits.{sample_most}
use Rattle.unit.specs.declared.Unit as U
use Rattle.unit.specs.declared.Unit.TheVariants.{End, Skipped, Refused, Whole, Part, Description}
use Rattle.unit.specs.Layout.{read_of}
use Rattle.writer.specs.Write.{Caption, count, payload}
use Rattle.desk.specs.Desk.{is_text}
use Rattle.memory.specs.Table.{is_time}
use Rattle.peace.specs.Run.{Call, receive, give-up, lookup, Got, released}

-- ---- the calls that count
-- a text unit is the first of the rest, and not refused by 2 to 4 or 17
abbrev pub offers : (rest out : List ℕ) → Bool
offers rest out = length out <? sample_most ⇒ false ⁏ is_text (read_of rest).unit

-- and the call is at the time; one at an unknown time is at none
abbrev pub counts : (time : ℕ) → Call → Bool
counts time (receive desk at rest out) = is_time at time ⇒ offers rest out ⁏ false
counts time (give-up desk at) = false
counts time (lookup desk index book) = false

-- the number of the payload, as its unit tells it: THIS, and 1 for a whole sample
abbrev pub payload_number : U.Unit → ℕ
payload_number End = 0
payload_number (Skipped t) = 0
payload_number (Refused r) = 0
payload_number (Whole w) = 1
payload_number (Part x) = x.this
payload_number (Description w) = 0

-- ---- what is presumed of the desk's calls
abbrev pub Every : (Call → Type 0) → List Call → Type 0
Every P [] = Unit {0}
Every P (c ∷ cs) = P c × Every P cs

-- the rest begins with payload number k, one of those that the writer gives
pub record Begins (c : Caption) (M k : ℕ) (rest : List ℕ) : Type 0 where
  pub from : 1 ≤ k
  pub to : k ≤ count c M
  pub more : List ℕ
  pub is : rest ≡ payload c M k ++ more

pub record OneOf (c : Caption) (M : ℕ) (rest : List ℕ) : Type 0 where
  pub number : ℕ
  pub begins : Begins c M number rest

-- every call that counts begins with one of the payloads
abbrev pub Ours : Caption → (M time : ℕ) → Call → Type 0
Ours c M time (receive desk at rest out) = counts time (receive desk at rest out) ≡ true → OneOf c M rest
Ours c M time (give-up desk at) = Unit {0}
Ours c M time (lookup desk index book) = Unit {0}

-- the sample is not given up: no give-up of its time is answered 'freed'; one that is refused gives nothing up
abbrev pub NotGivenUp : (time : ℕ) → Call → Got → Type 0
NotGivenUp time (receive desk at rest out) g = Unit {0}
NotGivenUp time (give-up desk at) g = at ≡ time → g ≡ released Freed → ⊥
NotGivenUp time (lookup desk index book) g = Unit {0}

-- what holds of each call and what it got
abbrev pub EachGot : (Call → Got → Type 0) → List Call → List Got → Type 0
EachGot P [] gs = Unit {0}
EachGot P (c ∷ cs) [] = Unit {0}
EachGot P (c ∷ cs) (g ∷ gs) = P c g × EachGot P cs gs

-- payload number k comes at the time with an output of at least 1,024
abbrev pub Brings : Caption → (M time k : ℕ) → Call → Type 0
Brings c M time k (receive desk at rest out) = (at ≡ Some time) × (sample_most ≤ length out) × Begins c M k rest
Brings c M time k (give-up desk at) = ⊥
Brings c M time k (lookup desk index book) = ⊥

abbrev pub Comes : Caption → (M time k : ℕ) → List Call → Type 0
Comes c M time k [] = ⊥
Comes c M time k (x ∷ xs) = Brings c M time k x ⊎ Comes c M time k xs
