-- What the cases of the paper's enums stand for: each refusal's number, the running time, and each outcome's place in the paper's list
-- with the values that the paper gives with it. Assumes nothing.
use Rattle.std.specs.Prelude.{ℕ, List, [], ◌∷◌, Some, None}
use Rattle.paper.specs.declared.Refusal.{Refusal}
use Rattle.paper.specs.declared.Refusal.TheVariants.{Desk, Output, Frame, Fields, Size, Late, Conflict, Six, Common, Spoiled}
use Rattle.paper.specs.declared.Refusal.TheVariants.{NotOpen, Writer, Parts, Payload, Box, Book, IllFormed, Untimed}
use Rattle.paper.specs.Time.{Time}
use Rattle.paper.specs.declared.Outcome.{Outcome}
use Rattle.paper.specs.declared.Outcome.TheVariants.{End, Whole, Joined, Kept, Repeat, Described, Skipped, Refused}
use Rattle.paper.specs.declared.Facts.{Facts}
use Rattle.paper.specs.declared.Name.{Name}
use Rattle.paper.specs.declared.Sender.{Sender}

abbrev pub number_of : Refusal → ℕ
-- the desk's number, n, or lent memory that is too short for n
number_of Desk = 1
-- an output that is too short
number_of Output = 2
-- LEN, or a unit longer than the rest
number_of Frame = 3
-- a field's value
number_of Fields = 4
-- too many bytes
number_of Size = 5
number_of Late = 6
-- another part, sample or description stands there
number_of Conflict = 7
-- the desk has six open
number_of Six = 8
-- the common places are used up
number_of Common = 9
number_of Spoiled = 10
-- give-up of a sample that is not open
number_of NotOpen = 11
-- what the writer is not given to write
number_of Writer = 12
-- over fifteen parts, or no way to cut
number_of Parts = 13
-- no payload of that number
number_of Payload = 14
number_of Box = 15
number_of Book = 16
-- a string that is not well-formed
number_of IllFormed = 17
-- a text unit at an unknown time
number_of Untimed = 18

-- ---- the running time is known, with its number, or unknown: what is so at a known one, and what at an unknown one
abbrev pub by_time : {A : Type 0} → Time → (ℕ → A) → A → A
by_time (Some time) known unknown = known time
by_time None known unknown = unknown

-- the outcomes in the paper's order
abbrev pub kind_of : Outcome → ℕ
kind_of End = 0
kind_of (Whole f) = 1
kind_of (Joined f) = 2
kind_of (Kept n) = 3
kind_of Repeat = 4
kind_of Described = 5
kind_of (Skipped t) = 6
kind_of (Refused r) = 7

abbrev pub facts_of : Facts → List ℕ
facts_of f = f.time ∷ f.u ∷ f.sidx ∷ f.sdur ∷ f.string ∷ f.sample ∷ []

-- the values of each
abbrev pub values_of : Outcome → List ℕ
values_of End = []
values_of (Whole f) = facts_of f
values_of (Joined f) = facts_of f
values_of (Kept n) = n ∷ []
values_of Repeat = []
values_of Described = []
values_of (Skipped t) = t ∷ []
values_of (Refused r) = number_of r ∷ []

-- whose sample a name is
abbrev pub whose : Name → Sender
whose n = record { desk = n.desk; time = Some n.time }
