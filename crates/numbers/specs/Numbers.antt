-- Answers as numbers, for callers in other languages: a lent row gets the values one after the other. Assumes nothing.
use Rattle.std.specs.Prelude.{ℕ, List, ◌∷◌, Some, None}
use Rattle.laws.specs.Rows.{◌⇒◌⁏◌, ◌=?◌}
use Rattle.paper.specs.declared.Name.{Name}
use Rattle.paper.specs.declared.Sender.{Sender}
use Rattle.paper.specs.Time.{Time}
use Rattle.style.specs.Checked.{Checked}
use Rattle.style.specs.Book.{checked_number, checked_values}
use Rattle.boxes.specs.Found.{Found}
use Rattle.boxes.specs.Words.{found_kind, found_values}
use Rattle.memory.specs.Relay.{sender}
use Rattle.writer.specs.Written.{Written}
use Rattle.writer.specs.Write.{written_number, written_values}

-- ---- the numbers of each answer
-- 0, or the refusal, and the values: how many records, or the first bad one's number
abbrev pub checked_row : Checked → List ℕ
checked_row c = checked_number c ∷ checked_values c

-- 0, the payload's length and how many there are; or the refusal
abbrev pub written_row : Written → List ℕ
written_row w = written_number w ∷ written_values w

-- the next place, the kind of what was found, and its values
abbrev pub stepped_row : (next : ℕ) → Found → List ℕ
stepped_row next f = next ∷ found_kind f ∷ found_values f

-- ---- the name of a sample, from numbers
abbrev pub name_of : (desk time : ℕ) → Name
name_of desk time = record { desk = desk; time = time }

-- ---- the running time, from two numbers: whether it is known, 0 where not, and the time
abbrev pub time_of : (known time : ℕ) → Time
time_of known time = known =? 0 ⇒ None ⁏ Some time

-- who sends a unit
abbrev pub sent_by : (desk known time : ℕ) → Sender
sent_by desk known time = sender desk (time_of known time)
