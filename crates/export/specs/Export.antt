-- What a call leaves, with the answer as numbers (`numbers`, `answers`), for callers in other languages. Assumes nothing.
use Rattle.std.specs.Prelude.{ℕ, ◌≡◌, List}
use Rattle.std.proofs.lemmas.List.Edits.{sets}
use Rattle.paper.specs.declared.Name.{Name}
use Rattle.paper.specs.declared.Sender.{Sender}
use Rattle.writer.specs.Write as Write
use Rattle.desk.specs.Desk.{given_up_number}
use Rattle.memory.specs.Relay.{Tables, Prepared, started_number, set_up, Done, received_at, Released, given_up_at}
use Rattle.memory.specs.Lent.{Slice, ReadSlice, Lent}
use Rattle.numbers.specs.Numbers.{written_row}
use Rattle.answers.specs.Answers.{answer_row}

-- ---- what a call leaves: the tables with the number, or with the output and the row
pub record Numbered : Type 0 where
  pub tables : Tables
  pub number : ℕ

abbrev pub numbered : Tables → ℕ → Numbered
numbered s n = record { tables = s; number = n }

abbrev pub started_as : Prepared → Numbered
started_as m = numbered m.tables (started_number m.answer)

abbrev pub released_as : Released → Numbered
released_as r = numbered r.tables (given_up_number r.answer)

pub record Rowed : Type 0 where
  pub used : ℕ
  pub tables : Tables
  pub out : List ℕ
  pub row : List ℕ

abbrev pub rowed : (used : ℕ) → Tables → (out row : List ℕ) → Rowed
rowed used s out row = record { used = used; tables = s; out = out; row = row }

abbrev pub done_as : Done → (row : List ℕ) → Rowed
done_as d row = rowed d.answer.used d.tables d.out (sets row 0 (answer_row d.answer))

-- ---- the calls of the relay, with the answer as numbers
abbrev pub SetsUpAs : (n : ℕ) → Lent → (r : ℕ) → Type 0
SetsUpAs n l r = numbered l.exit r ≡ started_as (set_up n l.entry)

abbrev pub ReceivesAs : Lent → Sender → (rest : ReadSlice ℕ) → (out row : Slice ℕ) → (used : ℕ) → Type 0
ReceivesAs l who rest out row used =
    rowed used l.exit out.exit.now row.exit.now
    ≡ done_as (received_at l.entry who rest.entry.now out.entry.now) row.entry.now

abbrev pub GivesUpAs : (List ℕ → Lent) → Name → (r : ℕ) → Type 0
GivesUpAs l who r = (stores : List ℕ) → numbered (l stores).exit r ≡ released_as (given_up_at (l stores).entry who)

-- ---- the writer
pub record Wrote : Type 0 where
  pub out : List ℕ
  pub row : List ℕ

abbrev pub wrote : (out row : List ℕ) → Wrote
wrote out row = record { out = out; row = row }

abbrev pub written_as : Write.After → (row : List ℕ) → Wrote
written_as a row = wrote a.out (sets row 0 (written_row a.answer))
