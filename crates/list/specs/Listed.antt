-- The listing of one payload: document 01, 'Worked by hand'. Assumes nothing.
use Rattle.std.specs.Prelude.{ℕ, zero, suc, ◌+◌, List, ◌++◌, length, drop, replicate, Some}
use Rattle.laws.specs.Rows.{◌⇒◌⁏◌, ◌<?◌, ◌=?◌}
use Rattle.paper.specs.Limits.{sample_most, places_most, rows_need, marks_need, stores_need}
use Rattle.paper.specs.Time.{Time}
use Rattle.sample.specs.Place.{closed}
use Rattle.memory.specs.Relay.{Tables, Done, tables, set_up, received_at, sender}
use Rattle.lines.specs.Words.{word_end, word_too_long, new_line}
use Rattle.lines.specs.Line.{line_of}

-- the longest payload that is listed
abbrev pub payload_most : ℕ
payload_most = 4096

-- `end` and `too long`, each with its new line
abbrev pub end_line : List ℕ
end_line = word_end ++ new_line

abbrev pub too_long : List ℕ
too_long = word_too_long ++ new_line

-- what set-up makes for one desk of memory that is blank
unfoldable pub blank : Tables
blank = tables (replicate places_most closed) (replicate (rows_need 1) 0) (replicate (marks_need 1) 0) (replicate (stores_need 1) 0)

unfoldable pub fresh : Tables
fresh = (set_up 1 blank).tables

-- one call of desk 0, lent a blank output
abbrev pub called : Tables → Time → (rest : List ℕ) → Done
called s t rest = received_at s (sender 0 t) rest (replicate sample_most 0)

-- a line a unit, and `end`: rest begins at `at` in the payload, and is read at the time t. `turns` bounds the number of units
unfoldable pub lines_from : (turns : ℕ) → Tables → Time → (at : ℕ) → (rest : List ℕ) → List ℕ
lines_from zero s t at rest = end_line
lines_from (suc turns) s t at rest =
    length rest =? 0 ⇒ end_line
    ⁏ (let d = called s t rest in
    line_of at t d.answer ++ lines_from turns d.tables d.answer.next (at + d.answer.used) (drop d.answer.used rest))

-- every unit uses a byte at least, so there are at most as many as bytes
unfoldable pub listed : (input : List ℕ) → List ℕ
listed input = payload_most <? length input ⇒ too_long ⁏ lines_from (length input) fresh (Some 0) 0 input
