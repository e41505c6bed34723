-- The relay's answer to a unit as numbers: a lent row gets the values one after the other. Assumes nothing.
use Rattle.std.specs.Prelude.{ℕ, List, [], ◌∷◌, ◌++◌, Some, None}
use Rattle.paper.specs.Words.{kind_of, values_of}
use Rattle.paper.specs.Time.{Time}
use Rattle.paper.specs.declared.Answer.{Answer}

-- whether the time is known, 1 or 0, and its number, 0 where it has none
abbrev pub time_row : Time → List ℕ
time_row (Some time) = 1 ∷ time ∷ []
time_row None = 0 ∷ 0 ∷ []

-- used, the next time, the outcome's kind, and its values
abbrev pub answer_row : Answer → List ℕ
answer_row a = a.used ∷ time_row a.next ++ kind_of a.outcome ∷ values_of a.outcome

-- the numbers that hold the row of any answer
abbrev pub row_most : ℕ
row_most = 10
