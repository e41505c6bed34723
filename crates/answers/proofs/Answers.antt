-- The relay's answer to a unit as numbers: a lent row gets the values one after the other. Assumes nothing.
use Rattle.std.specs.Prelude.{ℕ, ◌≡◌, refl, List, ◌∷◌, ◌++◌, set, Some, None}
use Rattle.std.proofs.lemmas.List.Edits.{sets}
use Rattle.paper.specs.Words.{kind_of, values_of}
use Rattle.paper.specs.Time.{Time}
use Rattle.paper.specs.declared.Answer.{Answer}
use Rattle.answers.specs.Answers.{time_row, answer_row}

-- its pieces one behind the other
pub answer-rows : (a : Answer) (row : List ℕ)
    → sets (set (sets (set row 0 a.used) 1 (time_row a.next)) 3 (kind_of a.outcome)) 4 (values_of a.outcome)
    ≡ sets row 0 (answer_row a)
answer-rows a row = go a.next
  where
    go : (t : Time) → sets (set (sets (set row 0 a.used) 1 (time_row t)) 3 (kind_of a.outcome)) 4 (values_of a.outcome)
        ≡ sets row 0 (a.used ∷ time_row t ++ kind_of a.outcome ∷ values_of a.outcome)
    go (Some time) = refl
    go None = refl
