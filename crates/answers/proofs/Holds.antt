-- A row of the exported length takes all of an answer. Assumes nothing.
use Rattle.std.specs.Prelude.{◌≤◌, ◌∷◌, ◌++◌, length, Some, None}
use Rattle.std.proofs.Common.{arith}
use Rattle.paper.specs.Time.{Time}
use Rattle.paper.specs.declared.Answer.{Answer}
use Rattle.paper.specs.declared.Outcome.{Outcome}
use Rattle.paper.specs.declared.Outcome.TheVariants.{End, Whole, Joined, Kept, Repeat, Described, Skipped, Refused}
use Rattle.paper.specs.Words.{kind_of, values_of}
use Rattle.answers.specs.Answers.{time_row, answer_row, row_most}

pub row-holds : (a : Answer) → length (answer_row a) ≤ row_most
row-holds a = at-time a.next
  where
    holds : (o : Outcome) → length (kind_of o ∷ values_of o) ≤ 7
    holds End = omega arith
    holds (Whole f) = omega arith
    holds (Joined f) = omega arith
    holds (Kept n) = omega arith
    holds Repeat = omega arith
    holds Described = omega arith
    holds (Skipped t) = omega arith
    holds (Refused r) = omega arith

    at-time : (t : Time) → length (a.used ∷ time_row t ++ kind_of a.outcome ∷ values_of a.outcome) ≤ row_most
    at-time (Some time) = omega (arith, holds a.outcome)
    at-time None = omega (arith, holds a.outcome)
