-- One line of the listing for one answer: document 01, 'Worked by hand'. Assumes nothing.
use Rattle.std.specs.Prelude.{ℕ, ◌≡◌, List, ◌++◌, Some, None}
use Rattle.paper.specs.Words.{number_of}
use Rattle.paper.specs.declared.Outcome.{Outcome}
use Rattle.paper.specs.declared.Outcome.TheVariants.{End, Whole, Joined, Kept, Repeat, Described, Skipped, Refused}
use Rattle.paper.specs.Time.{Time}
use Rattle.paper.specs.declared.Answer.{Answer}
use Rattle.lines.specs.Words.{word_at, word_used, word_time, word_unknown, word_blank, new_line, word_end, word_whole, word_joined, word_kept}
use Rattle.lines.specs.Words.{word_repeat, word_described, word_skipped, word_refused}
use Rattle.lines.specs.Digits.{digits}
use Rattle.lines.specs.Typed.{page, typed, then}

-- the words of an outcome, and behind whole and joined the sample length
unfoldable pub outcome_text : Outcome → List ℕ
outcome_text End = word_end
outcome_text (Whole f) = word_whole ++ digits f.sample
outcome_text (Joined f) = word_joined ++ digits f.sample
outcome_text (Kept n) = word_kept ++ digits n
outcome_text Repeat = word_repeat
outcome_text Described = word_described
outcome_text (Skipped t) = word_skipped ++ digits t
outcome_text (Refused r) = word_refused ++ digits (number_of r)

-- the running time, and `?` where it is unknown
unfoldable pub time_text : Time → List ℕ
time_text (Some time) = digits time
time_text None = word_unknown

-- `at P used N time T`, the outcome, and a new line
unfoldable pub line_of : (place : ℕ) → Time → Answer → List ℕ
line_of place t a =
    (word_at ++ digits place)
    ++ (word_used ++ digits a.used)
    ++ (word_time ++ time_text t)
    ++ word_blank
    ++ outcome_text a.outcome
    ++ new_line

-- in the code's own values: the pieces of a line, one behind the other
pub line-is : (out : List ℕ) (at place : ℕ) (t : Time) (answer : Answer) (a b c d e f : List ℕ) (i j k l m n : ℕ)
    → page a i ≡ typed out at (word_at ++ digits place)
    → page b j ≡ typed a i (word_used ++ digits answer.used)
    → page c k ≡ typed b j (word_time ++ time_text t)
    → page d l ≡ typed c k word_blank
    → page e m ≡ typed d l (outcome_text answer.outcome)
    → page f n ≡ typed e m new_line
    → page f n ≡ typed out at (line_of place t answer)
unfolding line_of
line-is out at place t answer a b c d e f i j k l m n p q r s v u =
    then _ _ _ _ _ _ _ _ (then _ _ _ _ _ _ _ _ (then _ _ _ _ _ _ _ _ (then _ _ _ _ _ _ _ _ (then _ _ _ _ _ _ _ _ p q) r) s) v) u
