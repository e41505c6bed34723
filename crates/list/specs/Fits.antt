-- The listing of a payload is at most 65,536 long: a line has at most 46 bytes, each unit but a last one uses three bytes at
-- least, and so there are at most 1,366 lines and `end`. Assumes nothing.
use Rattle.std.specs.Prelude.{ℕ, zero, suc, ◌+◌, ◌*◌, ◌/◌, ◌<◌, ◌≤◌, ◌≡◌, ◌⊎◌, List, ◌++◌, length, drop, replicate, Some, None}
use Rattle.std.proofs.Common.{arith, ⊎_elim, length-append, length-drop}
use Rattle.laws.specs.Rows.{each, ne_of, ge-of}
use Rattle.paper.specs.Limits.{sample_most}
use Rattle.paper.specs.Words.{number_of}
use Rattle.paper.specs.declared.Refusal.{Refusal}
use Rattle.paper.specs.declared.Refusal.TheVariants as R
use Rattle.paper.specs.Time.{Time}
use Rattle.paper.specs.declared.Outcome.{Outcome}
use Rattle.paper.specs.declared.Outcome.TheVariants as O
use Rattle.paper.specs.declared.Answer.{Answer}
use Rattle.unit.proofs.Readings.{reads-uses}
use Rattle.memory.specs.Relay.{Tables, Done, places_of, own_of, shares_of, sender}
use Rattle.good.specs.Good.{Good, receive-good}
use Rattle.lines.specs.Digits.{length_digits}
use Rattle.lines.specs.Line.{outcome_text, time_text, line_of}
use Rattle.lines.specs.Typed.{page, typed, typed-front}
use Rattle.list.specs.Listed.{payload_most, fresh, called, lines_from, listed}
use Rattle.list.specs.Modest.{Brief, Within, modest, reads-far}
use Rattle.list.specs.Runs.{called_is, fresh-good}

-- ---- the length of a line
number-most : (r : Refusal) → number_of r < 100
number-most R.Desk = omega arith
number-most R.Output = omega arith
number-most R.Frame = omega arith
number-most R.Fields = omega arith
number-most R.Size = omega arith
number-most R.Late = omega arith
number-most R.Conflict = omega arith
number-most R.Six = omega arith
number-most R.Common = omega arith
number-most R.Spoiled = omega arith
number-most R.NotOpen = omega arith
number-most R.Writer = omega arith
number-most R.Parts = omega arith
number-most R.Payload = omega arith
number-most R.Box = omega arith
number-most R.Book = omega arith
number-most R.IllFormed = omega arith
number-most R.Untimed = omega arith

outcome-most : (o : Outcome) → Brief o → length (outcome_text o) ≤ 11
unfolding outcome_text
outcome-most O.End h = omega arith
outcome-most (O.Whole f) h = let d = length_digits f.sample 3 (omega arith) in omega arith
outcome-most (O.Joined f) h = let d = length_digits f.sample 3 (omega arith) in omega arith
outcome-most (O.Kept n) h = let d = length_digits n 1 (omega arith) in omega arith
outcome-most O.Repeat h = omega arith
outcome-most O.Described h = omega arith
outcome-most (O.Skipped t) h = let d = length_digits t 0 (omega arith) in omega arith
outcome-most (O.Refused r) h = let d = length_digits (number_of r) 1 (number-most r) in omega arith

time-most : (t : Time) → Within t → length (time_text t) ≤ 10
unfolding time_text
time-most (Some time) h = omega (arith, length_digits time 9 (omega arith))
time-most None h = omega arith

line-most : (at : ℕ) (t : Time) (a : Answer) → at ≤ payload_most → Within t → a.used ≤ payload_most → Brief a.outcome
    → length (line_of at t a) ≤ 46
unfolding line_of
line-most at t a p w u o =
    let d = length_digits at 3 (omega arith) in
    let e = length_digits a.used 3 (omega arith) in
    let f = time-most t w in
    let g = outcome-most a.outcome o in
    simp length-append (omega arith)

-- ---- one call
pub record OneCall (rest : List ℕ) (d : Done) : Type 0 where
  pub next : Within d.answer.next
  pub words : Brief d.answer.outcome
  pub most : d.answer.used ≤ length rest
  pub far : (3 ≤ d.answer.used) ⊎ (d.answer.used ≡ length rest)

one-call : (s : Tables) (t : Time) (rest : List ℕ) → Good 1 s → Within t → 0 < length rest → OneCall rest (called s t rest)
one-call s t rest g w l =
    let o = own_of 1 s 0 t (replicate sample_most 0) in
    let m = modest (shares_of 1 0 (places_of 1 s)) o 0 t rest (g.well _).sane.made.short w in
    rw (called_is s t rest g) (record {
      next = m.next;
      words = m.words;
      most = omega (arith, m.uses, (reads-uses rest).most);
      far = rw m.uses (reads-far rest l);
    })

-- ---- all lines
-- how long the lines of n bytes can be
abbrev most : (n : ℕ) → ℕ
most n = 46 * ((n + 2) / 3) + 4

line-then : (at : ℕ) (t : Time) (rest more : List ℕ) (d : Done) → OneCall rest d → Within t → at + length rest ≤ payload_most
    → 0 < length rest
    → length more ≤ most (length (drop d.answer.used rest)) → length (line_of at t d.answer ++ more) ≤ most (length rest)
line-then at t rest more d k w p l m =
    let a = line-most at t d.answer (omega arith) w (omega (arith, k.most)) k.words in
    let b = length-drop d.answer.used rest in
    let c = k.most in
    simp length-append (⊎_elim (λ f. omega arith) (λ f. omega arith) k.far)

lines-most : (turns : ℕ) (s : Tables) (t : Time) (at : ℕ) (rest : List ℕ) → Good 1 s → Within t → at + length rest ≤ payload_most
    → length (lines_from turns s t at rest) ≤ most (length rest)
unfolding lines_from
lines-most zero s t at rest g w p = omega arith
lines-most (suc k) s t at rest g w p =
    each (λ (l : List ℕ). length l ≤ most (length rest)) _ _ _ (λ e. omega arith)
    (λ e.
    let l : 0 < length rest = omega (arith, ne_of _ _ e) in
    let d = one-call s t rest g w l in
    let u = length-drop (called s t rest).answer.used rest in
    line-then at t rest _ (called s t rest) d w p l
    (lines-most k (called s t rest).tables (called s t rest).answer.next (at + (called s t rest).answer.used)
    (drop (called s t rest).answer.used rest) (receive-good 1 s g (sender 0 t) rest (replicate sample_most 0)) d.next
    (omega (arith, d.most))))

pub fits : (input : List ℕ) → length (listed input) ≤ 65536
unfolding listed
fits input =
    each (λ (l : List ℕ). length l ≤ 65536) _ _ _ (λ e. omega arith)
    (λ e.
    let p = ge-of payload_most (length input) e in
    let m = lines-most (length input) fresh (Some 0) 0 input fresh-good (omega arith) (omega arith) in
    omega arith)

-- so in a text of 65,536 bytes all of it stands at the front, and its length is answered
pub whole : (input text : List ℕ) → length text ≡ 65536
    → typed text 0 (listed input) ≡ page (listed input ++ drop (length (listed input)) text) (length (listed input))
whole input text l = typed-front text (listed input) (omega (arith, fits input))
