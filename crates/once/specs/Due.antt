-- 'Handed out once', in words: how far a sample has come, what is due to each call that counts, and the statement. Definitions only.
-- Assumes nothing.
use Rattle.writer.specs.Written.{packed}
use Rattle.std.specs.Prelude.{ℕ, suc, ◌+◌, ◌-◌, ◌≤◌, ◌<◌, ◌≡◌, Bool, true, false, List, [], ◌∷◌, ◌++◌, length, drop, Ok, Err}
use Rattle.laws.specs.Rows.{◌⇒◌⁏◌, ◌or◌, ◌and◌, ◌<?◌, ◌=?◌}
use Rattle.laws.specs.Sums.{sum}
use Rattle.laws.specs.Table.{bit}
use Rattle.paper.specs.Limits.{finished_most}
use Rattle.paper.specs.Words.{number_of}
use Rattle.paper.specs.declared.Refusal.TheVariants as R
use Rattle.paper.specs.declared.Outcome.{Outcome}
use Rattle.paper.specs.declared.Outcome.TheVariants as O
use Rattle.unit.specs.Layout.{read_of}
use Rattle.writer.specs.Write.{Caption, sample, long, count, written}
use Rattle.desk.specs.GivenUp.{GivenUp}
use Rattle.desk.specs.Desk.{facts}
use Rattle.memory.specs.Table.{is_time}
use Rattle.peace.specs.Run.{Call, receive, give-up, lookup, Got, answered, released, shown}
use Rattle.once.specs.Ours.{counts, payload_number, Every, EachGot, Ours, NotGivenUp, Comes}

-- ---- how far the sample has come: which payloads came with room; or it is finished, and so many others finished since
pub data Stage : Type 0 where
  gathering : (came : ℕ → Bool) → Stage
  finished : (since : ℕ) → Stage

-- no payload came
abbrev pub start : Stage
start = gathering (λ k. false)

-- payload number k came too
abbrev pub with : (ℕ → Bool) → (k : ℕ) → (ℕ → Bool)
with came k = λ j. j =? k or came j

-- how many of N are missing: N less the different ones that came
unfoldable pub awaited : (N : ℕ) → (ℕ → Bool) → ℕ
awaited N came = N - sum N (λ i. bit (came (suc i)))

-- ---- what is due, in a stage, to a call that counts and brings payload number k
abbrev pub hands_out : Outcome → Bool
hands_out O.End = false
hands_out (O.Whole f) = true
hands_out (O.Joined f) = true
hands_out (O.Kept n) = false
hands_out O.Repeat = false
hands_out O.Described = false
hands_out (O.Skipped t) = false
hands_out (O.Refused r) = false

module _ (c : Caption) (M time : ℕ) where
  -- the sample with its facts: joined, or whole if it was not cut
  abbrev pub handed : Outcome
  handed =
      long c M ⇒ O.Joined (facts time c.U c.SIDX c.SDUR (length c.string) (length (sample c)))
      ⁏ O.Whole (facts time c.U c.SIDX c.SDUR (length c.string) (length (sample c)))

  -- before it is finished: a repeat; kept, with the count of those still missing; the sample, when none is. Afterwards: refusal 6
  abbrev pub due : Stage → (k : ℕ) → Outcome
  due (gathering came) k =
      came k ⇒ O.Repeat
      ⁏ 0 <? awaited (count c M) (with came k) ⇒ O.Kept (awaited (count c M) (with came k))
      ⁏ handed
  due (finished since) k = O.Refused R.Late

-- where the sample is handed out the output begins with string and modifiers; all else of it is as it was
abbrev pub output : Caption → Outcome → (out : List ℕ) → List ℕ
output c x out = hands_out x ⇒ sample c ++ drop (length (sample c)) out ⁏ out

-- the call got that
abbrev pub Due : Caption → (M time : ℕ) → Stage → Call → Got → Type 0
Due c M time s (receive desk at rest out) (answered a after) =
    (a.outcome ≡ due c M time s (payload_number (read_of rest).unit)) × (after ≡ output c (due c M time s (payload_number (read_of rest).unit)) out)
Due c M time s (receive desk at rest out) (released a) = ⊥
Due c M time s (receive desk at rest out) (shown d) = ⊥
Due c M time s (give-up desk at) g = Unit {0}
Due c M time s (lookup desk index book) g = Unit {0}

-- ---- the stage after a call
-- one that counts: the sample is finished when the last missing payload comes
abbrev pub brought : Caption → (M : ℕ) → Stage → (k : ℕ) → Stage
brought c M (gathering came) k = 0 <? awaited (count c M) (with came k) ⇒ gathering (with came k) ⁏ finished 0
brought c M (finished since) k = finished since

-- any other that got g: a sample finishes when it is whole, joined, spoiled or given up
abbrev pub finishing : Outcome → Bool
finishing O.End = false
finishing (O.Whole f) = true
finishing (O.Joined f) = true
finishing (O.Kept n) = false
finishing O.Repeat = false
finishing O.Described = false
finishing (O.Skipped t) = false
finishing (O.Refused r) = number_of r =? 10

abbrev pub freeing : GivenUp → Bool
freeing (Ok u) = true
freeing (Err r) = false

abbrev pub finishes : Got → Bool
finishes (answered a out) = finishing a.outcome
finishes (released a) = freeing a
finishes (shown d) = false

abbrev pub passed : Stage → Got → Stage
passed (gathering came) g = gathering came
passed (finished since) g = finishes g ⇒ finished (suc since) ⁏ finished since

abbrev pub onward : Caption → (M time : ℕ) → Stage → Call → Got → Stage
onward c M time s (receive desk at rest out) g = counts time (receive desk at rest out) ⇒ brought c M s (payload_number (read_of rest).unit) ⁏ passed s g
onward c M time s (give-up desk at) g = passed s g
onward c M time s (lookup desk index book) g = passed s g

-- ---- the desk's calls one after the other, and what each got
-- every call that counts gets what is due to it
abbrev pub AllDue : Caption → (M time : ℕ) → Stage → List Call → List Got → Type 0
AllDue c M time s [] gs = Unit {0}
AllDue c M time s (x ∷ xs) [] = ⊥
AllDue c M time s (x ∷ xs) (g ∷ gs) = (counts time x ≡ true → Due c M time s x g) × AllDue c M time (onward c M time s x g) xs gs

-- how many calls at the time answer whole or joined
abbrev pub handing : (time : ℕ) → Call → Got → Bool
handing time (receive desk at rest out) (answered a after) = is_time at time and hands_out a.outcome
handing time (receive desk at rest out) (released a) = false
handing time (receive desk at rest out) (shown d) = false
handing time (give-up desk at) g = false
handing time (lookup desk index book) g = false

abbrev pub handings : (time : ℕ) → List Call → List Got → ℕ
handings time [] gs = 0
handings time (x ∷ xs) [] = 0
handings time (x ∷ xs) (g ∷ gs) = bit (handing time x g) + handings time xs gs

-- fewer than sixteen others finish between the sample and a call that counts
abbrev pub Soon : Stage → Type 0
Soon (gathering came) = Unit {0}
Soon (finished since) = since < finished_most

abbrev pub AllSoon : Caption → (M time : ℕ) → Stage → List Call → List Got → Type 0
AllSoon c M time s [] gs = Unit {0}
AllSoon c M time s (x ∷ xs) [] = Unit {0}
AllSoon c M time s (x ∷ xs) (g ∷ gs) = (counts time x ≡ true → Soon s) × AllSoon c M time (onward c M time s x g) xs gs

-- ---- the statement
-- the writer gives N payloads: it was asked for one, and was not refused
pub record Writes (c : Caption) (M N : ℕ) : Type 0 where
  pub number : ℕ
  pub out : List ℕ
  pub len : ℕ
  pub answer : (written c M number out).answer ≡ packed len N

-- what is presumed of a desk's calls and of what they got
pub record Coming (c : Caption) (M N time : ℕ) (xs : List Call) (gs : List Got) : Type 0 where
  -- the writer gives N payloads
  pub writes : Writes c M N
  -- every call that counts begins with one of them
  pub ours : Every (Ours c M time) xs
  -- each of them comes at least once with room
  pub each : (k : ℕ) → 1 ≤ k → k ≤ N → Comes c M time k xs
  -- the sample is not given up
  pub kept-up : EachGot (NotGivenUp time) xs gs
  -- fewer than sixteen other samples finish between it and the last call that counts
  pub soon : AllSoon c M time start xs gs

-- every call that counts gets what is due to it, and exactly one call at the time answers whole or joined
pub record HandedOnce (c : Caption) (M time : ℕ) (xs : List Call) (gs : List Got) : Type 0 where
  pub due : AllDue c M time start xs gs
  pub once : handings time xs gs ≡ 1
