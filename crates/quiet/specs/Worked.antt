-- Worked runs, by computation. In lent memory exactly as long as two desks need: a desk is not disturbed by one that takes all it can get;
-- and modesty is needed, by case 10 of document 01. In any lent memory: the same quiet desk among seven others, whatever they do. In
-- memory that holds no relay: every call is refused. Assumes nothing.
use Rattle.desk.specs.GivenUp.{Freed}
use Rattle.memory.specs.Started.{Ready}
use Rattle.std.specs.Prelude.{ℕ, ◌≡◌, refl, true, false, replicate, Some, Err}
use Rattle.std.proofs.Common.{arith, sym, ap, ap₂, subst, ◌∙◌, true≢false}
use mathlib.Core.List.{List, [], ◌∷◌, ◌++◌, map, flatten}
use Rattle.std.specs.Int.Count.{ones}
use Rattle.std.proofs.lemmas.List.Edits.{sets}
use Rattle.laws.specs.Rows.{◌⇒◌⁏◌, ◌<?◌, ◌=?◌}
use Rattle.paper.specs.Limits.{sample_most}
use Rattle.paper.specs.declared.Refusal.TheVariants as R
use Rattle.paper.specs.declared.Outcome.{Outcome}
use Rattle.paper.specs.declared.Outcome.TheVariants as O
use Rattle.text.specs.Chart.{chart, within, follows, charted}
use Rattle.text.specs.Unicode.{character, well_formed, well_within}
use Rattle.unit.specs.Layout.{read_of, broken, judged, text_judged, ill_text, fields_of, least, bad_part}
use Rattle.joining.specs.Joining as J
use Rattle.sample.specs.Place.{bare, outside, has, agrees, stands, repeats, oversize, told_with, telling, laid, kept, missing, pieces_in}
use Rattle.sample.specs.Place.{pieces_of}
use Rattle.finished.specs.Times.{among, marked_row, marked_used}
use Rattle.desk.specs.Desk.{says, facts, later, later_part, sample_of, conflicts, six, used_up, completed, joining, received, given_up}
use Rattle.desk.specs.Effects.{asks_part}
use Rattle.memory.specs.Relay.{Tables, desks_of, stands_at, stepped, common_stepped, improper, stranger, short, own_marks, set_up}
use Rattle.memory.specs.Relay.{ordered, Done, received_among, yielded, Released, given_up_among, sender}
use Rattle.good.specs.Good.{name}
use Rattle.good.specs.Lifted.{no-relay-receive, no-relay-give-up, no-relay-lookup}
use Rattle.good.specs.Fresh.{fresh_view, Exact, exact_tables, set-up-exact}
use Rattle.peace.specs.Run.{Call, receive, give-up, lookup, caller, Got, answered, released, shown, got, next, run, to, only}
use Rattle.peace.specs.Alone.{alone, Frugal}
use Rattle.peace.proofs.Peace.{as-fresh}

-- ---- cases 7 and 8 of document 01: the two parts of one sample, and the sample
abbrev first : List ℕ
first = 0x02 ∷ 0x00 ∷ 0x0B ∷ 0x21 ∷ 0x00 ∷ 0x00 ∷ 0x64 ∷ 0x80 ∷ 0x00 ∷ 0x0E ∷ 0x48 ∷ 0x69 ∷ []

abbrev second : List ℕ
second =
    0x03 ∷ 0x00 ∷ 0x12 ∷ 0x22 ∷ 0x00 ∷ 0x00 ∷ 0x64 ∷ 0x00 ∷ 0x00 ∷ 0x00 ∷ 0x0C ∷ 0x62 ∷ 0x6C ∷ 0x6E ∷ 0x6B ∷ 0x00 ∷ 0x00 ∷ 0x00 ∷ 0x01 ∷ []

abbrev sample : List ℕ
sample = 0x48 ∷ 0x69 ∷ 0x00 ∷ 0x00 ∷ 0x00 ∷ 0x0C ∷ 0x62 ∷ 0x6C ∷ 0x6E ∷ 0x6B ∷ 0x00 ∷ 0x00 ∷ 0x00 ∷ 0x01 ∷ []

abbrev blank : List ℕ
blank = replicate sample_most 0

-- a desk opens its sample of a time, and what it is told
abbrev opens : (desk time : ℕ) → Call
opens desk time = receive desk (Some time) first blank

abbrev hears : (time : ℕ) → Outcome → Got
hears time x = answered (says 12 (Some time) x) blank

-- ---- a quiet desk opens two, completes one and gives the other up
abbrev quiet : (desk : ℕ) → List Call
quiet desk = opens desk 1 ∷ opens desk 2 ∷ receive desk (Some 1) second blank ∷ give-up desk 2 ∷ []

abbrev quiet_gets : List Got
quiet_gets =
    hears 1 (O.Kept 1) ∷ hears 2 (O.Kept 1)
    ∷ answered (says 19 (Some 101) (O.Joined (facts 1 0 128 100 2 14))) (sets blank 0 sample) ∷ released Freed ∷ []

-- a greedy one opens all that it can: six, and its seventh gets 8
abbrev greedy : List Call
greedy = opens 0 1 ∷ opens 0 2 ∷ opens 0 3 ∷ opens 0 4 ∷ opens 0 5 ∷ opens 0 6 ∷ opens 0 7 ∷ []

abbrev greedy_gets : List Got
greedy_gets =
    hears 1 (O.Kept 1) ∷ hears 2 (O.Kept 1) ∷ hears 3 (O.Kept 1) ∷ hears 4 (O.Kept 1) ∷ hears 5 (O.Kept 1) ∷ hears 6 (O.Kept 1)
    ∷ hears 7 (O.Refused R.Six) ∷ []

-- both at one relay, where the greedy one gives one up and takes another
abbrev both : List Call
both = greedy ++ (opens 1 1 ∷ opens 1 2 ∷ give-up 0 1 ∷ opens 0 8 ∷ receive 1 (Some 1) second blank ∷ opens 0 9 ∷ give-up 1 2 ∷ [])

-- a desk that is not modest opens a third
abbrev three : List Call
three = opens 1 1 ∷ opens 1 2 ∷ opens 1 3 ∷ []

-- ---- what the rules compute to
abbrev Peaceful : Tables → Type 0
Peaceful s = (to 1 (run s both) ≡ quiet_gets) × (to 1 (run s (quiet 1)) ≡ quiet_gets)

abbrev Crowded : Tables → Type 0
Crowded s =
    (to 0 (run s (greedy ++ three)) ≡ greedy_gets)
    × ((to 1 (run s (greedy ++ three)) ≡ hears 1 (O.Kept 1) ∷ hears 2 (O.Kept 1) ∷ hears 3 (O.Refused R.Common) ∷ [])
    × (to 1 (run s three) ≡ hears 1 (O.Kept 1) ∷ hears 2 (O.Kept 1) ∷ hears 3 (O.Kept 1) ∷ []))

-- alone, the quiet desk has none open at its first call and one at its second, and its others ask for no place
computed : Peaceful (exact_tables 2) × (Crowded (exact_tables 2) × (Frugal fresh_view (quiet 7) × (alone fresh_view (quiet 7) ≡ quiet_gets)))
unfolding ◌⇒◌⁏◌ ◌<?◌ ◌=?◌ read_of broken judged text_judged ill_text fields_of least bad_part bare outside has agrees stands repeats oversize
    told_with telling laid kept missing pieces_in pieces_of among later later_part sample_of conflicts six used_up completed joining received
    stands_at stepped common_stepped improper stranger short own_marks ordered received_among ones marked_row marked_used given_up yielded
    given_up_among J.laters J.going J.ordered J.sound flatten asks_part well_formed well_within character chart within follows charted
computed =
    ((refl, refl), ((refl, (refl, refl)), ((λ e. omega arith, (λ e. omega arith, (λ e. absurd (true≢false (sym e)), (λ e. absurd (true≢false (sym e)), tt)))), refl)))

-- ---- in lent memory exactly as long as two desks need
two-is-proper : improper 2 ≡ false
unfolding improper ◌⇒◌⁏◌ ◌<?◌ ◌=?◌
two-is-proper = refl

-- the quiet desk gets the same, with the greedy one and without it
pub in-peace : (s : Tables) → Exact 2 s → Peaceful (set_up 2 s).tables
in-peace s x = subst Peaceful (sym (set-up-exact 2 s two-is-proper x)) computed.0

-- case 10: the third of a desk gets 9 beside the greedy one, and is kept without it
pub case_10 : (s : Tables) → Exact 2 s → Crowded (set_up 2 s).tables
case_10 s x = subst Crowded (sym (set-up-exact 2 s two-is-proper x)) computed.1.0

-- ---- in any lent memory, among seven others: whatever they do, desk 7 gets this
pub among-seven : (s : Tables) → (set_up 8 s).answer ≡ Ready → (xs : List Call) → only 7 xs ≡ quiet 7
    → to 7 (run (set_up 8 s).tables xs) ≡ quiet_gets
among-seven s e xs q = as-fresh 8 7 (omega arith) s e xs (quiet 7) q computed.1.1.0 ∙ computed.1.1.1

-- ---- in memory whose head does not hold 1 to 8: whatever is called, each call is refused by 1, and a lookup shows nothing
abbrev denied : Call → Got
denied (receive desk t rest out) = answered (says 0 t (O.Refused R.Desk)) out
denied (give-up desk time) = released (Err R.Desk)
denied (lookup desk index book) = shown []

module _ (s : Tables) (e : improper (desks_of s.marks) ≡ true) where
  -- and leaves the tables as they stood
  denies : (c : Call) → (got s c ≡ denied c) × (next s c ≡ s)
  denies (receive desk t rest out) =
      let q = no-relay-receive s e (sender desk t) rest out in
      (ap (λ (r : Done). answered r.answer r.out) q, ap (λ (r : Done). r.tables) q)
  denies (give-up desk time) =
      let q = no-relay-give-up s e (name desk time) in
      (ap (λ (r : Released). released r.answer) q, ap (λ (r : Released). r.tables) q)
  denies (lookup desk index book) = (ap shown (no-relay-lookup s e desk index book), refl)

  pub no-relay : (xs : List Call) → run s xs ≡ map (λ (c : Call). (caller c, denied c)) xs
  no-relay [] = refl
  no-relay (c ∷ cs) =
      ap₂ (λ (g : Got) (t : Tables). (caller c, g) ∷ run t cs) (denies c).0 (denies c).1
      ∙ ap (λ (gs : List (ℕ × Got)). (caller c, denied c) ∷ gs) (no-relay cs)
