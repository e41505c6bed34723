-- The twelve cases of document 01, 'Worked by hand', and those of requests 1 to 3 of document 02, as lists, and one statement over them:
-- each holds of the definitions that the promises of set-up, receive, give-up, lookup and the writer cite. Assumes nothing.
use Rattle.std.specs.Prelude.{ℕ, ◌≡◌, refl, true, false, ◌⊎◌}
use Rattle.std.proofs.Common.{arith, sym, subst, ◌∙◌, true≢false, inl, inr}
use mathlib.Core.List.{List, [], ◌∷◌, flatten}
use Rattle.std.specs.Int.Count.{ones}
use Rattle.laws.specs.Rows.{◌⇒◌⁏◌, ◌<?◌, ◌=?◌, or-none}
use Rattle.text.specs.Chart.{chart, within, follows, charted, unit_at, paired}
use Rattle.text.specs.Unicode.{character, well_formed, well_within, reach, reach_within}
use Rattle.unit.specs.Layout.{read_of, broken, judged, fields_of, least, bad_part, bad_whole, bad_description, text_judged, ill_text}
use Rattle.unit.specs.Head.{part_head}
use Rattle.joining.specs.Joining as J
use Rattle.sample.specs.Place.{bare, outside, has, agrees, stands, repeats, oversize, told_with, telling, laid, kept, missing, pieces_in}
use Rattle.sample.specs.Place.{pieces_of}
use Rattle.style.specs.Store.{in_window, held, repeated, noted}
use Rattle.style.specs.Store as S
use Rattle.finished.specs.Times.{among, marked_row, marked_used}
use Rattle.desk.specs.Effects.{asks_part}
use Rattle.desk.specs.Desk.{later, later_part, sample_of, conflicts, six, used_up, whole_taken, completed, joining, received}
use Rattle.desk.specs.Desk.{description_taken, given_up}
use Rattle.writer.specs.Cut.{cuts, cuts_within, modified, pieces}
use Rattle.writer.specs.Write.{long, count, part_unit, payload_data, payload_unit, unsized, ill_formed, unwritable, uncut}
use Rattle.writer.specs.Write.{written}
use Rattle.memory.specs.Relay.{Tables, stands_at, stepped, common_stepped, improper, stranger, short, own_marks, ordered, received_among}
use Rattle.memory.specs.Relay.{yielded, given_up_among}
use Rattle.good.specs.Good.{ready-exactly}
use Rattle.good.specs.Fresh.{fresh_view, set-up-exact}
use Rattle.peace.specs.Run.{run}
use Rattle.peace.specs.Alone.{alone, Frugal}
use Rattle.peace.proofs.Peace.{as-fresh}
use Rattle.worked.specs.Descriptions.{describes, describes_gets, Case9, describing, then-74, then-75}
use Rattle.worked.specs.Cases.{Case, plays, stores, writes, gotten, heads_of, Holds, All, case_1, case_5, live_calls, live_gets, case_live, cases_01, cases_17, cases_stored, cases_live, Computes, AllHold}

-- a case holds by computation, or by laws
so : (c : Case) → Computes c ⊎ Holds c → Holds c
so c (inr h) = h
so (plays desks calls x) (inl e) =
    λ s p q.
    subst (λ (t : Tables). gotten (run t calls) ≡ x)
    (sym (set-up-exact desks s (or-none _ _ ((ready-exactly desks s).0 p)).0 q)) e
so (stores calls heads) (inl e) =
    λ s p q. subst (λ (t : Tables). heads_of t calls ≡ heads) (sym (set-up-exact 2 s (or-none _ _ ((ready-exactly 2 s).0 p)).0 q)) e
so (writes many M k w out) (inl e) = e

-- cases 1 and 5, which no relay plays that refuses everything or has a constant answer
one-and-five : Computes case_1 × Computes case_5
unfolding ◌⇒◌⁏◌ ◌<?◌ ◌=?◌ read_of broken judged text_judged ill_text fields_of least bad_part bad_whole bare outside has agrees stands repeats
    oversize told_with telling laid kept missing pieces_in pieces_of among later later_part sample_of conflicts six used_up whole_taken completed
    joining received stands_at improper stranger short own_marks ordered received_among ones marked_row marked_used J.laters J.going
    J.ordered J.sound flatten part_head written count uncut unwritable ill_formed unsized well_formed well_within long part_unit
    payload_data payload_unit pieces modified cuts cuts_within reach reach_within character chart within follows charted
one-and-five = (refl, refl)

-- case 9 by laws, for its stores are not computed; `describing` says the same for any memory that is long enough
case-9-holds : (b : ℕ) (ten : List ℕ) → Case9 b ten → Holds (plays 1 (describes 0 b) (describes_gets ten))
unfolding ◌⇒◌⁏◌ ◌=?◌
case-9-holds b ten c = λ s p q. describing b ten c 1 0 (omega arith) s p (describes 0 b) refl

-- the case of request 3 by the law of a frugal desk, for behind the description the length of the stores is not computed
live-alone : (alone fresh_view live_calls ≡ live_gets) × Frugal fresh_view live_calls
unfolding ◌⇒◌⁏◌ ◌<?◌ ◌=?◌ read_of broken judged text_judged ill_text fields_of least bad_whole bad_part bad_description bare outside has agrees
    stands repeats oversize told_with telling laid kept missing pieces_in pieces_of among later later_part sample_of conflicts six used_up
    whole_taken completed joining asks_part description_taken noted S.improper held in_window repeated received ordered ones marked_row marked_used
    well_formed well_within character chart within follows charted
live-alone = (refl, (idle, (idle, (idle, (idle, (idle, (idle, (idle, (idle, (λ e. omega arith, tt))))))))))
  where
    idle : {A : Type 0} → false ≡ true → A
    idle e = absurd (true≢false (sym e))

live-holds : Holds case_live
unfolding ◌⇒◌⁏◌ ◌=?◌
live-holds = λ s p q. as-fresh 1 0 (omega arith) s p live_calls live_calls refl live-alone.1 ∙ live-alone.0

all_so : (cs : List Case) → AllHold cs → All cs
all_so [] e = tt
all_so (c ∷ cs) e = (so c e.0, all_so cs e.1)

each_holds : AllHold cases_01 × (AllHold cases_17 × (AllHold cases_stored × AllHold cases_live))
unfolding ◌⇒◌⁏◌ ◌<?◌ ◌=?◌ read_of broken judged text_judged ill_text fields_of least bad_part bad_whole bare outside has agrees stands
    repeats oversize told_with telling laid kept missing pieces_in pieces_of among later later_part sample_of conflicts six used_up whole_taken
    completed joining received stands_at stepped common_stepped improper stranger short own_marks ordered received_among ones marked_row
    marked_used J.laters J.going J.ordered J.sound flatten part_head written count uncut unwritable ill_formed unsized well_formed
    well_within long part_unit payload_data payload_unit pieces modified cuts cuts_within reach reach_within character chart within follows
    charted unit_at paired given_up yielded given_up_among
each_holds = (
  (
    inl one-and-five.0,
    (
      inl refl,
      (
        inl refl,
        (
          inl refl,
          (
            inl one-and-five.1,
            (
              inl refl,
              (
                inl refl,
                (
                  inl refl,
                  (
                    inr (case-9-holds 74 [] then-74),
                    (
                      inr (case-9-holds 75 (0x41 ∷ []) then-75),
                      (inl refl, (inl refl, (inl refl, (inl refl, (inl refl, (inl refl, tt)))))),
                    ),
                  ),
                ),
              ),
            ),
          ),
        ),
      ),
    ),
  ),
  ((inl refl, (inl refl, (inl refl, (inl refl, (inl refl, tt))))), ((inl refl, tt), (inr live-holds, tt))),
)

pub worked : All cases_01 × (All cases_17 × (All cases_stored × All cases_live))
worked = (
  all_so cases_01 each_holds.0,
  (all_so cases_17 each_holds.1.0, (all_so cases_stored each_holds.1.1.0, all_so cases_live each_holds.1.1.1)),
)
