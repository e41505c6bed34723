-- Worked runs, by computation. The parts of cases 7 and 8 of document 01 are what the writer gives of their sample; calls that bring them
-- keep to all that 'handed out once' presumes. And how long a repeat is late: until sixteen more samples are finished. Assumes nothing.
use Rattle.desk.specs.GivenUp.{Freed}
use Rattle.memory.specs.Started.{Ready}
use Rattle.writer.specs.Written.{packed}
use Rattle.std.specs.Prelude.{ℕ, zero, suc, ◌≤◌, ◌<◌, ◌≡◌, refl, true, false, length, get_or, replicate, Err}
use Rattle.std.proofs.Common.{arith, sym, ap, subst, true≢false, inl, inr}
use mathlib.Core.List.{List, [], ◌++◌, flatten}
use Rattle.std.specs.Int.Count.{ones}
use Rattle.std.proofs.lemmas.List.{length-replicate}
use Rattle.laws.specs.Rows.{◌⇒◌⁏◌, ◌<?◌, ◌=?◌}
use Rattle.paper.specs.Limits.{sample_most}
use Rattle.paper.specs.declared.Refusal.TheVariants as R
use Rattle.paper.specs.declared.Outcome.TheVariants as O
use Rattle.text.specs.Chart.{chart, within, follows, charted}
use Rattle.text.specs.Unicode.{character, well_formed, well_within, reach, reach_within}
use Rattle.unit.specs.Layout.{read_of, broken, judged, fields_of, least, bad_part, bad_whole, text_judged, ill_text}
use Rattle.joining.specs.Joining as J
use Rattle.unit.specs.Head.{part_head}
use Rattle.writer.specs.Cut.{cuts, cuts_within, modified, pieces}
use Rattle.writer.specs.Write.{Caption, long, count, part_unit, payload_unit, payload_data, payload, unsized, ill_formed}
use Rattle.writer.specs.Write.{unwritable, uncut, written}
use Rattle.sample.specs.Place.{bare, outside, has, agrees, stands, repeats, oversize, told_with, telling, laid, kept, missing, pieces_in}
use Rattle.sample.specs.Place.{pieces_of}
use Rattle.finished.specs.Times.{among, moved_row, marked_row, marked_used}
use Rattle.desk.specs.Desk.{later, later_part, whole_taken, sample_of, conflicts, six, used_up, completed, joining, received, given_up}
use Rattle.desk.specs.Effects.{asks_part}
use Rattle.octets.specs.Same.{same}
use Rattle.memory.specs.Relay.{Tables, set_up, ordered, yielded}
use Rattle.good.specs.Fresh.{fresh_view}
use Rattle.peace.specs.Run.{Call, released, shown, run, to, only}
use Rattle.peace.specs.Alone.{alone, Frugal}
use Rattle.peace.proofs.Peace.{as-fresh, fresh-modest}
use Rattle.once.specs.Ours.{Begins, OneOf, Comes}
use Rattle.once.specs.Due.{awaited, Coming, HandedOnce}
use Rattle.once.proofs.Once.{handed-out-once}
use Rattle.once.specs.Worked.{first, second, all, letters, blink, blinked, blank, hi, plain, abc, calls, whole_calls, three_calls, Meets, run_with, hears}

two-payloads : (count hi 19 ≡ 2) × (payload hi 19 1 ≡ first) × (payload hi 19 2 ≡ second)
    × ((written hi 19 1 (replicate 19 0)).answer ≡ packed 12 2)
unfolding count payload_unit payload_data part_unit part_head written uncut unwritable ill_formed unsized well_formed well_within long pieces
    modified cuts cuts_within reach reach_within character chart within follows charted ◌⇒◌⁏◌ ◌<?◌ ◌=?◌
two-payloads = (refl, refl, refl, refl)

one-payload : (count plain 14 ≡ 1) × (payload plain 14 1 ≡ all) × ((written plain 14 1 (replicate 14 0)).answer ≡ packed 11 1)
unfolding count payload_unit payload_data part_unit part_head written uncut unwritable ill_formed unsized well_formed well_within long pieces
    modified cuts cuts_within reach reach_within character chart within follows charted ◌⇒◌⁏◌ ◌<?◌ ◌=?◌
one-payload = (refl, refl, refl)

three-payloads : (count abc 17 ≡ 3) × (payload abc 17 1 ≡ letters) × (payload abc 17 2 ≡ blink) × (payload abc 17 3 ≡ blinked)
    × ((written abc 17 1 (replicate 17 0)).answer ≡ packed 13 3)
unfolding count payload_unit payload_data part_unit part_head written uncut unwritable ill_formed unsized well_formed well_within long pieces
    modified cuts cuts_within reach reach_within character chart within follows charted ◌⇒◌⁏◌ ◌<?◌ ◌=?◌
three-payloads = (refl, refl, refl, refl, refl)

-- bytes that are a payload, and what follows them, begin with it
starts : (c : Caption) (M k : ℕ) (bytes more : List ℕ) → payload c M k ≡ bytes → 1 ≤ k → k ≤ count c M → Begins c M k (bytes ++ more)
starts c M k bytes more e a b = record { from = a; to = b; more = more; is = ap (λ (l : List ℕ). l ++ more) (sym e) }

one_of : {c : Caption} {M k : ℕ} {rest : List ℕ} → Begins c M k rest → OneOf c M rest
one_of {c} {M} {k} b = record { number = k; begins = b }

room : sample_most ≤ length blank
room = omega (arith, length-replicate {A = ℕ} sample_most 0)

-- a refused give-up frees nothing
refusing : released (Err R.NotOpen) ≡ released Freed → ⊥
refusing e = let z : ◌≡◌ {A = ℕ} 0 1 = cc in omega arith

idle : {A : Type 0} → false ≡ true → A
idle e = absurd (true≢false (sym e))

meets : (desk : ℕ) → Meets hi 19 (calls desk) × Meets plain 14 (whole_calls desk) × Meets abc 17 (three_calls desk)
unfolding ◌⇒◌⁏◌ ◌<?◌ ◌=?◌ read_of broken judged text_judged ill_text fields_of least bad_part bad_whole bare outside has agrees stands repeats
    oversize told_with telling laid kept missing pieces_in pieces_of among later later_part sample_of conflicts six used_up completed joining
    whole_taken received ordered ones moved_row marked_row marked_used J.laters J.going J.ordered J.sound flatten asks_part same given_up
    yielded awaited count long pieces modified cuts cuts_within reach reach_within well_formed well_within character chart within
    follows charted
meets desk = (
  record {
    frugal = (idle, (λ e. omega arith, (idle, (idle, (idle, (idle, (idle, tt)))))));
    kept-up = (λ q. refusing, (tt, (tt, (tt, (tt, (λ q. refusing, (tt, tt)))))));
    soon = (λ e. tt, (λ e. tt, (λ e. tt, (λ e. tt, (λ e. tt, (λ e. omega arith, (λ e. omega arith, tt)))))));
  },
  record {
    frugal = (idle, (idle, (idle, (idle, tt))));
    kept-up = (λ q. refusing, (tt, (λ q. refusing, (tt, tt))));
    soon = (λ e. tt, (λ e. tt, (λ e. omega arith, (λ e. omega arith, tt))));
  },
  record {
    frugal = (idle, (λ e. omega arith, (idle, (idle, (idle, (idle, tt))))));
    kept-up = (λ q. refusing, (tt, (tt, (tt, (λ q. refusing, (tt, tt))))));
    soon = (λ e. tt, (λ e. tt, (λ e. tt, (λ e. tt, (λ e. omega arith, (λ e. omega arith, tt))))));
  },
)

-- ---- all that 'handed out once' presumes is met
coming : (desk : ℕ) → Coming hi 19 2 5 (calls desk) (alone fresh_view (calls desk))
coming desk = record {
  writes = record { number = 1; out = replicate 19 0; len = 12; answer = two-payloads.3 };
  ours = (tt, (λ e. one_of (two []), (λ e. one_of (one []), (λ e. one_of (two []), (λ e. one_of (one second), (tt, (λ e. one_of (one []), tt)))))));
  each = come;
  kept-up = (meets desk).0.kept-up;
  soon = (meets desk).0.soon;
}
  where
    one : (more : List ℕ) → Begins hi 19 1 (first ++ more)
    one more = starts hi 19 1 first more two-payloads.1 (omega arith) (omega (arith, two-payloads.0))

    two : (more : List ℕ) → Begins hi 19 2 (second ++ more)
    two more = starts hi 19 2 second more two-payloads.2 (omega arith) (omega (arith, two-payloads.0))

    come : (k : ℕ) → 1 ≤ k → k ≤ 2 → Comes hi 19 5 k (calls desk)
    come zero a b = absurd (omega arith)
    come (suc zero) a b = inr (inr (inr (inr (inl (refl, room, one second)))))
    come (suc (suc zero)) a b = inr (inl (refl, room, two []))
    come (suc (suc (suc k))) a b = absurd (omega arith)

whole-coming : (desk : ℕ) → Coming plain 14 1 5 (whole_calls desk) (alone fresh_view (whole_calls desk))
whole-coming desk = record {
  writes = record { number = 1; out = replicate 14 0; len = 11; answer = one-payload.2 };
  ours = (tt, (λ e. one_of only_one, (tt, (λ e. one_of only_one, tt))));
  each = come;
  kept-up = (meets desk).1.kept-up;
  soon = (meets desk).1.soon;
}
  where
    only_one : Begins plain 14 1 all
    only_one = starts plain 14 1 all [] one-payload.1 (omega arith) (omega (arith, one-payload.0))

    come : (k : ℕ) → 1 ≤ k → k ≤ 1 → Comes plain 14 5 k (whole_calls desk)
    come zero a b = absurd (omega arith)
    come (suc zero) a b = inr (inl (refl, room, only_one))
    come (suc (suc k)) a b = absurd (omega arith)

three-coming : (desk : ℕ) → Coming abc 17 3 5 (three_calls desk) (alone fresh_view (three_calls desk))
three-coming desk = record {
  writes = record { number = 1; out = replicate 17 0; len = 13; answer = three-payloads.4 };
  ours = (tt, (λ e. one_of three, (λ e. one_of one, (λ e. one_of two, (tt, (λ e. one_of one, tt))))));
  each = come;
  kept-up = (meets desk).2.kept-up;
  soon = (meets desk).2.soon;
}
  where
    one : Begins abc 17 1 letters
    one = starts abc 17 1 letters [] three-payloads.1 (omega arith) (omega (arith, three-payloads.0))

    two : Begins abc 17 2 blink
    two = starts abc 17 2 blink [] three-payloads.2 (omega arith) (omega (arith, three-payloads.0))

    three : Begins abc 17 3 blinked
    three = starts abc 17 3 blinked [] three-payloads.3 (omega arith) (omega (arith, three-payloads.0))

    come : (k : ℕ) → 1 ≤ k → k ≤ 3 → Comes abc 17 5 k (three_calls desk)
    come zero a b = absurd (omega arith)
    come (suc zero) a b = inr (inr (inl (refl, room, one)))
    come (suc (suc zero)) a b = inr (inr (inr (inl (refl, room, two))))
    come (suc (suc (suc zero))) a b = inr (inl (refl, room, three))
    come (suc (suc (suc (suc k)))) a b = absurd (omega arith)

-- ---- in any lent memory, among any others, whatever they do
module _ (c : Caption) (M N : ℕ) (xs : List Call) (f : Frugal fresh_view xs) (p : Coming c M N 5 xs (alone fresh_view xs)) where
  anywhere : (n d : ℕ) → d < n → (s : Tables) → (set_up n s).answer ≡ Ready → (ys : List Call) → only d ys ≡ xs
      → HandedOnce c M 5 xs (to d (run (set_up n s).tables ys))
  anywhere n d h s e ys q =
      let r = (set_up n s).tables in
      let z : Coming c M N 5 (only d ys) (to d (run r ys)) =
      subst (λ (l : List Call). Coming c M N 5 l (to d (run r ys))) (sym q)
      (subst (Coming c M N 5 xs) (sym (as-fresh n d h s e ys xs q f)) p) in
      subst (λ (l : List Call). HandedOnce c M 5 l (to d (run r ys))) q
      (handed-out-once n d h s e ys (fresh-modest n d h s e ys xs q f) c M N 5 z)

pub in-any-run : (n d : ℕ) → d < n → (s : Tables) → (set_up n s).answer ≡ Ready → (xs : List Call) → only d xs ≡ calls d
    → HandedOnce hi 19 5 (calls d) (to d (run (set_up n s).tables xs))
in-any-run n d = anywhere hi 19 2 (calls d) (meets d).0.frugal (coming d) n d

pub whole-in-any-run : (n d : ℕ) → d < n → (s : Tables) → (set_up n s).answer ≡ Ready → (xs : List Call) → only d xs ≡ whole_calls d
    → HandedOnce plain 14 5 (whole_calls d) (to d (run (set_up n s).tables xs))
whole-in-any-run n d = anywhere plain 14 1 (whole_calls d) (meets d).1.frugal (whole-coming d) n d

pub three-in-any-run : (n d : ℕ) → d < n → (s : Tables) → (set_up n s).answer ≡ Ready → (xs : List Call) → only d xs ≡ three_calls d
    → HandedOnce abc 17 5 (three_calls d) (to d (run (set_up n s).tables xs))
three-in-any-run n d = anywhere abc 17 3 (three_calls d) (meets d).2.frugal (three-coming d) n d

-- fifteen samples later it is late, and sixteen later it opens the sample anew
pub sharp-edge : (get_or (alone fresh_view (run_with 15)) 17 (shown []) ≡ hears (O.Refused R.Late)) × (get_or (alone fresh_view (run_with 16)) 18 (shown []) ≡ hears (O.Kept 1))
unfolding ◌⇒◌⁏◌ ◌<?◌ ◌=?◌ read_of broken judged text_judged ill_text fields_of least bad_part bad_whole bare outside has agrees stands repeats
    oversize told_with telling laid kept missing pieces_in pieces_of among later later_part sample_of conflicts six used_up completed joining
    whole_taken received ordered ones moved_row marked_row marked_used J.laters J.going J.ordered J.sound flatten well_formed well_within
    character chart within follows charted
sharp-edge = (refl, refl)
