-- A live line of unknown length, in any tables, with any rest and output: what a call makes of the running time, and which units make it
-- unknown; 18, exactly; and that at an unknown time all but text units is answered as at any known one. Assumes nothing.
use Rattle.std.specs.Prelude.{ℕ, ◌≡◌, refl, Bool, List, length, Some, None}
use Rattle.std.proofs.Common.{arith, sym, ◌∙◌, true≢false}
use Rattle.std.proofs.Math.Path.{ap}
use Rattle.std.proofs.Math.Bool.{true, false}
use Rattle.laws.specs.Exactly.{Exactly}
use Rattle.laws.specs.Rows.{◌⇒◌⁏◌, ◌or◌, ◌<?◌, each, yes, no, eq, eq_of, or-none}
use Rattle.paper.specs.Limits.{sample_most}
use Rattle.paper.specs.Words.{by_time}
use Rattle.paper.specs.declared.Refusal.TheVariants as R
use Rattle.paper.specs.declared.Sender.{Sender}
use Rattle.paper.specs.Time.{Time}
use Rattle.paper.specs.declared.Outcome.{Outcome}
use Rattle.paper.specs.declared.Outcome.TheVariants as O
use Rattle.paper.specs.declared.Answer.{Answer}
use Rattle.unit.specs.declared.Unit.{Unit}
use Rattle.unit.specs.declared.Unit.TheVariants.{End, Skipped, Refused, Whole, Part, Description}
use Rattle.unit.specs.Layout.{read_of, data_of}
use Rattle.unit.specs.Reads.{ByReader}
use Rattle.unit.proofs.Readings.{other-number, read-by-reader}
use Rattle.desk.specs.declared.Shares.{Shares}
use Rattle.desk.specs.Desk.{Own, After, own, says, stay, refuse, later, later_part, description_taken}
use Rattle.desk.specs.Desk.{taken, received, is_text}
use Rattle.desk.specs.Effects.{refusal_number, Regular}
use Rattle.desk.proofs.Effects.{at-times, whole-regular, joining-regular, description-regular}
use Rattle.memory.specs.Relay.{Tables, desks_of, places_of, open_at, own_of, stored_shares, put_back}
use Rattle.memory.specs.Relay.{stranger, lacking, ordered, Done, done, settled, received_among, sender, received_at, shut_out}
use Rattle.memory.proofs.Back.{put-still, put_same}
use Rattle.live.specs.Times.{next_of, Timing, NoTime, Timed, Endless, untold}

-- ---- 1 and 2
-- what holds of the answers of both, and of what stands below them where neither shuts a call out
pub each-gate : {A : Type 0} (P : Bool → A → Type 0) (one two : Bool) {a b c : A} → P true a → P true b → P false c
    → P (one or two) (one ⇒ a ⁏ two ⇒ b ⁏ c)
unfolding ◌⇒◌⁏◌
each-gate P true two p q r = p
each-gate P false true p q r = q
each-gate P false false p q r = r

not-18 : {E : Type 0} {used : ℕ} {next : Time} {a : After} → Regular used next a → Timing next E a
not-18 r = record { hands = r.hands; if-18 = λ e. absurd (omega (arith, r.low)) }

taken-timing : (h : Shares) (s : Own) (desk : ℕ) (t : Time) (used : ℕ) (rest : List ℕ) (x : Unit) → ByReader x
    → Timed x t (taken h s desk t used rest x)
taken-timing h s desk t used rest End k = record { hands = refl; if-18 = λ e. absurd (omega arith) }
taken-timing h s desk t used rest (Skipped y) k = record { hands = refl; if-18 = λ e. absurd (omega arith) }
taken-timing h s desk t used rest (Refused r) k = record {
  hands = refl;
  if-18 = λ e. absurd (other-number r 18 k (λ e. omega arith) (λ e. omega arith) (λ e. omega arith) e);
}
taken-timing h s desk t used rest (Whole w) k =
    at-times (Timed (Whole w)) s used _ (λ time. not-18 (whole-regular s time used _ w (data_of rest (Whole w))))
    (record { hands = refl; if-18 = λ e. (refl, refl) }) t
taken-timing h s desk t used rest (Part x) k =
    at-times (Timed (Part x)) s used _ (λ time. not-18 (joining-regular h s time used _ _ x (data_of rest (Part x))))
    (record { hands = refl; if-18 = λ e. (refl, refl) }) t
taken-timing h s desk t used rest (Description w) k = not-18 (description-regular s t used w (data_of rest (Description w)))

received-timing : (h : Shares) (s : Own) (desk : ℕ) (t : Time) (rest : List ℕ)
    → Timed (read_of rest).unit t (received h s desk t rest)
unfolding received
received-timing h s desk t rest = taken-timing h s desk t (read_of rest).used rest (read_of rest).unit (read-by-reader rest)

-- ---- a call hands on the time that it was handed where 1 or 2 shuts it out, and else what the unit makes of it, whatever the outcome
pub next-is : (s : Tables) (who : Sender) (rest out : List ℕ)
    → (received_at s who rest out).answer.next ≡ (shut_out s who.desk out ⇒ who.time ⁏ next_of who.time (read_of rest).unit)
unfolding received_among ordered
next-is s who rest out =
    each-gate (λ b (a : After). a.answer.next ≡ (b ⇒ who.time ⁏ next_of who.time (read_of rest).unit)) _ _
    (yes true _ refl refl) (yes true _ refl refl) (no false _ refl (received-timing _ _ who.desk who.time rest).hands)

unit-keeps : (x : Unit) → next_of None x ≡ None
unit-keeps End = refl
unit-keeps (Skipped y) = refl
unit-keeps (Refused r) = refl
unit-keeps (Whole w) = refl
unit-keeps (Part x) = refl
unit-keeps (Description w) = refl

-- at an unknown time every answer hands it back
pub stays-unknown : (s : Tables) (desk : ℕ) (rest out : List ℕ) → (received_at s (sender desk None) rest out).answer.next ≡ None
stays-unknown s desk rest out =
    next-is s (sender desk None) rest out ∙ each (λ (t : Time). t ≡ None) _ _ _ (λ e. refl) (λ e. unit-keeps (read_of rest).unit)

pub not-unknown : {A : Type 0} {time : ℕ} → Some time ≡ None → A
not-unknown e = let k : ◌≡◌ {A = ℕ} 0 1 = ap (λ t. by_time t (λ time. 0) 1) e in absurd (omega arith)

later-unknown : (time SDUR : ℕ) → Exactly (later time SDUR ≡ None) (SDUR ≡ 0)
unfolding later
later-unknown time SDUR = (
  each (λ (t : Time). t ≡ None → SDUR ≡ 0) _ _ _ (λ z e. eq_of _ _ z) (λ z e. not-unknown e),
  λ z. sym (yes _ _ (eq _ _ z) refl),
)

unit-unknown : (time : ℕ) (x : Unit) → Exactly (next_of (Some time) x ≡ None) (Endless x)
unfolding later_part
unit-unknown time (Whole w) = later-unknown time w.sdur
unit-unknown time (Part x) = (
  each (λ (t : Time). t ≡ None → Endless (Part x)) _ _ _ (λ l e. (eq_of _ _ l, (later-unknown time x.sdur).0 e))
      (λ l e. not-unknown e),
  λ z. sym (yes _ _ (eq _ _ z.0) (sym ((later-unknown time x.sdur).1 z.1))),
)
unit-unknown time End = (not-unknown, λ z. absurd z)
unit-unknown time (Skipped y) = (not-unknown, λ z. absurd z)
unit-unknown time (Refused r) = (not-unknown, λ z. absurd z)
unit-unknown time (Description w) = (not-unknown, λ z. absurd z)

pub makes-unknown : (s : Tables) (desk time : ℕ) (rest out : List ℕ)
    → Exactly ((received_at s (sender desk (Some time)) rest out).answer.next ≡ None)
    ((shut_out s desk out ≡ false) × Endless (read_of rest).unit)
makes-unknown s desk time rest out =
    let u = unit-unknown time (read_of rest).unit in
    let k = next-is s (sender desk (Some time)) rest out in (
      λ e.
          each (λ (t : Time). t ≡ None → (shut_out s desk out ≡ false) × Endless (read_of rest).unit) _ _ _ (λ a q. not-unknown q)
          (λ a q. (a, u.0 q)) (sym k ∙ e),
      λ w. k ∙ sym (no _ _ w.0 (sym (u.1 w.1))),
    )

module _ (s : Tables) (desk : ℕ) (rest out : List ℕ) where
  abbrev n : ℕ
  n = desks_of s.marks

  abbrev its : Time → Own
  its t = own_of n s desk t out

  -- x, where 1 and 2 let it in
  abbrev unit_taken : Time → Unit → After
  unit_taken t x = taken (stored_shares n desk s.marks) (its t) desk t (read_of rest).used rest x

  -- ---- a text unit at an unknown time is refused by 1, 2 or 18, and tables and output stay as they stood
  text-untimed : (x : Unit) → is_text x ≡ true → unit_taken None x ≡ refuse (its None) (read_of rest).used None R.Untimed
  text-untimed (Whole w) k = refl
  text-untimed (Part x) k = refl
  text-untimed End k = absurd (true≢false (sym k))
  text-untimed (Skipped y) k = absurd (true≢false (sym k))
  text-untimed (Refused r) k = absurd (true≢false (sym k))
  text-untimed (Description w) k = absurd (true≢false (sym k))

  -- its answer, by whether 1 and 2 refuse it
  abbrev pub text_answer : (one two : Bool) → Answer
  text_answer one two =
      one ⇒ says 0 None (O.Refused R.Desk)
      ⁏ two ⇒ says 0 None (O.Refused R.Output)
      ⁏ says (read_of rest).used None (O.Refused R.Untimed)

  pub text-refused : is_text (read_of rest).unit ≡ true
      → received_at s (sender desk None) rest out ≡ done s out (text_answer (stranger n desk or lacking n s) (length out <? sample_most))
  unfolding received_among ordered received ◌⇒◌⁏◌
  text-refused k = go (stranger n desk or lacking n s) (length out <? sample_most)
    where
      same : (a : Answer) → done (put_back n s desk None (its None)) out a ≡ done s out a
      same a = ap (λ (r : Tables). done r out a) (put_same n s desk None out)

      go : (one two : Bool) → settled n s desk None
          (one ⇒ refuse (its None) 0 None R.Desk
          ⁏ two ⇒ refuse (its None) 0 None R.Output
          ⁏ unit_taken None (read_of rest).unit)
          ≡ done s out (text_answer one two)
      go true two = same (says 0 None (O.Refused R.Desk))
      go false true = same (says 0 None (O.Refused R.Output))
      go false false = ap (settled n s desk None) (text-untimed (read_of rest).unit k) ∙ same _

  -- ---- all else at an unknown time is answered, and leaves what it leaves, as at any known one: end, 1, 2, 3, 4, 17, skipped and TYPE 5
  -- o with the desk's sample as it stood
  abbrev as_it_stood : Time → Own → Own
  as_it_stood t o = own (open_at desk t (places_of n s)) o.row o.marks o.store o.out

  module _ (time : ℕ) where
    abbrev pub AsEver : Type 0
    AsEver = received_at s (sender desk None) rest out ≡ untold (received_at s (sender desk (Some time)) rest out)

    -- a is what a call leaves and answers at each time
    abbrev Timeless : (Time → After) → Type 0
    Timeless a = settled n s desk None (a None) ≡ untold (settled n s desk (Some time) (a (Some time)))

    timeless : (o : Own) (used : ℕ) (x : Outcome) → Timeless (λ t. stay (as_it_stood t o) used t x)
    timeless o used x =
        let d : Tables → Done = (λ r. done r o.out (says used None x)) in
        ap d (put-still n s desk None (as_it_stood None o) refl)
        ∙ sym (ap d (put-still n s desk (Some time) (as_it_stood (Some time) o) refl))

    unit-timeless : (x : Unit) → is_text x ≡ false → Timeless (λ t. unit_taken t x)
    unfolding description_taken
    unit-timeless End k = timeless (its None) _ O.End
    unit-timeless (Skipped y) k = timeless (its None) _ (O.Skipped y)
    unit-timeless (Refused r) k = timeless (its None) _ (O.Refused r)
    unit-timeless (Whole w) k = absurd (true≢false k)
    unit-timeless (Part x) k = absurd (true≢false k)
    unit-timeless (Description w) k =
        let a = unit_taken None (Description w) in
        timeless a.own a.answer.used a.answer.outcome

    unless-text : (shut_out s desk out ≡ false → is_text (read_of rest).unit ≡ false) → AsEver
    unfolding received_among ordered received ◌⇒◌⁏◌
    unless-text = go (stranger n desk or lacking n s) (length out <? sample_most)
      where
        go : (one two : Bool) → ((one or two) ≡ false → is_text (read_of rest).unit ≡ false)
            → Timeless (λ t.
            one ⇒ refuse (its t) 0 t R.Desk
            ⁏ two ⇒ refuse (its t) 0 t R.Output
            ⁏ unit_taken t (read_of rest).unit)
        go true two k = timeless (its None) 0 (O.Refused R.Desk)
        go false true k = timeless (its None) 0 (O.Refused R.Output)
        go false false k = unit-timeless (read_of rest).unit (k refl)

    pub as-ever : is_text (read_of rest).unit ≡ false → AsEver
    as-ever k = unless-text (λ a. k)

    pub shut-as-ever : shut_out s desk out ≡ true → AsEver
    shut-as-ever k = unless-text (λ a. absurd (true≢false (sym k ∙ a)))

-- ---- 18, exactly
module _ (s : Tables) (who : Sender) (rest out : List ℕ) where
  pub untimed : shut_out s who.desk out ≡ false → who.time ≡ None → is_text (read_of rest).unit ≡ true
      → received_at s who rest out ≡ done s out (says (read_of rest).used None (O.Refused R.Untimed))
  untimed a t k =
      let b = or-none _ _ a in
      ap (λ u. received_among (desks_of s.marks) s who.desk u rest out) t ∙ text-refused s who.desk rest out k
      ∙ ap (done s out) (sym (no _ _ b.0 (no _ _ b.1 refl)))

  pub eighteen : Exactly ((received_at s who rest out).answer.outcome ≡ O.Refused R.Untimed)
      ((shut_out s who.desk out ≡ false) × ((who.time ≡ None) × (is_text (read_of rest).unit ≡ true)))
  unfolding received_among ordered
  eighteen = (
    each-gate (λ b (a : After). a.answer.outcome ≡ O.Refused R.Untimed → (b ≡ false) × NoTime who.time (read_of rest).unit) _ _
        (λ e. absurd (omega (arith, ap refusal_number e))) (λ e. absurd (omega (arith, ap refusal_number e)))
        (λ e. (refl, (received-timing _ _ who.desk who.time rest).if-18 (ap refusal_number e))),
    λ w. ap (λ (d : Done). d.answer.outcome) (untimed w.0 w.1.0 w.1.1),
  )
