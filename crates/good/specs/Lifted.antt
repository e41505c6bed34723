-- What every call keeps to, of any tables: a refusal leaves tables and output as they stood, except 10, which frees the place and marks
-- the time; 17, exactly; progress; and that tables whose head does not hold 1 to 8 refuse every call. Assumes nothing.
use Rattle.desk.specs.GivenUp.{Freed}
use Rattle.std.specs.Prelude.{ℕ, zero, suc, ◌+◌, ◌≤◌, ◌<◌, ◌≡◌, refl, Bool, false, ◌⊎◌, length, Some, Err}
use Rattle.std.proofs.Common.{zero-lt-suc, arith, ◌∙◌, inl, inr}
use Rattle.std.proofs.Math.Path.{sym, ap, ap₂}
use Rattle.std.proofs.Math.Bool.{true}
use mathlib.Core.List.{List, []}
use Rattle.laws.specs.Exactly.{Exactly}
use Rattle.laws.specs.Rows.{◌or◌, each, yes, no, eq, or-none}
use Rattle.octets.specs.Be.{u16_at}
use Rattle.paper.specs.Words.{number_of}
use Rattle.paper.specs.declared.Refusal.{Refusal}
use Rattle.paper.specs.declared.Refusal.TheVariants as R
use Rattle.paper.specs.declared.Outcome.TheVariants as O
use Rattle.paper.specs.declared.Answer.{Answer}
use Rattle.paper.specs.declared.Name.{Name}
use Rattle.paper.specs.declared.Sender.{Sender}
use Rattle.paper.specs.Time.{Time}
use Rattle.unit.specs.declared.Unit.TheVariants as U
use Rattle.unit.specs.declared.Reading.{Reading}
use Rattle.unit.specs.Layout.{reading, read_of}
use Rattle.unit.proofs.Readings.{seventeen-uses}
use Rattle.sample.specs.Place.{closed}
use Rattle.desk.specs.declared.Shares.{Shares}
use Rattle.desk.specs.Desk.{Own, After, Given, says, finish, taken, received, given_up}
use Rattle.desk.specs.Effects.{Effect, refusal_number}
use Rattle.desk.proofs.Effects.{stays, effects, reader-refuses, seventeen-read, progress}
use Rattle.memory.specs.Relay.{Tables, desks_of, own_of, stored_shares, put_back, improper, stranger, ordered}
use Rattle.memory.specs.Relay.{Done, done, settled, shut_out}
use Rattle.memory.specs.Relay.{received_among, received_at, yielded, released, returned, given_up_among, given_up_at, looked_up_among, looked_up}
use Rattle.memory.proofs.Back.{put_same}

-- ---- the effect of a refusal
ordered-effect : (one : Bool) (h : Shares) (s : Own) (desk : ℕ) (t : Time) (rest : List ℕ) → Effect s t (ordered one h s desk t rest)
unfolding ordered
ordered-effect one h s desk t rest =
    each (Effect s t) _ _ _ (λ e. stays s t 0 t R.Desk (λ k. omega arith))
    (λ e. each (Effect s t) _ _ _ (λ e. stays s t 0 t R.Output (λ k. omega arith)) (λ e. effects h s desk t rest))

-- by 10 the place is freed and the time, which is known, is marked
pub record Frees (s : Tables) (who : Sender) (rest out : List ℕ) : Type 0 where
  pub time : ℕ
  pub known : who.time ≡ Some time
  pub tables : let n = desks_of s.marks in
      (received_at s who rest out).tables
      ≡ put_back n s who.desk who.time (finish (own_of n s who.desk who.time out) time closed out)
  pub output : (received_at s who rest out).out ≡ out

module _ (s : Tables) (who : Sender) (rest out : List ℕ) (r : Refusal) (e : (received_at s who rest out).answer.outcome ≡ O.Refused r) where
  abbrev its : Own
  its = own_of (desks_of s.marks) s who.desk who.time out

  pub refused-stays : (number_of r ≡ 10 → ⊥) → ((received_at s who rest out).tables ≡ s) × ((received_at s who rest out).out ≡ out)
  unfolding received_among
  refused-stays t =
      let n = desks_of s.marks in
      let x = (ordered-effect _ (stored_shares n who.desk s.marks) its who.desk who.time rest r e).1 t in
      (ap (put_back n s who.desk who.time) x ∙ put_same n s who.desk who.time out, ap (λ (o : Own). o.out) x)

  pub refused-frees : number_of r ≡ 10 → Frees s who rest out
  unfolding received_among
  refused-frees t =
      let n = desks_of s.marks in
      let x = (ordered-effect _ (stored_shares n who.desk s.marks) its who.desk who.time rest r e).0 t in
      record {
        time = x.time;
        known = x.known;
        tables = ap (put_back n s who.desk who.time) x.is;
        output = ap (λ (o : Own). o.out) x.is;
      }

-- ---- refusal 17: a call that 1 and 2 let through is answered 17 exactly if the reader refuses its unit by 17. The unit's bytes are used,
-- no time is added, and tables and output stay
module _ (s : Tables) (who : Sender) (rest out : List ℕ) where
  abbrev n : ℕ
  n = desks_of s.marks

  pub seventeen-is : shut_out s who.desk out ≡ false → (read_of rest).unit ≡ U.Refused R.IllFormed
      → received_at s who rest out ≡ done s out (says (1 + u16_at rest 1) who.time (O.Refused R.IllFormed))
  unfolding received_among ordered
  seventeen-is l e =
      let k = or-none _ _ l in
      let o = own_of n s who.desk who.time out in
      let h = stored_shares n who.desk s.marks in
      ap (settled n s who.desk who.time)
      (sym (no _ _ k.0 (no _ _ k.1 refl)) ∙ reader-refuses h o who.desk who.time rest R.IllFormed e)
      ∙ ap₂ (λ (t : Tables) (u : ℕ). done t out (says u who.time (O.Refused R.IllFormed)))
      (put_same n s who.desk who.time out) (seventeen-uses rest e)

  pub seventeen : Exactly ((received_at s who rest out).answer.outcome ≡ O.Refused R.IllFormed)
      ((shut_out s who.desk out ≡ false) × ((read_of rest).unit ≡ U.Refused R.IllFormed))
  unfolding received_among ordered
  seventeen = (
    each S _ _ _ (λ a e. absurd (omega (arith, ap refusal_number e)))
        (λ a. each S _ _ _ (λ b e. absurd (omega (arith, ap refusal_number e)))
        (λ b e. (sym (no _ true a (sym b)), seventeen-read _ _ who.desk who.time rest e))),
    λ w. ap (λ (d : Done). d.answer.outcome) (seventeen-is w.0 w.1),
  )
    where
      S : After → Type 0
      S x = x.answer.outcome ≡ O.Refused R.IllFormed → (shut_out s who.desk out ≡ false) × ((read_of rest).unit ≡ U.Refused R.IllFormed)

-- ---- give-up: refused, all stays; else the place is freed and the time marked
abbrev Gives : Own → (time : ℕ) → Given → Type 0
Gives s time g = ((r : Refusal) → g.answer ≡ Err r → g.own ≡ s) × (g.answer ≡ Freed → g.own ≡ finish s time closed s.out)

yielded-gives : (one : Bool) (s : Own) (time : ℕ) → Gives s time (yielded one s time)
unfolding yielded given_up
yielded-gives one s time =
    each (Gives s time) _ _ _ (λ e. (λ r q. refl, λ q. clash q))
    (λ e. each (Gives s time) _ _ _ (λ u. (λ r q. clash (sym q), λ q. refl)) (λ u. (λ r q. refl, λ q. clash q)))
  where
    clash : {A : Type 0} {r : Refusal} → Err r ≡ Freed → A
    clash q = let k : ◌≡◌ {A = ℕ} 0 1 = cc in absurd (omega arith)

module _ (s : Tables) (who : Name) where
  abbrev held : Own
  held = own_of (desks_of s.marks) s who.desk (Some who.time) []

  pub give-up-stays : (r : Refusal) → (given_up_at s who).answer ≡ Err r → (given_up_at s who).tables ≡ s
  unfolding given_up_among
  give-up-stays r e =
      let n = desks_of s.marks in
      ap (put_back n s who.desk (Some who.time)) ((yielded-gives _ held who.time).0 r e)
      ∙ put_same n s who.desk (Some who.time) []

  pub give-up-frees : (given_up_at s who).answer ≡ Freed
      → (given_up_at s who).tables ≡ put_back (desks_of s.marks) s who.desk (Some who.time) (finish held who.time closed [])
  unfolding given_up_among
  give-up-frees e = ap (put_back (desks_of s.marks) s who.desk (Some who.time)) ((yielded-gives _ held who.time).1 e)

-- ---- progress: a call uses at most the rest, and none of it only at the end and for 1 and 2
pub record Progress (rest : List ℕ) (a : Answer) : Type 0 where
  pub most : a.used ≤ length rest
  pub none : a.used ≡ 0 → ((length rest ≡ 0) × (a.outcome ≡ O.End)) ⊎ ((a.outcome ≡ O.Refused R.Desk) ⊎ (a.outcome ≡ O.Refused R.Output))

at-end : (h : Shares) (s : Own) (desk : ℕ) (t : Time) (rest : List ℕ) → length rest ≡ 0 → (received h s desk t rest).answer.outcome ≡ O.End
unfolding received read_of
at-end h s desk t rest z =
    let e : read_of rest ≡ reading 0 U.End = sym (yes _ _ (eq _ _ z) refl) in
    ap (λ (r : Reading). (taken h s desk t r.used rest r.unit).answer.outcome) e

ordered-progress : (one : Bool) (h : Shares) (s : Own) (desk : ℕ) (t : Time) (rest : List ℕ)
    → Progress rest (ordered one h s desk t rest).answer
unfolding ordered
ordered-progress one h s desk t rest =
    each P _ _ _ (λ e. record { most = omega arith; none = λ z. inr (inl refl) })
    (λ e. each P _ _ _ (λ e. record { most = omega arith; none = λ z. inr (inr refl) })
    (λ e.
    let p = progress h s desk t rest in
    record {
      most = p.0;
      none = λ z. let l = empty (length rest) _ p.1 z in inl (l, at-end h s desk t rest l);
    }))
  where
    empty : (k used : ℕ) → (0 < k → 0 < used) → used ≡ 0 → k ≡ 0
    empty zero used p z = refl
    empty (suc k) used p z = absurd (omega (arith, p (zero-lt-suc k)))

    P : After → Type 0
    P a = Progress rest a.answer

pub receive-progress : (s : Tables) (who : Sender) (rest out : List ℕ) → Progress rest (received_at s who rest out).answer
unfolding received_among
receive-progress s who rest out =
    let n = desks_of s.marks in
    ordered-progress _ (stored_shares n who.desk s.marks) (own_of n s who.desk who.time out) who.desk who.time rest

-- ---- no relay: where the head of the marks does not hold 1 to 8, every call of every desk is refusal 1 and leaves all as it stood
module _ (s : Tables) (none : improper (desks_of s.marks) ≡ true) where
  estranged : (desk : ℕ) (more : Bool) → (stranger (desks_of s.marks) desk or more) ≡ true
  unfolding stranger
  estranged desk more = sym (yes _ _ (sym (yes _ _ none refl)) refl)

  pub no-relay-receive : (who : Sender) (rest out : List ℕ)
      → received_at s who rest out ≡ done s out (says 0 who.time (O.Refused R.Desk))
  unfolding received_among ordered
  no-relay-receive who rest out =
      let n = desks_of s.marks in
      ap (settled n s who.desk who.time) (sym (yes _ _ (estranged who.desk _) refl))
      ∙ ap (λ (t : Tables). done t out (says 0 who.time (O.Refused R.Desk))) (put_same n s who.desk who.time out)

  pub no-relay-give-up : (who : Name) → given_up_at s who ≡ released s (Err R.Desk)
  unfolding given_up_among yielded
  no-relay-give-up who =
      let n = desks_of s.marks in
      ap (returned n s who.desk who.time) (sym (yes _ _ (estranged who.desk _) refl))
      ∙ ap (λ (t : Tables). released t (Err R.Desk)) (put_same n s who.desk (Some who.time) [])

  pub no-relay-lookup : (desk index : ℕ) (book : List ℕ) → looked_up s.marks s.stores desk index book ≡ []
  unfolding looked_up_among
  no-relay-lookup desk index book = sym (yes _ _ (estranged desk _) refl)
