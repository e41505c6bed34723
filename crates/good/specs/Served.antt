-- Whom the shares let through is answered neither 8 nor 9, and a desk with fewer than two open samples always is: by the numbers that are
-- stored whatever the tables are, and by what a walk finds in good ones. That the place is there in good tables, `receive-stands` says.
-- Assumes nothing.
use Rattle.std.specs.Prelude.{ℕ, ◌<◌, ◌≡◌, refl, Bool, true, false, not, ◌≢◌, List, length, Some, None}
use Rattle.std.proofs.Common.{arith, sym, ap, ◌∙◌, true≢false, inl, ⊎_elim}
use Rattle.laws.specs.Rows.{◌or◌, ◌<?◌, each, no, ge, ne, ge-of, or-none}
use Rattle.laws.specs.Table.{count}
use Rattle.paper.specs.Limits.{sample_most, own_places}
use Rattle.paper.specs.Words.{number_of, kind_of}
use Rattle.paper.specs.declared.Refusal.{Refusal}
use Rattle.paper.specs.declared.Refusal.TheVariants as R
use Rattle.paper.specs.declared.Sender.{Sender}
use Rattle.paper.specs.Time.{Time}
use Rattle.paper.specs.declared.Outcome.{Outcome}
use Rattle.paper.specs.declared.Outcome.TheVariants as O
use Rattle.unit.specs.declared.Whole as W
use Rattle.unit.specs.declared.Part as P
use Rattle.unit.specs.declared.Unit.{Unit}
use Rattle.unit.specs.declared.Unit.TheVariants.{End, Skipped, Refused, Whole, Part, Description}
use Rattle.unit.specs.Layout.{read_of, data_of}
use Rattle.unit.specs.Reads.{ByReader}
use Rattle.unit.proofs.Readings.{other-number, read-by-reader}
use Rattle.sample.specs.declared.Place.{Place}
use Rattle.style.specs.Store.{noted}
use Rattle.style.specs.Store as S
use Rattle.desk.specs.declared.Shares.{Shares}
use Rattle.desk.specs.Desk.{Own, After, whole_taken, six, used_up, completed, joining, description_taken, taken, received}
use Rattle.desk.specs.Effects.{asks_part, asks}
use Rattle.desk.proofs.Effects.{at-times}
use Rattle.memory.specs.Table.{mine}
use Rattle.memory.specs.Relay.{Tables, desks_of, places_of, own_of, opens_of, stored_shares, stranger, lacking, ordered}
use Rattle.memory.specs.Relay.{received_among, received_at}
use Rattle.good.specs.Fair.{Passed}
use Rattle.good.specs.Good.{Good, below}

-- neither 8 nor 9
abbrev pub Serves : Outcome → Type 0
Serves x = (r : Refusal) → x ≡ O.Refused r → (number_of r ≢ 8) × (number_of r ≢ 9)

other : (r : Refusal) → (number_of r ≢ 8) × (number_of r ≢ 9) → Serves (O.Refused r)
other r k r' e = let q : number_of r ≡ number_of r' = cc in rw (← q) k

no-refusal : (x : Outcome) → kind_of x < 7 → Serves x
no-refusal x k r e = absurd (omega (arith, ap kind_of e))

abbrev Served : After → Type 0
Served a = Serves a.answer.outcome

-- what the shares let through is neither refused 8 nor 9; an open sample is not asked
not-six : (p : Place) (h : Shares) → (p.used ≡ false → Passed h) → six p h ≡ false
unfolding six
not-six p h k = each (λ (b : Bool). b ≡ false) _ _ _ (λ u. refl) (λ u. ge _ _ (omega (arith, (k u).below)))

not-used-up : (p : Place) (h : Shares) → (p.used ≡ false → Passed h) → used_up p h ≡ false
unfolding used_up
not-used-up p h k =
    each (λ (b : Bool). b ≡ false) _ _ _ (λ u. refl)
    (λ u. each (λ (b : Bool). b ≡ false) _ _ _ (λ l. refl)
    (λ l. ⊎_elim (λ m. absurd (omega (arith, ge-of _ _ l))) (λ m. ne _ _ m) (k u).share))

completed-served : (s : Own) (time used : ℕ) (next : Time) (q : Place) → Served (completed s time used next q)
unfolding completed
completed-served s time used next q =
    each Served _ _ _ (λ e. no-refusal _ (omega arith))
    (λ e. each Served _ _ _ (λ e. no-refusal _ (omega arith)) (λ e. other R.Spoiled (omega arith)))

whole-served : (s : Own) (time used : ℕ) (next : Time) (w : W.Whole) (d : List ℕ) → Served (whole_taken s time used next w d)
unfolding whole_taken
whole-served s time used next w d =
    each Served _ _ _ (λ e. other R.Late (omega arith))
    (λ e. each Served _ _ _ (λ e. other R.Conflict (omega arith))
    (λ e. each Served _ _ _ (λ e. other R.Size (omega arith)) (λ e. no-refusal _ (omega arith))))

joining-served : (h : Shares) (s : Own) (time used : ℕ) (next : Time) (q : Place) (x : P.Part) (d : List ℕ)
    → (asks_part s time q x d ≡ true → Passed h) → Served (joining h s time used next q x d)
unfolding asks_part joining
joining-served h s time used next q x d k =
    each Served _ _ _ (λ e. other R.Late (omega arith))
    (λ f₁. each Served _ _ _ (λ e. no-refusal O.Repeat (omega arith))
    (λ f₂. each Served _ _ _ (λ e. other R.Conflict (omega arith))
    (λ f₃. each Served _ _ _ (λ e. other R.Size (omega arith))
    (λ f₄.
    let p : s.place.used ≡ false → Passed h =
    (λ u. k (sym (no _ _ f₁ (no _ _ f₂ (no _ _ f₃ (no _ _ f₄ (sym (ap not u)))))))) in
    each Served _ _ _ (λ e. absurd (true≢false (sym e ∙ not-six s.place h p)))
    (λ e. each Served _ _ _ (λ e. absurd (true≢false (sym e ∙ not-used-up s.place h p))) (λ e. completed-served s time used next _))))))

taken-served : (h : Shares) (s : Own) (desk : ℕ) (t : Time) (used : ℕ) (rest : List ℕ) (x : Unit)
    → (asks s desk t rest x ≡ true → Passed h) → ByReader x → Served (taken h s desk t used rest x)
unfolding description_taken noted
taken-served h s desk t used rest End k w = no-refusal O.End (omega arith)
taken-served h s desk t used rest (Skipped y) k w = no-refusal (O.Skipped y) (omega arith)
taken-served h s desk t used rest (Refused r) k w =
    other r (
      other-number r 8 w (λ e. omega arith) (λ e. omega arith) (λ e. omega arith),
      other-number r 9 w (λ e. omega arith) (λ e. omega arith) (λ e. omega arith),
    )
taken-served h s desk t used rest (Whole x) k w =
    at-times (λ u. Served) s used _ (λ time. whole-served s time used _ x (data_of rest (Whole x))) (other R.Untimed (omega arith)) t
taken-served h s desk (Some time) used rest (Part x) k w = joining-served h s time used _ _ x (data_of rest (Part x)) k
taken-served h s desk None used rest (Part x) k w = other R.Untimed (omega arith)
taken-served h s desk t used rest (Description x) k w =
    each N _ _ _ (λ e. other R.Fields (omega arith))
    (λ e. each N _ _ _ (λ e. other R.Size (omega arith))
    (λ e. each N _ _ _ (λ e. no-refusal O.Repeat (omega arith))
    (λ e. each N _ _ _ (λ e. other R.Conflict (omega arith)) (λ e. no-refusal O.Described (omega arith)))))
  where
    N : S.After → Type 0
    N a = Serves a.answer.outcome

-- a call that does not reach the test of the shares, or that they let through, is answered neither 8 nor 9
pub let_through : (s : Tables) (who : Sender) (rest out : List ℕ) → let n = desks_of s.marks in
    ((stranger n who.desk or lacking n s) ≡ false → (length out <? sample_most) ≡ false
    → asks (own_of n s who.desk who.time out) who.desk who.time rest (read_of rest).unit ≡ true
    → Passed (stored_shares n who.desk s.marks))
    → Serves (received_at s who rest out).answer.outcome
unfolding received_among ordered received
let_through s who rest out k =
    let n = desks_of s.marks in
    each Served _ _ _ (λ e. other R.Desk (omega arith))
    (λ a. each Served _ _ _ (λ e. other R.Output (omega arith))
    (λ b.
    taken-served (stored_shares n who.desk s.marks) (own_of n s who.desk who.time out) who.desk who.time
    (read_of rest).used rest (read_of rest).unit (k a b) (read-by-reader rest)))

pub served : (s : Tables) (who : Sender) (rest out : List ℕ) → opens_of who.desk s.marks < own_places
    → Serves (received_at s who rest out).answer.outcome
served s who rest out k = let_through s who rest out (λ a b c. record { below = omega arith; share = inl k })

-- in good tables, where a walk finds fewer than two. A desk that is not below n is refused by 1
pub served-walked : (n : ℕ) (s : Tables) → Good n s → (who : Sender) (rest out : List ℕ)
    → count (mine who.desk) (places_of n s) < own_places → Serves (received_at s who rest out).answer.outcome
served-walked n s g who rest out k =
    let_through s who rest out
    (λ a b c.
    let e = g.stored.opens who.desk (omega (arith, below _ _ (or-none _ _ a).0, g.head, g.to)) in
    record { below = omega arith; share = inl (omega arith) })
