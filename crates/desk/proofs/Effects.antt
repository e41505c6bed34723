-- What every call of a desk keeps to: the effect of a refusal, progress, the missing count, and what the common use can change.
-- Assumes nothing.
use Rattle.std.specs.Prelude.{ℕ, ◌≤◌, ◌<◌, ◌≡◌, refl, true, not, List, length, Some, None}
use Rattle.std.proofs.Common.{arith, sym, ap, ◌∙◌}
use Rattle.std.proofs.lemmas.List.Edits.{sets}
use Rattle.std.proofs.lemmas.List.{set-get_or}
use Rattle.laws.specs.Rows.{each, yes, no, lt, ge-of, below}
use Rattle.paper.specs.Limits.{own_places}
use Rattle.paper.specs.Words.{number_of, kind_of}
use Rattle.paper.specs.declared.Refusal.{Refusal}
use Rattle.paper.specs.declared.Refusal.TheVariants as R
use Rattle.paper.specs.Time.{Time}
use Rattle.paper.specs.declared.Outcome.{Outcome}
use Rattle.paper.specs.declared.Outcome.TheVariants as O
use Rattle.unit.specs.declared.Whole as W
use Rattle.unit.specs.declared.Part as P
use Rattle.unit.specs.declared.Description as D
use Rattle.unit.specs.declared.Unit.{Unit}
use Rattle.unit.specs.declared.Unit.TheVariants.{End, Skipped, Refused, Whole, Part, Description}
use Rattle.unit.specs.Layout.{read_of, data_of}
use Rattle.unit.specs.Reads.{refusal_of, ByReader}
use Rattle.unit.proofs.Readings.{reads-uses, other-number, read-by-reader, by_number}
use Rattle.sample.specs.declared.Place.{Place}
use Rattle.sample.specs.Place.{kept, missing}
use Rattle.paper.specs.declared.Facts.{Facts}
use Rattle.style.specs.Store.{noted}
use Rattle.style.specs.Store as S
use Rattle.desk.specs.declared.Shares.{Shares}
use Rattle.desk.specs.Desk.{Own, After, says, refuse, newest_of, facts, whole_taken, six}
use Rattle.desk.specs.Desk.{used_up, completed, joining, description_taken, timed, taken, received}
use Rattle.desk.specs.Effects.{Effect, described_by, refusal_number, Regular, Other, Uses, asks_part, asks, Handed}

refused-is : (r r' : Refusal) → O.Refused r ≡ O.Refused r' → number_of r ≡ number_of r'
refused-is r r' e = cc

-- a refusal that leaves all is not 10
pub stays : (s : Own) (t : Time) (used : ℕ) (next : Time) (r : Refusal) → (number_of r ≡ 10 → ⊥) → Effect s t (refuse s used next r)
stays s t used next r n r' e = (λ k. absurd (n (refused-is r r' e ∙ k)), λ k. refl)

-- and any other outcome is no refusal
no-refusal : (s o : Own) (t : Time) (used : ℕ) (next : Time) (x : Outcome) → kind_of x < 7
    → Effect s t (record { own = o; answer = record { used = used; next = next; outcome = x } })
no-refusal s o t used next x k r e = absurd (omega (arith, ap kind_of e))

whole-effect : (s : Own) (time used : ℕ) (next : Time) (w : W.Whole) (d : List ℕ) → Effect s (Some time) (whole_taken s time used next w d)
unfolding whole_taken
whole-effect s time used next w d =
    let E = Effect s (Some time) in
    each E _ _ _ (λ q. stays s _ used next R.Late (λ t. omega arith))
    (λ q. each E _ _ _ (λ q. stays s _ used next R.Conflict (λ t. omega arith))
    (λ q. each E _ _ _ (λ q. stays s _ used next R.Size (λ t. omega arith)) (λ q. no-refusal s _ _ used next _ (omega arith))))

completed-effect : (s : Own) (time used : ℕ) (next : Time) (q : Place) → Effect s (Some time) (completed s time used next q)
unfolding completed
completed-effect s time used next q =
    let E = Effect s (Some time) in
    each E _ _ _ (λ k. no-refusal s _ _ used next _ (omega arith))
    (λ k. each E _ _ _ (λ f. no-refusal s _ _ used next _ (omega arith))
    (λ f r e. (λ t. record { time = time; known = refl; is = refl }, λ t. absurd (t (sym (refused-is R.Spoiled r e))))))

joining-effect : (h : Shares) (s : Own) (time used : ℕ) (next : Time) (q : Place) (x : P.Part) (d : List ℕ)
    → Effect s (Some time) (joining h s time used next q x d)
unfolding joining
joining-effect h s time used next q x d =
    let E = Effect s (Some time) in
    each E _ _ _ (λ k. stays s _ used next R.Late (λ t. omega arith))
    (λ k. each E _ _ _ (λ k. no-refusal s s _ used next O.Repeat (omega arith))
    (λ k. each E _ _ _ (λ k. stays s _ used next R.Conflict (λ t. omega arith))
    (λ k. each E _ _ _ (λ k. stays s _ used next R.Size (λ t. omega arith))
    (λ k. each E _ _ _ (λ k. stays s _ used next R.Six (λ t. omega arith))
    (λ k. each E _ _ _ (λ k. stays s _ used next R.Common (λ t. omega arith)) (λ k. completed-effect s time used next _))))))

unmoved : (s : Own) (t : Time) (used : ℕ) (r : Refusal) → (number_of r ≡ 10 → ⊥)
    → Effect s t (described_by s t used (S.left (S.noted_as (newest_of s.marks) (O.Refused r)) s.store))
unmoved s t used r n r' e = (λ k. absurd (n (refused-is r r' e ∙ k)), λ k. rw (set-get_or s.marks 1 0))

description-effect : (s : Own) (t : Time) (used : ℕ) (w : D.Description) (d : List ℕ) → Effect s t (description_taken s t used w d)
unfolding description_taken noted
description-effect s t used w d =
    each (λ (x : S.After). Effect s t (described_by s t used x)) _ _ _ (λ q. unmoved s t used R.Fields (λ t. omega arith))
    (λ q. each (λ (x : S.After). Effect s t (described_by s t used x)) _ _ _ (λ q. unmoved s t used R.Size (λ t. omega arith))
    (λ q. each (λ (x : S.After). Effect s t (described_by s t used x)) _ _ _ (λ q. no-refusal s _ t used t O.Repeat (omega arith))
    (λ q. each (λ (x : S.After). Effect s t (described_by s t used x)) _ _ _ (λ q. unmoved s t used R.Conflict (λ t. omega arith))
    (λ q. no-refusal s _ t used t O.Described (omega arith)))))

-- the reader never answers 10
pub not-ten : (r : Refusal) → ByReader (Refused r) → number_of r ≡ 10 → ⊥
not-ten r k = other-number r 10 k (λ e. omega arith) (λ e. omega arith) (λ e. omega arith)

-- what holds at each known time, and of 18 at an unknown one, holds at every time
pub at-times : (P : Time → After → Type 0) (s : Own) (used : ℕ) (at : ℕ → After) → ((time : ℕ) → P (Some time) (at time))
    → P None (refuse s used None R.Untimed) → (t : Time) → P t (timed s t used at)
at-times P s used at known unknown (Some time) = known time
at-times P s used at known unknown None = unknown

untimed-effect : (s : Own) (used : ℕ) → Effect s None (refuse s used None R.Untimed)
untimed-effect s used = stays s None used None R.Untimed (λ t. omega arith)

taken-effect : (h : Shares) (s : Own) (desk : ℕ) (t : Time) (used : ℕ) (rest : List ℕ) (x : Unit) → ByReader x
    → Effect s t (taken h s desk t used rest x)
taken-effect h s desk t used rest End k = no-refusal s s t used t O.End (omega arith)
taken-effect h s desk t used rest (Skipped y) k = no-refusal s s t used t (O.Skipped y) (omega arith)
taken-effect h s desk t used rest (Refused r) k = stays s t used t r (not-ten r k)
taken-effect h s desk t used rest (Whole w) k =
    at-times (Effect s) s used _ (λ time. whole-effect s time used _ w (data_of rest (Whole w))) (untimed-effect s used) t
taken-effect h s desk t used rest (Part x) k =
    at-times (Effect s) s used _ (λ time. joining-effect h s time used _ _ x (data_of rest (Part x))) (untimed-effect s used) t
taken-effect h s desk t used rest (Description w) k = description-effect s t used w (data_of rest (Description w))

pub effects : (h : Shares) (s : Own) (desk : ℕ) (t : Time) (rest : List ℕ) → Effect s t (received h s desk t rest)
unfolding received
effects h s desk t rest = taken-effect h s desk t (read_of rest).used rest (read_of rest).unit (read-by-reader rest)

-- ---- what the reader refuses: its bytes are used, no time is added, and all stays; and 17 is the reader's alone
pub reader-refuses : (h : Shares) (s : Own) (desk : ℕ) (t : Time) (rest : List ℕ) (r : Refusal) → (read_of rest).unit ≡ Refused r
    → received h s desk t rest ≡ refuse s (read_of rest).used t r
unfolding received
reader-refuses h s desk t rest r e = ap (taken h s desk t (read_of rest).used rest) e

regular : (o : Own) (used : ℕ) (next : Time) (x : Outcome) → refusal_number x ≤ 10
    → Regular used next (record { own = o; answer = says used next x })
regular o used next x l = record { uses = refl; hands = refl; low = l }

pub whole-regular : (s : Own) (time used : ℕ) (next : Time) (w : W.Whole) (d : List ℕ)
    → Regular used next (whole_taken s time used next w d)
unfolding whole_taken
whole-regular s time used next w d =
    let G = Regular used next in
    each G _ _ _ (λ q. regular s used next _ (omega arith))
    (λ q. each G _ _ _ (λ q. regular s used next _ (omega arith))
    (λ q. each G _ _ _ (λ q. regular s used next _ (omega arith)) (λ q. regular _ used next _ (omega arith))))

pub joining-regular : (h : Shares) (s : Own) (time used : ℕ) (next : Time) (q : Place) (x : P.Part) (d : List ℕ)
    → Regular used next (joining h s time used next q x d)
unfolding joining completed
joining-regular h s time used next q x d =
    let G = Regular used next in
    each G _ _ _ (λ k. regular s used next _ (omega arith))
    (λ k. each G _ _ _ (λ k. regular s used next _ (omega arith))
    (λ k. each G _ _ _ (λ k. regular s used next _ (omega arith))
    (λ k. each G _ _ _ (λ k. regular s used next _ (omega arith))
    (λ k. each G _ _ _ (λ k. regular s used next _ (omega arith))
    (λ k. each G _ _ _ (λ k. regular s used next _ (omega arith))
    (λ k. each G _ _ _ (λ k. regular _ used next _ (omega arith))
    (λ k. each G _ _ _ (λ k. regular _ used next _ (omega arith)) (λ k. regular _ used next _ (omega arith)))))))))

pub description-regular : (s : Own) (t : Time) (used : ℕ) (w : D.Description) (d : List ℕ)
    → Regular used t (description_taken s t used w d)
unfolding description_taken noted
description-regular s t used w d = record {
  uses = refl;
  hands = refl;
  low =
      each N _ _ _ (λ q. omega arith)
      (λ q. each N _ _ _ (λ q. omega arith)
      (λ q. each N _ _ _ (λ q. omega arith) (λ q. each N _ _ _ (λ q. omega arith) (λ q. omega arith))));
}
  where
    N : S.After → Type 0
    N a = refusal_number a.answer.outcome ≤ 10

other : {used : ℕ} {next : Time} {a : After} → Regular used next a → Other a
other r e = omega (arith, r.low)

taken-seventeen : (h : Shares) (s : Own) (desk : ℕ) (t : Time) (used : ℕ) (rest : List ℕ) (x : Unit)
    → refusal_number (taken h s desk t used rest x).answer.outcome ≡ 17 → refusal_of x ≡ 17
taken-seventeen h s desk t used rest End e = e
taken-seventeen h s desk t used rest (Skipped y) e = e
taken-seventeen h s desk t used rest (Refused r) e = e
taken-seventeen h s desk t used rest (Whole w) e =
    absurd (at-times (λ u. Other) s used _ (λ time. other (whole-regular s time used _ w (data_of rest (Whole w)))) (λ k. omega arith) t e)
taken-seventeen h s desk t used rest (Part x) e =
    absurd (at-times (λ u. Other) s used _ (λ time. other (joining-regular h s time used _ _ x (data_of rest (Part x))))
    (λ k. omega arith) t e)
taken-seventeen h s desk t used rest (Description w) e = absurd (other (description-regular s t used w (data_of rest (Description w))) e)

pub seventeen-read : (h : Shares) (s : Own) (desk : ℕ) (t : Time) (rest : List ℕ)
    → (received h s desk t rest).answer.outcome ≡ O.Refused R.IllFormed → (read_of rest).unit ≡ Refused R.IllFormed
unfolding received
seventeen-read h s desk t rest e =
    by_number rest (taken-seventeen h s desk t (read_of rest).used rest (read_of rest).unit (ap refusal_number e))

says-used : (h : Shares) (s : Own) (desk : ℕ) (t : Time) (used : ℕ) (rest : List ℕ) (x : Unit) → Uses used (taken h s desk t used rest x)
says-used h s desk t used rest End = refl
says-used h s desk t used rest (Skipped y) = refl
says-used h s desk t used rest (Refused r) = refl
says-used h s desk t used rest (Whole w) =
    at-times (λ u. Uses used) s used _ (λ time. (whole-regular s time used _ w (data_of rest (Whole w))).uses) refl t
says-used h s desk t used rest (Part x) =
    at-times (λ u. Uses used) s used _ (λ time. (joining-regular h s time used _ _ x (data_of rest (Part x))).uses) refl t
says-used h s desk t used rest (Description w) = (description-regular s t used w (data_of rest (Description w))).uses

pub progress : (h : Shares) (s : Own) (desk : ℕ) (t : Time) (rest : List ℕ)
    → ((received h s desk t rest).answer.used ≤ length rest) × (0 < length rest → 0 < (received h s desk t rest).answer.used)
unfolding received
progress h s desk t rest =
    let u = says-used h s desk t (read_of rest).used rest (read_of rest).unit in
    let w = reads-uses rest in
    (omega (arith, w.most), λ l. omega (arith, w.some l))

same-six : (p : Place) (h h' : Shares) → h.opens ≡ h'.opens → six p h ≡ six p h'
unfolding six
same-six p h h' e = rw e

heard : (p : Place) (h h' : Shares) → h.opens ≡ h'.opens → (not p.used ≡ true → h.opens < own_places) → used_up p h ≡ used_up p h'
unfolding used_up
heard p h h' e k =
    below _ _ _ _
    (λ u.
    let l = k (ap not u) in
    sym (yes _ _ (lt _ _ l) refl) ∙ yes _ _ (lt _ _ (omega arith)) refl)

pub unheard-part : (h h' : Shares) (s : Own) (time used : ℕ) (next : Time) (q : Place) (x : P.Part) (d : List ℕ) → h.opens ≡ h'.opens
    → (asks_part s time q x d ≡ true → h.opens < own_places) → joining h s time used next q x d ≡ joining h' s time used next q x d
unfolding joining asks_part
unheard-part h h' s time used next q x d e k =
    below _ _ _ _
    (λ f₁. below _ _ _ _
    (λ f₂. below _ _ _ _
    (λ f₃. below _ _ _ _
    (λ f₄.
    let u : used_up s.place h ≡ used_up s.place h' =
    heard s.place h h' e (λ n. k (sym (no _ _ f₁ (no _ _ f₂ (no _ _ f₃ (no _ _ f₄ (sym n))))))) in
    rw (same-six s.place h h' e, u)))))

pub unheard : (h h' : Shares) (s : Own) (desk : ℕ) (t : Time) (rest : List ℕ) → h.opens ≡ h'.opens
    → (asks s desk t rest (read_of rest).unit ≡ true → h.opens < own_places) → received h s desk t rest ≡ received h' s desk t rest
unfolding received
unheard h h' s desk t rest e = go (read_of rest).unit t
  where
    go : (x : Unit) (t : Time) → (asks s desk t rest x ≡ true → h.opens < own_places)
        → taken h s desk t (read_of rest).used rest x ≡ taken h' s desk t (read_of rest).used rest x
    go End t k = refl
    go (Skipped y) t k = refl
    go (Refused r) t k = refl
    go (Whole w) t k = refl
    go (Part x) (Some time) k = unheard-part h h' s time (read_of rest).used _ _ x (data_of rest (Part x)) e k
    go (Part x) None k = refl
    go (Description w) t k = refl

-- ---- what is handed out, and what is said to be missing
pub whole-handed : (s : Own) (time used : ℕ) (next : Time) (w : W.Whole) (d : List ℕ) (f : Facts)
    → (whole_taken s time used next w d).answer.outcome ≡ O.Whole f
    → (f ≡ facts time w.u w.sidx w.sdur w.tlen w.len) × ((whole_taken s time used next w d).own.out ≡ sets s.out 0 d)
unfolding whole_taken
whole-handed s time used next w d f =
    each Handed _ _ _ (λ q e. absurd (omega (arith, ap kind_of e)))
    (λ q. each Handed _ _ _ (λ q e. absurd (omega (arith, ap kind_of e)))
    (λ q. each Handed _ _ _ (λ q e. absurd (omega (arith, ap kind_of e))) (λ q e. (cc, refl))))
  where
    Handed : After → Type 0
    Handed a = a.answer.outcome ≡ O.Whole f → (f ≡ facts time w.u w.sidx w.sdur w.tlen w.len) × (a.own.out ≡ sets s.out 0 d)

completed-handed : (s : Own) (time used : ℕ) (next : Time) (p : Place) (f : Facts)
    → (completed s time used next p).answer.outcome ≡ O.Joined f
    → Handed s time p f (completed s time used next p)
unfolding completed
completed-handed s time used next p f =
    each H _ _ _ (λ q e. absurd (omega (arith, ap kind_of e)))
    (λ k. each H _ _ _ (λ g e. record { all = ge-of _ _ k; good = g; fact = cc; out = refl }) (λ g e. absurd (omega (arith, ap kind_of e))))
  where
    H : After → Type 0
    H a = a.answer.outcome ≡ O.Joined f → Handed s time p f a

pub joined-handed : (h : Shares) (s : Own) (time used : ℕ) (next : Time) (q : Place) (x : P.Part) (d : List ℕ) (f : Facts)
    → (joining h s time used next q x d).answer.outcome ≡ O.Joined f → Handed s time (kept q x d) f (joining h s time used next q x d)
unfolding joining
joined-handed h s time used next q x d f =
    each H _ _ _ (λ k e. absurd (omega (arith, ap kind_of e)))
    (λ k. each H _ _ _ (λ k e. absurd (omega (arith, ap kind_of e)))
    (λ k. each H _ _ _ (λ k e. absurd (omega (arith, ap kind_of e)))
    (λ k. each H _ _ _ (λ k e. absurd (omega (arith, ap kind_of e)))
    (λ k. each H _ _ _ (λ k e. absurd (omega (arith, ap kind_of e)))
    (λ k. each H _ _ _ (λ k e. absurd (omega (arith, ap kind_of e))) (λ k. completed-handed s time used next (kept q x d) f))))))
  where
    H : After → Type 0
    H a = a.answer.outcome ≡ O.Joined f → Handed s time (kept q x d) f a

-- the count that is told is that of the place as it is left: TOTAL less its different parts, by `missing-is`
pub kept-told : (h : Shares) (s : Own) (time used : ℕ) (next : Time) (q : Place) (x : P.Part) (d : List ℕ) (m : ℕ)
    → (joining h s time used next q x d).answer.outcome ≡ O.Kept m → ((joining h s time used next q x d).own.place ≡ kept q x d) × (m ≡ missing (kept q x d))
unfolding joining completed
kept-told h s time used next q x d m =
    each K _ _ _ (λ k e. absurd (omega (arith, ap kind_of e)))
    (λ k. each K _ _ _ (λ k e. absurd (omega (arith, ap kind_of e)))
    (λ k. each K _ _ _ (λ k e. absurd (omega (arith, ap kind_of e)))
    (λ k. each K _ _ _ (λ k e. absurd (omega (arith, ap kind_of e)))
    (λ k. each K _ _ _ (λ k e. absurd (omega (arith, ap kind_of e)))
    (λ k. each K _ _ _ (λ k e. absurd (omega (arith, ap kind_of e)))
    (λ k. each K _ _ _ (λ k e. (refl, cc))
    (λ k. each K _ _ _ (λ k e. absurd (omega (arith, ap kind_of e))) (λ k e. absurd (omega (arith, ap kind_of e))))))))))
  where
    K : After → Type 0
    K a = a.answer.outcome ≡ O.Kept m → (a.own.place ≡ kept q x d) × (m ≡ missing (kept q x d))
