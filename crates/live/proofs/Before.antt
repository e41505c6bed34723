-- The relay as it was before a time could be unknown: SDUR 0 is added like any other. A call at a known time is answered as it answers it
-- exactly if no unknown time comes of it; and with a known start and no SDUR 0 in TYPE 1 units and last parts, so is every call over a
-- whole payload. Assumes nothing.
use Rattle.std.specs.Prelude.{ℕ, suc, ◌≡◌, refl, Bool, true, false, List, [], ◌∷◌, drop, Some}
use Rattle.std.proofs.Common.{sym, ap, subst, ◌∙◌}
use Rattle.laws.specs.Exactly.{Exactly}
use Rattle.laws.specs.Rows.{◌⇒◌⁏◌, ◌=?◌, each, below, yes, no, ne, eq_of}
use Rattle.unit.specs.declared.Part as P
use Rattle.unit.specs.declared.Unit.{Unit}
use Rattle.unit.specs.declared.Unit.TheVariants.{End, Skipped, Refused, Whole, Part, Description}
use Rattle.unit.specs.Layout.{read_of, data_of}
use Rattle.desk.specs.declared.Shares.{Shares}
use Rattle.desk.specs.Desk.{Own, After, added, later, later_part, whole_taken, sample_of, part_taken, description_taken}
use Rattle.desk.specs.Desk.{taken, received}
use Rattle.desk.proofs.Effects.{whole-regular, joining-regular}
use Rattle.memory.specs.Relay.{Tables, desks_of, ordered, Done, settled, received_among}
use Rattle.memory.specs.Relay.{sender, received_at, shut_out}
use Rattle.live.specs.Times.{Endless}
use Rattle.live.proofs.Times.{each-gate, not-unknown, makes-unknown}
use Rattle.live.specs.Before.{next_before, taken_before, received_before, Turns, over_payload, Lasting}

-- ---- it answers a known time with a known one
taken-before : (h : Shares) (s : Own) (desk time used : ℕ) (rest : List ℕ) (x : Unit)
    → let a = (taken_before h s desk (Some time) used rest x).answer in (a.used ≡ used) × (a.next ≡ Some (next_before time x))
unfolding description_taken
taken-before h s desk time used rest (Whole w) =
    let r = whole-regular s time used (Some (next_before time (Whole w))) w (data_of rest (Whole w)) in
    (r.uses, r.hands)
taken-before h s desk time used rest (Part x) =
    let r = joining-regular h s time used (Some (next_before time (Part x))) (sample_of s.place desk time x) x (data_of rest (Part x)) in
    (r.uses, r.hands)
taken-before h s desk time used rest End = (refl, refl)
taken-before h s desk time used rest (Skipped y) = (refl, refl)
taken-before h s desk time used rest (Refused r) = (refl, refl)
taken-before h s desk time used rest (Description w) = (refl, refl)

module _ (s : Tables) (desk time : ℕ) (rest out : List ℕ) where
  abbrev before : Done
  before = received_before s (sender desk (Some time)) rest out

  before-uses : before.answer.used ≡ (shut_out s desk out ⇒ 0 ⁏ (read_of rest).used)
  before-uses =
      each-gate (λ b (a : After). a.answer.used ≡ (b ⇒ 0 ⁏ (read_of rest).used)) _ _ (yes true _ refl refl) (yes true _ refl refl)
      (no false _ refl (taken-before _ _ desk time (read_of rest).used rest (read_of rest).unit).0)

  pub before-known : before.answer.next ≡ Some (shut_out s desk out ⇒ time ⁏ next_before time (read_of rest).unit)
  before-known =
      each-gate (λ b (a : After). a.answer.next ≡ Some (b ⇒ time ⁏ next_before time (read_of rest).unit)) _ _
      (ap Some (yes true _ refl refl)) (ap Some (yes true _ refl refl))
      ((taken-before _ _ desk time (read_of rest).used rest (read_of rest).unit).1 ∙ ap Some (no false _ refl refl))

-- ---- a call is answered as before exactly if it does not make the time unknown
sdur-adds : (time SDUR : ℕ) → (SDUR ≡ 0 → ⊥) → later time SDUR ≡ Some (added time SDUR)
unfolding later
sdur-adds time SDUR k = sym (no _ _ (ne _ _ k) refl)

part-adds : (time : ℕ) (x : P.Part) → ((x.this ≡ x.total) × (x.sdur ≡ 0) → ⊥) → later_part time x ≡ Some (next_before time (Part x))
unfolding later_part ◌⇒◌⁏◌
part-adds time x k = go (x.this =? x.total) refl
  where
    go : (b : Bool) → (x.this =? x.total) ≡ b → (b ⇒ later time x.sdur ⁏ Some time) ≡ Some (b ⇒ added time x.sdur ⁏ time)
    go true l = sdur-adds time x.sdur (λ z. k (eq_of _ _ l, z))
    go false l = refl

taken_as : (h : Shares) (s : Own) (desk time used : ℕ) (rest : List ℕ) (x : Unit) → (Endless x → ⊥)
    → taken h s desk (Some time) used rest x ≡ taken_before h s desk (Some time) used rest x
taken_as h s desk time used rest (Whole w) k = ap (λ t. whole_taken s time used t w (data_of rest (Whole w))) (sdur-adds time w.sdur k)
taken_as h s desk time used rest (Part x) k = ap (λ t. part_taken h s desk time used t x (data_of rest (Part x))) (part-adds time x k)
taken_as h s desk time used rest End k = refl
taken_as h s desk time used rest (Skipped y) k = refl
taken_as h s desk time used rest (Refused r) k = refl
taken_as h s desk time used rest (Description w) k = refl

pub as-before-call : (s : Tables) (desk time : ℕ) (rest out : List ℕ) → let who = sender desk (Some time) in
    Exactly (received_at s who rest out ≡ received_before s who rest out) ((shut_out s desk out ≡ false) × Endless (read_of rest).unit → ⊥)
unfolding received_among ordered received
as-before-call s desk time rest out = (
  λ e w.
      not-unknown
      (sym (before-known s desk time rest out) ∙ sym (ap (λ (d : Done). d.answer.next) e) ∙ (makes-unknown s desk time rest out).1 w),
  λ k.
      ap (settled (desks_of s.marks) s desk (Some time))
      (below _ _ _ _
      (λ a. below _ _ _ _
      (λ b. taken_as _ _ desk time (read_of rest).used rest (read_of rest).unit (λ e. k (sym (no _ true a (sym b)), e))))),
)

-- a call that 1 or 2 shuts out leaves its rest to the next
rest-lasts : (s : Tables) (desk time : ℕ) (rest out : List ℕ) → Lasting rest
    → Lasting (drop (received_before s (sender desk (Some time)) rest out).answer.used rest)
rest-lasts s desk time rest out k =
    subst (λ u. Lasting (drop u rest)) (sym (before-uses s desk time rest out))
    (each (λ u. Lasting (drop u rest)) _ _ _ (λ a. k) (λ a i. k (suc i)))

pub as_before : (s : Tables) (desk time : ℕ) (turns : Turns) (rest : List ℕ) → Lasting rest
    → over_payload received_at s (sender desk (Some time)) turns rest ≡ over_payload received_before s (sender desk (Some time)) turns rest
as_before s desk time [] rest k = refl
as_before s desk time (turn ∷ turns) rest k =
    let r = turn.0 s in
    let d = received_before r (sender desk (Some time)) rest turn.1 in
    let l = drop d.answer.used rest in
    let e = before-known r desk time rest turn.1 in
    ap (λ (d : Done). d ∷ over_payload received_at d.tables (sender desk d.answer.next) turns (drop d.answer.used rest))
    ((as-before-call r desk time rest turn.1).1 (λ w. k 0 w.1))
    ∙ ap (λ (ds : List Done). d ∷ ds)
    (ap (λ t. over_payload received_at d.tables (sender desk t) turns l) e
    ∙ as_before d.tables desk _ turns l (rest-lasts r desk time rest turn.1 k)
    ∙ sym (ap (λ t. over_payload received_before d.tables (sender desk t) turns l) e))
