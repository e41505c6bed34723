-- What a desk's call does to its finished times: a call that finishes a sample marks its time, and no other call does. And a unit that is
-- not of TYPE 1 to 4 leaves the sample of its time as it was. Assumes nothing.
use Rattle.std.specs.Prelude.{ℕ, ◌<◌, ◌≡◌, Bool, true, false, List, [], length, Some, None}
use Rattle.std.proofs.Common.{arith, sym, ◌∙◌, true≢false, get_or-set_other}
use Rattle.std.proofs.Math.Path.{refl, subst}
use Rattle.std.proofs.Math.ListN.{length-set}
use Rattle.std.proofs.Math.Seq.{get_or-set_same}
use Rattle.laws.specs.Rows.{◌⇒◌⁏◌, ◌=?◌, each, no, ne}
use Rattle.paper.specs.Words.{number_of}
use Rattle.paper.specs.declared.Refusal.{Refusal}
use Rattle.paper.specs.declared.Refusal.TheVariants as R
use Rattle.paper.specs.Time.{Time}
use Rattle.unit.specs.declared.Whole as W
use Rattle.unit.specs.declared.Part as P
use Rattle.unit.specs.declared.Description as D
use Rattle.unit.specs.declared.Unit as U
use Rattle.unit.specs.declared.Unit.TheVariants.{End, Skipped, Refused, Whole, Part, Description}
use Rattle.unit.specs.Layout.{read_of}
use Rattle.unit.specs.Reads.{ByReader}
use Rattle.unit.proofs.Readings.{read-by-reader}
use Rattle.sample.specs.declared.Place.{Place}
use Rattle.style.specs.Store.{noted}
use Rattle.style.specs.Store as S
use Rattle.desk.specs.declared.Shares.{Shares}
use Rattle.desk.specs.Desk.{Own, After, is_text, refuse, in_use, newest_of, finish, whole_taken, completed, joining, description_taken}
use Rattle.desk.specs.Desk.{taken, received, Given, given_up}
use Rattle.desk.proofs.Effects.{not-ten, at-times}
use Rattle.memory.specs.Relay.{ordered, yielded}
use Rattle.good.specs.View.{View, own_in, receives, gives_up}
use Rattle.once.specs.Ours.{offers}
use Rattle.once.specs.Due.{freeing}
use Rattle.once.specs.Marks.{Marks, Marked, Idle, Idles}

module _ (s : Own) (t : Time) where
  -- no time is marked
  unmarked : (o : Own) → o.row ≡ s.row → in_use o.marks ≡ in_use s.marks → length o.marks ≡ length s.marks → Marks s t false o
  unfolding ◌⇒◌⁏◌
  unmarked o r u l = record { at = 0; known = λ e. absurd (true≢false (sym e)); row = r; used = u; long = l }

  same : Marks s t false s
  same = unmarked s refl refl refl

  refused : (r : Refusal) → (number_of r ≡ 10 → ⊥) → Marks s t (number_of r =? 10) s
  refused r h = subst (λ (b : Bool). Marks s t b s) (sym (ne (number_of r) 10 h)) same

module _ (s : Own) (at : ℕ) (some : 0 < length s.marks) where
  abbrev MarkedAt : After → Type 0
  MarkedAt = Marked s (Some at)

  stays : Marks s (Some at) false s
  stays = same s (Some at)

  ended : (p : Place) (o : List ℕ) → Marks s (Some at) true (finish s at p o)
  unfolding ◌⇒◌⁏◌
  ended p o = record {
    at = at;
    known = λ e. refl;
    row = refl;
    used = get_or-set_same s.marks 0 _ 0 some;
    long = length-set s.marks 0 _;
  }

  whole-marks : (used : ℕ) (next : Time) (w : W.Whole) (d : List ℕ) → MarkedAt (whole_taken s at used next w d)
  unfolding whole_taken ◌=?◌
  whole-marks used next w d =
      each MarkedAt _ _ _ (λ q. stays) (λ q. each MarkedAt _ _ _ (λ q. stays) (λ q. each MarkedAt _ _ _ (λ q. stays) (λ q. ended _ _)))

  completed-marks : (used : ℕ) (next : Time) (q : Place) → MarkedAt (completed s at used next q)
  unfolding completed ◌=?◌
  completed-marks used next q =
      each MarkedAt _ _ _ (λ k. unmarked s (Some at) _ refl refl refl) (λ k. each MarkedAt _ _ _ (λ k. ended _ _) (λ k. ended _ _))

  part-marks : (h : Shares) (used : ℕ) (next : Time) (q : Place) (x : P.Part) (d : List ℕ) → MarkedAt (joining h s at used next q x d)
  unfolding joining ◌=?◌
  part-marks h used next q x d =
      each MarkedAt _ _ _ (λ k. stays)
      (λ k. each MarkedAt _ _ _ (λ k. stays)
      (λ k. each MarkedAt _ _ _ (λ k. stays)
      (λ k. each MarkedAt _ _ _ (λ k. stays)
      (λ k. each MarkedAt _ _ _ (λ k. stays) (λ k. each MarkedAt _ _ _ (λ k. stays) (λ k. completed-marks used next _))))))

noted-idle : (store : List ℕ) (newest sidx : ℕ) (d : List ℕ) → Idle (noted store newest sidx d).answer.outcome
unfolding noted ◌=?◌
noted-idle store newest sidx d =
    each I _ _ _ (λ q. (refl, refl))
    (λ q. each I _ _ _ (λ q. (refl, refl))
    (λ q. each I _ _ _ (λ q. (refl, refl)) (λ q. each I _ _ _ (λ q. (refl, refl)) (λ q. (refl, refl)))))
  where
    I : S.After → Type 0
    I a = Idle a.answer.outcome

module _ (h : Shares) (s : Own) (desk : ℕ) (t : Time) (used : ℕ) (rest : List ℕ) where
  description-marks : (w : D.Description) (d : List ℕ) → Marked s t (description_taken s t used w d)
  unfolding description_taken
  description-marks w d =
      let n = noted s.store (newest_of s.marks) w.sidx d in
      let a = description_taken s t used w d in
      subst (λ (b : Bool). Marks s t b a.own) (sym (noted-idle s.store (newest_of s.marks) w.sidx d).0)
      (unmarked s t a.own refl (get_or-set_other s.marks 1 0 n.answer.newest 0 (λ e. omega arith)) (length-set s.marks 1 _))

  untimed-marks : Marked s None (refuse s used None R.Untimed)
  untimed-marks = refused s None R.Untimed (λ e. omega arith)

  taken-marks : 0 < length s.marks → (x : U.Unit) → ByReader x → Marked s t (taken h s desk t used rest x)
  taken-marks some End k = same s t
  taken-marks some (Skipped y) k = same s t
  taken-marks some (Refused r) k = refused s t r (not-ten r k)
  taken-marks some (Whole w) k = at-times (Marked s) s used _ (λ at. whole-marks s at some used _ w _) untimed-marks t
  taken-marks some (Part x) k = at-times (Marked s) s used _ (λ at. part-marks s at some h used _ _ x _) untimed-marks t
  taken-marks some (Description w) k = description-marks w _

  taken-idles : (x : U.Unit) → ByReader x → is_text x ≡ false → Idles s (taken h s desk t used rest x)
  unfolding description_taken
  taken-idles End k e = record { idle = (refl, refl); place = refl }
  taken-idles (Skipped y) k e = record { idle = (refl, refl); place = refl }
  taken-idles (Refused r) k e = record { idle = (ne (number_of r) 10 (not-ten r k), refl); place = refl }
  taken-idles (Whole w) k e = absurd (true≢false e)
  taken-idles (Part x) k e = absurd (true≢false e)
  taken-idles (Description w) k e = record { idle = noted-idle s.store (newest_of s.marks) w.sidx _; place = refl }

module _ (h : Shares) (v : View) (desk : ℕ) (t : Time) (rest out : List ℕ) where
  abbrev its : Own
  its = own_in v t out

  pub receive-marks : 0 < length v.marks → Marked its t (receives h v desk t rest out)
  unfolding ordered received ◌=?◌
  receive-marks some =
      each (Marked its t) _ _ _ (λ q. same its t)
      (λ q. each (Marked its t) _ _ _ (λ q. same its t)
      (λ q. taken-marks h its desk t _ rest some (read_of rest).unit (read-by-reader rest)))

  pub receive-idles : offers rest out ≡ false → Idles its (receives h v desk t rest out)
  unfolding ordered received ◌=?◌
  receive-idles e =
      each (Idles its) _ _ _ (λ q. record { idle = (refl, refl); place = refl })
      (λ q. each (Idles its) _ _ _ (λ q. record { idle = (refl, refl); place = refl })
      (λ q. taken-idles h its desk t _ rest (read_of rest).unit (read-by-reader rest) (no _ _ q refl ∙ e)))

pub give-up-marks : (v : View) (at : ℕ) → 0 < length v.marks
    → Marks (own_in v (Some at) []) (Some at) (freeing (gives_up v at).answer) (gives_up v at).own
unfolding yielded given_up
give-up-marks v at some =
    let o = own_in v (Some at) [] in
    each G _ _ _ (λ q. same o (Some at)) (λ q. each G _ _ _ (λ q. ended o at some _ _) (λ q. same o (Some at)))
  where
    G : Given → Type 0
    G a = Marks (own_in v (Some at) []) (Some at) (freeing a.answer) a.own
