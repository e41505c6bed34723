-- What a call of one desk tells is short: its numbers, its time, and the SLEN that its place keeps. Assumes nothing.
use Rattle.std.specs.Prelude.{ℕ, ◌<◌, ◌≤◌, ◌≡◌, refl, Bool, true, false, ◌⊎◌, List, length, Some, None}
use Rattle.std.proofs.Common.{arith, sym, true≢false, inl, inr}
use Rattle.laws.specs.Rows.{◌⇒◌⁏◌, ◌and◌, each, eq_of, ge-of, and-of, or-none, not-of}
use Rattle.paper.specs.Limits.{sample_most}
use Rattle.paper.specs.Time.{Time}
use Rattle.paper.specs.declared.Outcome.{Outcome}
use Rattle.paper.specs.declared.Outcome.TheVariants as O
use Rattle.unit.specs.declared.Whole as W
use Rattle.unit.specs.declared.Part as P
use Rattle.unit.specs.declared.Description as D
use Rattle.unit.specs.declared.Unit.{Unit}
use Rattle.unit.specs.declared.Unit.TheVariants.{End, Skipped, Refused, Whole, Part, Description}
use Rattle.unit.specs.declared.Reading.{Reading}
use Rattle.unit.specs.Layout.{fields_of, broken, read_of, data_of}
use Rattle.unit.proofs.Readings.{each-unit}
use Rattle.sample.specs.declared.Place.{Place}
use Rattle.sample.specs.Place.{bare, agrees, oversize, missing, told_with, telling, laid, kept, pieces_of}
use Rattle.sample.specs.Sound.{sound-of}
use Rattle.style.specs.Store.{noted}
use Rattle.style.specs.Store as S
use Rattle.desk.specs.declared.Shares.{Shares}
use Rattle.desk.specs.Desk.{Own, After, later, later_part, whole_taken, sample_of, conflicts, completed, joining, description_taken, taken}
use Rattle.desk.specs.Desk.{received}

-- ---- a reading: TYPE is below 8, TOTAL below 16, and it uses three bytes at least, or all
abbrev Slight : Unit → Type 0
Slight End = Prim.Unit {0}
Slight (Skipped t) = t < 8
Slight (Refused r) = Prim.Unit {0}
Slight (Whole w) = Prim.Unit {0}
Slight (Part x) = x.total < 16
Slight (Description w) = Prim.Unit {0}

fields-slight : (s : List ℕ) (U TYPE LEN : ℕ) → TYPE < 8 → Slight (fields_of s U TYPE LEN)
unfolding fields_of
fields-slight s U TYPE LEN t =
    each Slight _ _ _ (λ q. tt)
    (λ q. each Slight _ _ _ (λ q. omega arith)
    (λ q. each Slight _ _ _ (λ q. omega arith)
    (λ q. each Slight _ _ _ (λ q. omega arith) (λ q. each Slight _ _ _ (λ q. tt) (λ q. t)))))

reads-slight : (s : List ℕ) → Slight (read_of s).unit
reads-slight s = each-unit Slight s tt tt tt tt (λ m l f w. fields-slight s _ _ _ (omega arith))

pub reads-far : (s : List ℕ) → 0 < length s → (3 ≤ (read_of s).used) ⊎ ((read_of s).used ≡ length s)
unfolding read_of broken
reads-far s h =
    each P _ _ _ (λ q. absurd (omega (arith, eq_of _ _ q)))
    (λ q. each P _ _ _ (λ b. inr refl) (λ b. inl (omega (arith, ge-of _ _ (or-none _ _ (or-none _ _ b).1).0))))
  where
    P : Reading → Type 0
    P r = (3 ≤ r.used) ⊎ (r.used ≡ length s)

-- ---- the numbers that an outcome is told with
abbrev pub Brief : Outcome → Type 0
Brief O.End = Prim.Unit {0}
Brief (O.Whole f) = f.sample ≤ sample_most
Brief (O.Joined f) = f.sample ≤ sample_most
Brief (O.Kept n) = n < 16
Brief O.Repeat = Prim.Unit {0}
Brief O.Described = Prim.Unit {0}
Brief (O.Skipped t) = t < 8
Brief (O.Refused r) = Prim.Unit {0}

-- a known time fits 32 bits
abbrev pub Within : Time → Type 0
Within (Some time) = time < 4294967296
Within None = Prim.Unit {0}

pub record Modest (used : ℕ) (a : After) : Type 0 where
  pub next : Within a.answer.next
  pub uses : a.answer.used ≡ used
  pub words : Brief a.answer.outcome

later-within : (time SDUR : ℕ) → Within (later time SDUR)
unfolding later
later-within time SDUR = each Within _ _ _ (λ q. tt) (λ q. omega arith)

whole-modest : (s : Own) (time used : ℕ) (next : Time) (w : W.Whole) (d : List ℕ) → Within next
    → Modest used (whole_taken s time used next w d)
unfolding whole_taken
whole-modest s time used next w d n =
    each (Modest used) _ _ _ (λ q. record { next = n; uses = refl; words = tt })
    (λ q. each (Modest used) _ _ _ (λ q. record { next = n; uses = refl; words = tt })
    (λ q. each (Modest used) _ _ _ (λ q. record { next = n; uses = refl; words = tt })
    (λ q. record { next = n; uses = refl; words = ge-of _ _ q })))

-- ---- parts: a place's SLEN was told by a part that 5 let through, and its TOTAL is that of the part
both : (a b : Bool) → a ≡ true → (a and b) ≡ false → b ≡ false
unfolding ◌⇒◌⁏◌
both true b p q = q
both false b p q = absurd (true≢false (sym p))

kept-modest : (q : Place) (x : P.Part) (d : List ℕ) → q.slen ≤ sample_most → oversize q x (length d) ≡ false
    → ((kept q x d).slen ≤ sample_most) × ((kept q x d).total ≡ q.total)
unfolding kept telling told_with laid oversize
kept-modest q x d h o =
    each Q _ _ _ (λ k. (h, refl))
    (λ k. each Q _ _ _ (λ k. (h, refl))
    (λ k. each Q _ _ _ (λ k. (ge-of _ _ (both _ _ k (or-none _ _ o).0), refl)) (λ k. (h, refl))))
  where
    Q : Place → Type 0
    Q p = (p.slen ≤ sample_most) × (p.total ≡ q.total)

completed-modest : (s : Own) (time used : ℕ) (next : Time) (q : Place) → Within next → q.slen ≤ sample_most → q.total < 16
    → Modest used (completed s time used next q)
unfolding completed missing bare
completed-modest s time used next q n h t =
    each (Modest used) _ _ _ (λ k. record { next = n; uses = refl; words = omega arith })
    (λ k. each (Modest used) _ _ _
    (λ k. record { next = n; uses = refl; words = omega (arith, (sound-of q.slen (pieces_of q) k).1) })
    (λ k. record { next = n; uses = refl; words = tt }))

joining-modest : (g : Shares) (s : Own) (time used : ℕ) (next : Time) (q : Place) (x : P.Part) (d : List ℕ) → Within next
    → q.slen ≤ sample_most → x.total < 16 → Modest used (joining g s time used next q x d)
unfolding joining conflicts agrees
joining-modest g s time used next q x d n k t =
    each (Modest used) _ _ _ (λ e. record { next = n; uses = refl; words = tt })
    (λ e. each (Modest used) _ _ _ (λ e. record { next = n; uses = refl; words = tt })
    (λ e. each (Modest used) _ _ _ (λ e. record { next = n; uses = refl; words = tt })
    (λ c. each (Modest used) _ _ _ (λ e. record { next = n; uses = refl; words = tt })
    (λ o. each (Modest used) _ _ _ (λ e. record { next = n; uses = refl; words = tt })
    (λ e. each (Modest used) _ _ _ (λ e. record { next = n; uses = refl; words = tt })
    (λ e.
    let m = kept-modest q x d k o in
    let a = eq_of q.total x.total (and-of _ _ (not-of _ (or-none _ _ c).1)).0 in
    completed-modest s time used next (kept q x d) n m.0 (omega arith)))))))

sample-modest : (p : Place) (desk time : ℕ) (x : P.Part) → p.slen ≤ sample_most → (sample_of p desk time x).slen ≤ sample_most
unfolding sample_of bare
sample-modest p desk time x h = each (λ (q : Place). q.slen ≤ sample_most) _ _ _ (λ e. h) (λ e. omega arith)

part-within : (time : ℕ) (x : P.Part) → time < 4294967296 → Within (later_part time x)
unfolding later_part
part-within time x h = each Within _ _ _ (λ e. later-within time x.sdur) (λ e. h)

-- ---- TYPE 5, and one unit
described-modest : (s : Own) (t : Time) (used : ℕ) (w : D.Description) (d : List ℕ) → Within t
    → Modest used (description_taken s t used w d)
unfolding description_taken noted
described-modest s t used w d n = record {
  next = n;
  uses = refl;
  words = each B _ _ _ (λ q. tt) (λ q. each B _ _ _ (λ q. tt) (λ q. each B _ _ _ (λ q. tt) (λ q. each B _ _ _ (λ q. tt) (λ q. tt))));
}
  where
    B : S.After → Type 0
    B a = Brief a.answer.outcome

taken-modest : (g : Shares) (s : Own) (desk : ℕ) (t : Time) (used : ℕ) (rest : List ℕ) (x : Unit) → s.place.slen ≤ sample_most → Within t
    → Slight x → Modest used (taken g s desk t used rest x)
taken-modest g s desk t used rest End h n k = record { next = n; uses = refl; words = tt }
taken-modest g s desk t used rest (Skipped y) h n k = record { next = n; uses = refl; words = k }
taken-modest g s desk t used rest (Refused r) h n k = record { next = n; uses = refl; words = tt }
taken-modest g s desk (Some time) used rest (Whole w) h n k =
    whole-modest s time used _ w (data_of rest (Whole w)) (later-within time w.sdur)
taken-modest g s desk (Some time) used rest (Part x) h n k =
    joining-modest g s time used (later_part time x) (sample_of s.place desk time x) x (data_of rest (Part x)) (part-within time x n)
    (sample-modest s.place desk time x h) k
taken-modest g s desk None used rest (Whole w) h n k = record { next = tt; uses = refl; words = tt }
taken-modest g s desk None used rest (Part x) h n k = record { next = tt; uses = refl; words = tt }
taken-modest g s desk t used rest (Description w) h n k = described-modest s t used w (data_of rest (Description w)) n

pub modest : (g : Shares) (s : Own) (desk : ℕ) (t : Time) (rest : List ℕ) → s.place.slen ≤ sample_most → Within t
    → Modest (read_of rest).used (received g s desk t rest)
unfolding received
modest g s desk t rest h n = taken-modest g s desk t (read_of rest).used rest (read_of rest).unit h n (reads-slight rest)
