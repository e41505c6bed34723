-- What the questions and the answer of a call tell, in the code's own values. Assumes nothing.
use Rattle.std.specs.Prelude.{◌≡◌, ℕ, Bool, true, false, List, refl, Some, None}
use Rattle.std.proofs.Common.{ap}
use Rattle.paper.specs.declared.Outcome.{Outcome}
use Rattle.paper.specs.declared.Refusal.TheVariants as R
use Rattle.paper.specs.Time.{Time}
use Rattle.unit.specs.declared.Part.{Part}
use Rattle.laws.specs.Rows.{◌⇒◌⁏◌}
use Rattle.sample.specs.declared.Place.{Place}
use Rattle.sample.specs.Place.{bare, closed}
use Rattle.sample.specs.Head.{Head, whole, alone, has-any, agrees-any}
use Rattle.desk.specs.Desk.{Own, After, answering, turn, refuse, conflicts, timed}
use Rattle.asks.specs.Settled.{Settled, settled, open_in, laid, no_part, part_of, arrival_of}
use Rattle.unit.specs.declared.Part as P
use Rattle.unit.specs.declared.Unit.TheVariants as U
use Rattle.unit.specs.declared.Reading.{Reading}

-- ---- the answer
pub told_of : (r : Settled) (h : Head) (used : ℕ) (next : Time) (o : Outcome) (kinds starts lens bytes : List ℕ)
    → r ≡ settled h used next o
    → turn (whole r.head kinds starts lens bytes) r.answer ≡ answering (whole h kinds starts lens bytes) used next o
told_of r h used next o kinds starts lens bytes e =
    ap (λ (z : Settled). turn (whole z.head kinds starts lens bytes) z.answer) e

pub conflicts-any : (h : Head) (kinds starts lens bytes : List ℕ) (x : Part)
    → conflicts (alone h) x ≡ conflicts (whole h kinds starts lens bytes) x
unfolding conflicts
conflicts-any h kinds starts lens bytes x = rw (has-any h kinds starts lens bytes x.this, agrees-any h kinds starts lens bytes x)

-- ---- the time: a text unit is taken at a known one, and refused at an unknown one
module _ (s : Own) (t : Time) (used : ℕ) (at : (time : ℕ) → After) where
  pub timed-known : (time : ℕ) → t ≡ Some time → at time ≡ timed s t used at
  timed-known time e = rw e

  pub timed-unknown : t ≡ None → refuse s used None R.Untimed ≡ timed s t used at
  timed-unknown e = rw e

-- ---- in a place that nothing was made of, nothing changes
pub laid_same : (before : Place) → laid before (open_in before) ≡ before
unfolding laid open_in bare ◌⇒◌⁏◌
laid_same before = go before.used refl
  where
    go : (b : Bool) → before.used ≡ b
        → (b ⇒ (b ⇒ before ⁏ closed) ⁏ (b ⇒ before ⁏ closed).used ⇒ (b ⇒ before ⁏ closed) ⁏ before) ≡ before
    go true e = refl
    go false e = refl

-- ---- the part that was read
pub arrived-part : (r : Reading) (x : P.Part) → r.unit ≡ U.Part x → record { used = r.used; part = x } ≡ arrival_of r
arrived-part r x e = rw e

pub arrived-none : (r : Reading) → part_of r.unit ≡ no_part → record { used = r.used; part = no_part } ≡ arrival_of r
arrived-none r e = rw e
