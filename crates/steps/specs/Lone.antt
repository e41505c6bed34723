-- A sample of one part is never kept: it ends in the call that opens it. Assumes nothing.
use Rattle.std.specs.Prelude.{ℕ, ◌≤◌, ◌≡◌, refl, false, List, length}
use Rattle.std.proofs.Common.{arith, sym, ap}
use Rattle.laws.specs.Rows.{◌⇒◌⁏◌, each, no, lt_of}
use Rattle.paper.specs.Time.{Time}
use Rattle.unit.specs.declared.Part as P
use Rattle.unit.specs.Reads.{Counts}
use Rattle.sample.specs.declared.Place.{Place}
use Rattle.sample.specs.Place.{bare, closed, opened, oversize, kept, missing}
use Rattle.sample.specs.Made.{opened-made}
use Rattle.sample.specs.Kept.{opened-has}
use Rattle.sample.specs.Missing.{keep-missing}
use Rattle.desk.specs.declared.Shares.{Shares}
use Rattle.desk.specs.Desk.{Own, After, sample_of, completed, joining, part_taken, part_at}
use Rattle.desk.proofs.Effects.{at-times}

unopened : (desk time : ℕ) (x : P.Part) → x.total ≤ 1 → missing (opened desk time x) ≤ 1
unfolding missing bare
unopened desk time x one = omega arith

taken_none : (h : Shares) (s : Own) (desk time used : ℕ) (next : Time) (x : P.Part) (d : List ℕ) → s.place ≡ closed
    → Counts x → x.total ≤ 1 → (part_taken h s desk time used next x d).own.place.used ≡ false
unfolding joining completed sample_of bare
taken_none h s desk time used next x d c k one =
    each None _ _ _ (λ e. none)
    (λ e. each None _ _ _ (λ e. none)
    (λ e. each None _ _ _ (λ e. none)
    (λ e. each None _ _ _ (λ e. none)
    (λ f. each None _ _ _ (λ e. none)
    (λ e. each None _ _ _ (λ e. none)
    (λ e. each None _ _ _ (λ e. absurd (omega (arith, lt_of _ _ e, complete f))) (λ e. each None _ _ _ (λ e. refl) (λ e. refl))))))))
  where
    None : After → Type 0
    None a = a.own.place.used ≡ false

    none : s.place.used ≡ false
    none = ap (λ (y : Place). y.used) c

    q : Place
    q = s.place.used ⇒ s.place ⁏ opened desk time x

    is-new : q ≡ opened desk time x
    is-new = sym (no _ _ none refl)

    complete : oversize q x (length d) ≡ false → missing (kept q x d) ≤ 0
    complete f =
        rw is-new
        (omega (
          arith,
          keep-missing (opened desk time x) (opened-made desk time x k.most) x d
              (record { from = k.from; to = k.to; new = opened-has desk time x x.this; fits = rw is-new at f }),
          unopened desk time x one,
        ))

-- at whatever time
pub part_none : (h : Shares) (s : Own) (desk : ℕ) (t : Time) (used : ℕ) (x : P.Part) (d : List ℕ) → s.place ≡ closed → Counts x
    → x.total ≤ 1 → (part_at h s desk t used x d).own.place.used ≡ false
unfolding bare
part_none h s desk t used x d c k one =
    at-times (λ (u : Time) (a : After). a.own.place.used ≡ false) s used _ (λ time. taken_none h s desk time used _ x d c k one)
    (ap (λ (y : Place). y.used) c) t
