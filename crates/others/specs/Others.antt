-- A unit of one desk that is no part: what it is answered, whatever the shares are. Assumes nothing.
use Rattle.std.specs.Prelude.{ℕ, ◌≡◌, refl, false, List}
use Rattle.std.proofs.Common.{sym, ap, ◌∙◌, true≢false}
use Rattle.laws.specs.Rows.{yes, no}
use Rattle.paper.specs.Time.{Time}
use Rattle.paper.specs.declared.Outcome.TheVariants as O
use Rattle.unit.specs.declared.Part as P
use Rattle.unit.specs.declared.Unit.{Unit}
use Rattle.unit.specs.declared.Unit.TheVariants as U
use Rattle.unit.specs.declared.Reading.{Reading}
use Rattle.unit.specs.Layout.{read_of}
use Rattle.desk.specs.declared.Shares.{Shares}
use Rattle.desk.specs.Desk.{Own, After, says, is_part, taken, received}
use Rattle.asks.specs.Settled.{unasked, passed}

-- a unit that is no part is answered without the shares, whatever they are
pub received-any : (h : Shares) (s : Own) (desk : ℕ) (t : Time) (rest : List ℕ) → is_part (read_of rest).unit ≡ false
    → passed s t (read_of rest) rest ≡ received h s desk t rest
unfolding passed received
received-any h s desk t rest e = sym (no _ _ e refl) ∙ go (read_of rest).unit e
  where
    go : (x : Unit) → is_part x ≡ false → taken unasked s 0 t (read_of rest).used rest x ≡ taken h s desk t (read_of rest).used rest x
    go U.End e = refl
    go (U.Skipped k) e = refl
    go (U.Refused r) e = refl
    go (U.Whole w) e = refl
    go (U.Part x) e = absurd (true≢false e)
    go (U.Description w) e = refl

pub passed_is : (s : Own) (t : Time) (rest : List ℕ) (r : Reading) (x : Unit) → r.unit ≡ x → is_part x ≡ false
    → (a : After) → a ≡ taken unasked s 0 t r.used rest x → a ≡ passed s t r rest
unfolding passed
passed_is s t rest r x f k a q = no _ _ (ap is_part f ∙ k) (q ∙ ap (taken unasked s 0 t r.used rest) (sym f))

pub passed-part : (s : Own) (t : Time) (rest : List ℕ) (r : Reading) (x : P.Part) → r.unit ≡ U.Part x
    → (a : After) → a ≡ record { own = s; answer = says 0 t O.End } → a ≡ passed s t r rest
unfolding passed
passed-part s t rest r x f a q = yes _ _ (ap is_part f) q
