-- What counting uses of lists and tests. Nothing of the program logic. Assumes nothing.
use Rattle.std.proofs.Common.{ℕ, suc, ◌+◌, ◌≤◌, min, arith, ◌≡◌, refl, sym, ap, ◌∙◌, Bool, true, false, cond, List, [], ◌∷◌, length, take}
use mir.Val.{bool_byte}
use Rattle.std.proofs.Math.Seq.{length-take-le}
use Rattle.laws.specs.Rows.{◌⇒◌⁏◌, ◌<?◌, ◌=?◌, ge, eq_of}
use Rattle.laws.specs.Table.{bit, seek, count}
use Rattle.laws.specs.Region.{take_min}
use Rattle.paper.specs.declared.Sender.{Sender}
use Rattle.sample.specs.declared.Place.{Place}
use Rattle.memory.specs.Table.{is_time, is_at}
use Rattle.table.specs.Table.{bears, holds}
use Rattle.table.specs.Turn.{count-le}
use Rattle.table.proofs.Facts.{fails}

-- a count is no more than the places that were passed
pub counted-small : {A : Type 0} (p : A → Bool) (ys : List A) (i c : ℕ) → i ≤ length ys → c ≡ count p (take i ys) → c ≤ i
counted-small p ys i c l e = rw e (omega (arith, count-le p (take i ys), length-take-le i ys l))

pub bit-small : (b : Bool) (r : ℕ) → r ≡ bit b → r ≤ 1
bit-small true r e = omega arith
bit-small false r e = omega arith

pub one-bit : (b : Bool) → bool_byte b ≡ bit b
one-bit true = refl
one-bit false = refl

-- ---- a search is spared where none counts
-- where no element is q, and each that is p is q, none is p
none_so : {A : Type 0} (p q : A → Bool) → ((x : A) → q x ≡ false → p x ≡ false) → (l : List A) → count q l ≡ 0 → seek p l ≡ length l
none_so p q less [] e = refl
none_so p q less (x ∷ xs) e = go (q x) refl e (none_so p q less xs)
  where
    go : (b : Bool) → q x ≡ b → bit b + count q xs ≡ 0 → (count q xs ≡ 0 → seek p xs ≡ length xs) → cond (p x) 0 (suc (seek p xs)) ≡ suc (length xs)
    go true f e ih = absurd (omega arith)
    go false f e ih = rw (less x f) (ap suc (ih (omega arith)))

-- a desk's sample bears its time
pub none-open : (who : Sender) (l : List Place) → count (bears who) l ≡ 0 → holds (is_at who.desk who.time) l ≡ false
none-open who l e =
    let p = is_at who.desk who.time in
    let none : seek p l ≡ length l =
    none_so p (bears who) (λ y h. sym (fails y.used (y.desk =? who.desk) (is_time who.time y.time) h)) l e in
    ge (seek p l) (length l) (omega (arith, none))
