-- What `position` answers of a list is where the first that is so stands; and a search that counts: none of the first i is the one, and where
-- that ends. Assumes nothing.
use Rattle.std.proofs.Common.{ℕ, zero, suc, ◌+◌, add-one, subst, ◌<◌, min, arith, ◌≡◌, refl, sym, ap, ◌∙◌, Bool, true, false, not, cond, ltb, List, [], ◌∷◌, length, get_or, take, Option, Some, None}
use Rattle.std.specs.List.{position_or_len}
use Rattle.laws.specs.Region.{take_min}
use Rattle.laws.specs.Rows.{◌⇒◌⁏◌, ◌<?◌}
use Rattle.laws.specs.Table.{seek}
use Rattle.sample.specs.declared.Place.{Place}
use Rattle.table.specs.Table.{place_where}

module _ (p : Place → Bool) where
  sought : (l : List Place) → position_or_len p l ≡ seek p l
  sought [] = refl
  sought (y ∷ l) = go (p y) (sought l)
    where
      go : (b : Bool) → position_or_len p l ≡ seek p l → cond (not b) (1 + position_or_len p l) 0 ≡ cond b 0 (suc (seek p l))
      go true ih = refl
      go false ih = omega arith

  pub place-is : (l : List Place) → cond (ltb (position_or_len p l) (length l)) (Some (position_or_len p l)) None ≡ place_where p l
  unfolding ◌⇒◌⁏◌ ◌<?◌
  place-is l = rw (sought l) (go (ltb (seek p l) (length l)))
    where
      go : (b : Bool) → cond b (Some (seek p l)) None ≡ (b ⇒ Some (seek p l) ⁏ None)
      go true = refl
      go false = refl

module _ {A : Type 0} (p : A → Bool) where
  -- none of the first i passes
  abbrev pub Past : List A → ℕ → Type 0
  Past ys i = seek p (take i ys) ≡ i

module _ {A : Type 0} (p : A → Bool) (d : A) where
  pub past_next : (ys : List A) (i : ℕ) → i < length ys → p (get_or ys i d) ≡ false → Past p ys i → Past p ys (suc i)
  past_next [] i l e h = absurd (omega (arith, l))
  past_next (y ∷ ys) zero l e h = rw e
  past_next (y ∷ ys) (suc i) l e h = go (p y) h (past_next ys i (omega (arith, l)) e)
    where
      go : (b : Bool) → cond b 0 (suc (seek p (take i ys))) ≡ suc i → (Past p ys i → Past p ys (suc i)) → cond b 0 (suc (seek p (take (suc i) ys))) ≡ suc (suc i)
      go true k ih = absurd (omega (arith, k))
      go false k ih = ap suc (ih (omega (arith, k)))

  pub past-more : (ys : List A) (i : ℕ) → i < length ys → p (get_or ys i d) ≡ false → Past p ys i → Past p ys (i + 1)
  past-more ys i l e h = subst (Past p ys) (sym (add-one i)) (past_next ys i l e h)

  pub past-hit : (ys : List A) (m i : ℕ) → i < m → i < length ys → p (get_or ys i d) ≡ true → Past p ys i → i ≡ seek p (take m ys)
  past-hit [] m i k l e h = absurd (omega (arith, l))
  past-hit (y ∷ ys) zero i k l e h = absurd (omega (arith, k))
  past-hit (y ∷ ys) (suc m) zero k l e h = rw e
  past-hit (y ∷ ys) (suc m) (suc i) k l e h = go (p y) h (past-hit ys m i (omega (arith, k)) (omega (arith, l)) e)
    where
      go : (b : Bool) → cond b 0 (suc (seek p (take i ys))) ≡ suc i → (Past p ys i → i ≡ seek p (take m ys)) → suc i ≡ cond b 0 (suc (seek p (take m ys)))
      go true f ih = absurd (omega (arith, f))
      go false f ih = ap suc (ih (omega (arith, f)))

  pub past_end : (ys : List A) (m i : ℕ) → i ≡ min (length ys) m → Past p ys i → i ≡ seek p (take m ys)
  past_end ys m i e h = sym h ∙ ap (λ (k : ℕ). seek p (take k ys)) e ∙ ap (seek p) (take_min ys m)
