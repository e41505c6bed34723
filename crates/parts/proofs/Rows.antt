-- Rows of conditions that say the same. Assumes nothing.
use Rattle.std.proofs.Common.{Bool, true, false, true≢false, ◌&&◌, ◌≡◌, refl, sym, ◌∙◌}
use Rattle.laws.specs.Rows.{◌⇒◌⁏◌, ◌and◌, ◌or◌}

-- three conditions, all of them
pub all_three : (a b c : Bool) → (a && b && c) ≡ (a and b and c)
unfolding ◌⇒◌⁏◌
all_three true true c = refl
all_three true false c = refl
all_three false b c = refl

-- two conditions, v says whether both hold, and then a third
module _ (a b r v : Bool) (e : v ≡ (a && b)) where
  pub both : v ≡ true → (w : Bool) → w ≡ r → w ≡ (a and b and r)
  unfolding ◌⇒◌⁏◌
  both t w h = go a b (sym e ∙ t)
    where
      go : (a b : Bool) → (a && b) ≡ true → w ≡ (a and b and r)
      go true true k = h
      go true false k = absurd (true≢false (sym k))
      go false b k = absurd (true≢false (sym k))

  pub not_both : v ≡ false → v ≡ (a and b and r)
  unfolding ◌⇒◌⁏◌
  not_both t = t ∙ go a b (sym e ∙ t)
    where
      go : (a b : Bool) → (a && b) ≡ false → false ≡ (a and b and r)
      go true true k = absurd (true≢false k)
      go true false k = refl
      go false b k = refl

-- k counts for the first condition and the third
pub told-twice : (k b a c t : Bool) → ((a or k and (b or c)) or t) ≡ (k and b or a or k and c or t)
unfolding ◌⇒◌⁏◌
told-twice true true true c t = refl
told-twice true true false c t = refl
told-twice true false true c t = refl
told-twice true false false c t = refl
told-twice false b true c t = refl
told-twice false b false c t = refl

pub or_false : (a : Bool) → a ≡ (a or false)
unfolding ◌⇒◌⁏◌
or_false true = refl
or_false false = refl

pub or_true : (a b r : Bool) → b ≡ true → (a or b or r) ≡ true
unfolding ◌⇒◌⁏◌
or_true true b r h = refl
or_true false b r h = rw h
