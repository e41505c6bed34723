-- Laws of a branch on `!r` and of a list's first elements. Assumes nothing.
use Rattle.std.specs.Prelude.{ℕ, suc, ◌<◌, ◌≡◌, Bool, true, false, not, List, ◌∷◌, length, take, drop, get_or}
use Rattle.std.proofs.Common.{arith, sym, ap, ◌∙◌, length-drop, drop-cons, take_all}

-- a condition f that a function decided of what another one read: t is its answer, and which way a branch on it, or on `!t`, went is known
pub saw : {A : Type 0} (f : A → Bool) (t : Bool) (a b : A) (v : Bool) → t ≡ f a → a ≡ b → t ≡ v → f b ≡ v
saw f t a b v p e h = ap f (sym e) ∙ sym p ∙ h

pub saw-not : {A : Type 0} (f : A → Bool) (t : Bool) (a b : A) (v : Bool) → t ≡ f a → a ≡ b → not t ≡ v → f b ≡ not v
saw-not f true a b v p e h = ap f (sym e) ∙ sym p ∙ ap not h
saw-not f false a b v p e h = ap f (sym e) ∙ sym p ∙ ap not h

-- the first elements, one by one
pub took : {A : Type 0} (d : A) (s : List A) (i n : ℕ) (x : List A) → i < length s → x ≡ take n (drop (suc i) s)
    → get_or s i d ∷ x ≡ take (suc n) (drop i s)
took d s i n x h e = rw (drop-cons s i d h) (ap (λ l. get_or s i d ∷ l) e)

-- what is cut off behind a, all of it
pub all-behind : {A : Type 0} (s : List A) (a : ℕ) → take (length s) (drop a s) ≡ drop a s
all-behind s a = take_all (length s) (drop a s) (simp length-drop (omega arith))
