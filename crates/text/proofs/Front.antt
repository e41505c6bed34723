-- What a list of bytes begins with, and when a rule finds exactly that. Assumes nothing.
use Rattle.std.specs.Prelude.{ℕ, zero, suc, ◌<◌, ◌≡◌, refl, true, List, ◌++◌, length, drop}
use Rattle.std.proofs.Common.{arith, sym, ap, ◌∙◌, take-append-drop}
use Rattle.laws.specs.Exactly.{Exactly}
use Rattle.text.specs.Unicode.{scalar}
use Rattle.text.specs.Front.{Front}

-- a rule for the length finds exactly the encodings, if all that it finds is one and it finds every one
pub exactly : (x : ℕ → List ℕ) (rule : List ℕ → ℕ)
    → ((c : ℕ) → 0 < length (x c))
    → ((s : List ℕ) → 0 < rule s → Front x s (rule s))
    → ((c : ℕ) (rest : List ℕ) → scalar c ≡ true → rule (x c ++ rest) ≡ length (x c))
    → (s : List ℕ) (n : ℕ) → Exactly ((0 < n) × (rule s ≡ n)) (Front x s n)
exactly x rule some sound complete s n = (
  λ h. rw h.1 at (sound s (rw h.1 h.0)),
  λ f.
      let e : x f.value ++ drop n s ≡ s = ap (λ (l : List ℕ). l ++ drop n s) (sym f.front) ∙ take-append-drop n s in
      (omega (arith, f.size, some f.value), ap rule (sym e) ∙ complete f.value (drop n s) f.good ∙ sym f.size),
)

-- and there is only one such rule
pub only : (x : ℕ → List ℕ) (rule other : List ℕ → ℕ)
    → ((s : List ℕ) (n : ℕ) → Exactly ((0 < n) × (rule s ≡ n)) (Front x s n))
    → ((s : List ℕ) (n : ℕ) → Exactly ((0 < n) × (other s ≡ n)) (Front x s n))
    → (s : List ℕ) → rule s ≡ other s
only x rule other one two s = go (rule s) (other s) refl refl
  where
    go : (m n : ℕ) → rule s ≡ m → other s ≡ n → rule s ≡ other s
    go zero zero e f = e ∙ sym f
    go zero (suc n) e f = ((one s (suc n)).1 ((two s (suc n)).0 (omega arith, f))).1 ∙ sym f
    go (suc m) n e f = e ∙ sym ((two s (suc m)).1 ((one s (suc m)).0 (omega arith, e))).1
