-- 'Exactly if', and what a promise determines. Assumes nothing.
use Rattle.std.specs.Prelude.{◌≡◌, refl}
use Rattle.std.proofs.Common.{sym, ap, ◌∙◌}

-- the one exactly if the other
abbrev pub Exactly : (A B : Type 0) → Type 0
Exactly A B = (A → B) × (B → A)

-- a promise determines what it speaks of: two that it permits for the same input are equal
abbrev pub Determines : {A : Type 0} → (A → Type 0) → Type 0
Determines {A} P = (x y : A) → P x → P y → x ≡ y

-- An equation does, where what it speaks of can be read off the side that names it.
pub determined : {A B : Type 0} (f : A → B) (g : B → A) → ((x : A) → g (f x) ≡ x) → (z : B) → Determines (λ (x : A). f x ≡ z)
determined f g back z x y p q = sym (back x) ∙ ap g (p ∙ sym q) ∙ back y

pub equation : {A : Type 0} (z : A) → Determines (λ (x : A). x ≡ z)
equation z = determined (λ x. x) (λ x. x) (λ x. refl) z

-- so do two or three equations that name all of it
pub determined-by-two : {X A B : Type 0} (f : X → A) (g : X → B) (back : A → B → X) → ((x : X) → back (f x) (g x) ≡ x) → (a : A) (b : B)
    → Determines (λ (x : X). (f x ≡ a) × (g x ≡ b))
determined-by-two f g back is a b x y p q = sym (is x) ∙ (λ i. back ((p.0 ∙ sym q.0) i) ((p.1 ∙ sym q.1) i)) ∙ is y

pub determined-by-three : {X A B C : Type 0} (f : X → A) (g : X → B) (h : X → C) (back : A → B → C → X)
    → ((x : X) → back (f x) (g x) (h x) ≡ x) → (a : A) (b : B) (c : C) → Determines (λ (x : X). (f x ≡ a) × (g x ≡ b) × (h x ≡ c))
determined-by-three f g h back is a b c x y p q =
    sym (is x) ∙ (λ i. back ((p.0 ∙ sym q.0) i) ((p.1 ∙ sym q.1) i) ((p.2 ∙ sym q.2) i)) ∙ is y
