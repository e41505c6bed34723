-- One step of the box walk: what stands at a place of the modifiers, and where the next box is. Assumes nothing.
use Rattle.std.specs.Prelude.{ℕ, ◌+◌, ◌-◌, ◌≤◌, ◌≡◌, refl, List, length, Some, Ok, Err}
use Rattle.std.proofs.Common.{arith, ap}
use Rattle.laws.specs.Rows.{each, eq_of, ge-of}
use Rattle.laws.specs.Region.{part}
use Rattle.paper.specs.Words.{number_of}
use Rattle.paper.specs.declared.Refusal.{Refusal}
use Rattle.boxes.specs.Found.{Found}
use Rattle.boxes.specs.declared.Stepped.{Stepped}
use Rattle.boxes.specs.Step.{header_size, size_at, type_at, finds, step_of, shows, contents_of, Says}

-- ---- in the code's own values
-- the size and the type that were read
pub box-is : (m : List ℕ) (at size type : ℕ) → size ≡ size_at m at → type ≡ type_at m at
    → finds (Ok (Some type)) (at + size) ≡ finds (Ok (Some (type_at m at))) (at + size_at m at)
box-is m at size type e f = rw (e, f)

-- s is what the step answered, and f what it found
pub contents-is : (m : List ℕ) (at : ℕ) (s : Stepped) (f : Found) → s ≡ step_of m at → s.found ≡ f
    → shows f (part (at + header_size) (size_at m at - header_size) m) ≡ contents_of m at
unfolding contents_of
contents-is m at s f e g = rw (← e, g)

pub step-says : (m : List ℕ) (at : ℕ) → Says m at (step_of m at).found (step_of m at).next
unfolding step_of
step-says m at =
    let P : Stepped → Type 0 = λ s. Says m at s.found s.next in
    each P _ _ _ (λ h. refl)
    (λ h1. each P _ _ _ (λ h. eq_of _ _ h)
    (λ h2. each P _ _ _ (λ h. refl)
    (λ h3. each P _ _ _ (λ h. refl)
    (λ h4. each P _ _ _ (λ h. refl)
    (λ h5. (refl, (ge-of _ _ h4, ge-of _ _ h5)))))))

-- the next place lies behind the header and not beyond the end, so a walk ends
pub further : (m : List ℕ) (at : ℕ) {t : ℕ} → (step_of m at).found ≡ Ok (Some t) → (at + header_size ≤ (step_of m at).next) × ((step_of m at).next ≤ length m)
further m at {t} e = let w : Says m at (Ok (Some t)) (step_of m at).next = rw e at (step-says m at) in (omega arith, omega arith)

pub refusal-15 : (m : List ℕ) (at : ℕ) {r : Refusal} → (step_of m at).found ≡ Err r → number_of r ≡ 15
refusal-15 m at {r} e = let w : Says m at (Err r) (step_of m at).next = rw e at (step-says m at) in ap number_of w
