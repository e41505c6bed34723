-- The whole walk, box after box, and that nothing of the modifiers is lost in it. Assumes nothing.
use Rattle.std.specs.Prelude.{ℕ, zero, suc, ◌+◌, ◌-◌, ◌≤◌, refl, List, [], ◌++◌, length, drop, Some, None, Ok, Err}
use Rattle.std.proofs.Common.{arith, ap, sym, ◌∙◌, inl, inr, take-append-drop, drop_of_length-le, drop-drop}
use Rattle.std.proofs.Math.Path.{◌≡◌}
use Rattle.laws.specs.Region.{part}
use Rattle.boxes.specs.Found.{Found}
use Rattle.boxes.specs.Step.{header_size, size_at, step_of, contents_of, Says}
use Rattle.boxes.proofs.Stepping.{contents-is, step-says, further}
use Rattle.boxes.specs.Walk.{shown, Walk, onward, walk_of, walk, together, Stops}

-- ---- a walk that reaches the end has shown all of the modifiers
-- the h elements from a on, what stands between them and s, and the rest
again : (xs : List ℕ) (a h s : ℕ) → h ≤ s → part a h xs ++ (part (a + h) (s - h) xs ++ drop (a + s) xs) ≡ drop a xs
again xs a h s le =
    let q : a + s ≡ a + h + (s - h) = omega arith in
    ap (λ (n : ℕ). part a h xs ++ (part (a + h) (s - h) xs ++ drop n xs)) q
    ∙ ap (λ (l : List ℕ). part a h xs ++ (part (a + h) (s - h) xs ++ l)) (sym (drop-drop (s - h) (a + h) xs))
    ∙ ap (λ (l : List ℕ). part a h xs ++ l) (take-append-drop (s - h) (drop (a + h) xs) ∙ sym (drop-drop h a xs))
    ∙ take-append-drop h (drop a xs)

module _ (m : List ℕ) (at : ℕ) where
  -- at the end nothing is left
  end-again : (step_of m at).found ≡ (Ok None) → [] ≡ drop at m
  end-again e =
      let w : Says m at (Ok None) (step_of m at).next = rw e at (step-says m at) in
      sym (drop_of_length-le m {i = at} (omega arith))

  -- a box is its header and its contents, and the rest starts at the next place
  box-again : (t : ℕ) → (step_of m at).found ≡ Ok (Some t) → part at header_size m ++ (contents_of m at ++ drop (step_of m at).next m) ≡ drop at m
  box-again t e =
      let w : Says m at (Ok (Some t)) (step_of m at).next = rw e at (step-says m at) in
      rw (← (contents-is m at (step_of m at) (Ok (Some t)) refl e), w.0) (again m at header_size (size_at m at) w.1.0)

  walked_on : (f : Found) (w : Walk) → (step_of m at).found ≡ f
      → (w.ended ≡ (Ok None) → together w.boxes ≡ drop (step_of m at).next m)
      → (onward f (shown m at) w).ended ≡ (Ok None) → together (onward f (shown m at) w).boxes ≡ drop at m
  unfolding together
  walked_on (Ok None) w e k h = end-again e
  walked_on (Ok (Some t)) w e k h = rw (k h) (box-again t e)
  walked_on (Err r) w e k h = let z : ◌≡◌ {A = ℕ} 0 1 = cc in absurd (omega arith)

walked-of : (n : ℕ) (m : List ℕ) (at : ℕ) → (walk_of n m at).ended ≡ (Ok None) → together (walk_of n m at).boxes ≡ drop at m
unfolding walk_of together
walked-of zero m at h = end-again m at h
walked-of (suc n) m at h = walked_on m at (step_of m at).found (walk_of n m (step_of m at).next) refl (walked-of n m (step_of m at).next) h

-- from place 0: the modifiers again
pub walked : (m : List ℕ) (at : ℕ) → (walk m at).ended ≡ (Ok None) → together (walk m at).boxes ≡ drop at m
walked m at h = walked-of (length m) m at h

module _ (m : List ℕ) (at : ℕ) where
  stops_at : (f : Found) → (step_of m at).found ≡ f → ((t : ℕ) → f ≡ Ok (Some t) → ⊥) → Stops f
  stops_at (Ok None) e k = inl refl
  stops_at (Ok (Some t)) e k = absurd (k t refl)
  stops_at (Err r) e k = inr (ap Err (rw e at (step-says m at)))

  stops-on : (f : Found) (w : Walk) → (step_of m at).found ≡ f → ((t : ℕ) → f ≡ Ok (Some t) → Stops w.ended) → Stops (onward f (shown m at) w).ended
  stops-on (Ok None) w e k = inl refl
  stops-on (Ok (Some t)) w e k = k t refl
  stops-on (Err r) w e k = inr (ap Err (rw e at (step-says m at)))

stops-of : (n : ℕ) (m : List ℕ) (at : ℕ) → length m ≤ at + n → Stops (walk_of n m at).ended
unfolding walk_of
stops-of zero m at h = stops_at m at (step_of m at).found refl (λ t e. omega (arith, further m at e))
stops-of (suc n) m at h =
    stops-on m at (step_of m at).found (walk_of n m (step_of m at).next) refl
    (λ t e. stops-of n m (step_of m at).next (omega (arith, further m at e)))

pub stops : (m : List ℕ) (at : ℕ) → Stops (walk m at).ended
stops m at = stops-of (length m) m at (omega arith)
