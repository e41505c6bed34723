-- The whole walk, box after box, and that nothing of the modifiers is lost in it. Assumes nothing.
use Rattle.std.specs.Prelude.{ℕ, zero, suc, ◌⊎◌, List, [], ◌∷◌, ◌++◌, length, Some, None, Ok, Err}
use Rattle.std.proofs.Math.Path.{◌≡◌}
use Rattle.laws.specs.Region.{part}
use Rattle.paper.specs.declared.Refusal.TheVariants as R
use Rattle.boxes.specs.Found.{Found}
use Rattle.boxes.specs.Step.{header_size, step_of, contents_of}

-- a box as the walk shows it
pub record Shown : Type 0 where
  pub header : List ℕ
  pub contents : List ℕ

abbrev pub shown : List ℕ → ℕ → Shown
shown m at = record { header = part at header_size m; contents = contents_of m at }

-- the boxes in order, and what was found behind the last: the end, or refusal 15
pub record Walk : Type 0 where
  pub boxes : List Shown
  pub ended : Found

-- a box goes in front of the walk from the next place; anything else ends the walk
abbrev pub onward : Found → Shown → Walk → Walk
onward (Ok None) b w = record { boxes = []; ended = (Ok None) }
onward (Ok (Some t)) b w = record { boxes = b ∷ w.boxes; ended = w.ended }
onward (Err r) b w = record { boxes = []; ended = Err r }

-- n boxes at most
unfoldable pub walk_of : ℕ → List ℕ → ℕ → Walk
walk_of zero m at = record { boxes = []; ended = (step_of m at).found }
walk_of (suc n) m at = onward (step_of m at).found (shown m at) (walk_of n m (step_of m at).next)

-- from a place on: there are no more boxes than bytes
abbrev pub walk : List ℕ → ℕ → Walk
walk m at = walk_of (length m) m at

-- headers and contents, one after the other
unfoldable pub together : List Shown → List ℕ
together [] = []
together (b ∷ bs) = b.header ++ (b.contents ++ together bs)

-- ---- and a walk comes to its end: there, or at a place that is refused
abbrev pub Stops : Found → Type 0
Stops f = (f ≡ (Ok None)) ⊎ (f ≡ Err R.Box)
