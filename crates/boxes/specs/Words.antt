-- What the cases of `Found` stand for: each one's place in the list, and the values that come with it. Assumes nothing.
use Rattle.std.specs.Prelude.{ℕ, List, [], ◌∷◌, Some, None, Ok, Err}
use Rattle.paper.specs.Words.{number_of}
use Rattle.boxes.specs.Found.{Found}

abbrev pub found_kind : Found → ℕ
found_kind (Ok None) = 0
found_kind (Ok (Some t)) = 1
found_kind (Err r) = 2

-- a box has its type, a refusal its number
abbrev pub found_values : Found → List ℕ
found_values (Ok None) = []
found_values (Ok (Some t)) = t ∷ []
found_values (Err r) = number_of r ∷ []
