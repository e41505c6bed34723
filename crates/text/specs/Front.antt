-- What a list of bytes begins with, and when a rule finds exactly that. Assumes nothing.
use Rattle.std.specs.Prelude.{ℕ, ◌≡◌, true, List, length, take}
use Rattle.text.specs.Unicode.{scalar}

-- s begins with n bytes that are the encoding x of a scalar value
pub record Front (x : ℕ → List ℕ) (s : List ℕ) (n : ℕ) : Type 0 where
  pub value : ℕ
  pub good : scalar value ≡ true
  pub size : n ≡ length (x value)
  pub front : take n s ≡ x value
