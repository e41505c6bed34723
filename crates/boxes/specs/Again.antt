-- 'Box again': a box that is put down is found as what it is, whatever stands before it and follows it, and boxes put down one after
-- the other are walked as that list. Assumes nothing.
use Rattle.std.specs.Prelude.{ℕ, ◌+◌, ◌<◌, List, [], ◌∷◌, ◌++◌, None, Ok}
use Rattle.std.proofs.Math.ListN.{length}
use Rattle.octets.specs.Be.{be32}
use Rattle.boxes.specs.Step.{header_size}
use Rattle.boxes.specs.Walk.{Shown, Walk}

-- ---- a box by its type and contents: the size, which counts the header too, the type, the contents
abbrev pub box_head : (type : ℕ) → (contents : List ℕ) → List ℕ
box_head type contents = be32 (header_size + length contents) ++ be32 type

abbrev pub box_of : (type : ℕ) → (contents : List ℕ) → List ℕ
box_of type contents = box_head type contents ++ contents

-- 32 bits
abbrev pub numbers32 : ℕ
numbers32 = 4294967296

-- ---- boxes one after the other
pub record Put : Type 0 where
  pub type : ℕ
  pub contents : List ℕ
  pub small : type < numbers32
  pub fits : header_size + length contents < numbers32

abbrev pub boxes_of : List Put → List ℕ
boxes_of [] = []
boxes_of (b ∷ bs) = box_of b.type b.contents ++ boxes_of bs

-- each as the walk shows it
abbrev pub shown_of : List Put → List Shown
shown_of [] = []
shown_of (b ∷ bs) = record { header = box_head b.type b.contents; contents = b.contents } ∷ shown_of bs

abbrev pub walked_as : List Put → Walk
walked_as bs = record { boxes = shown_of bs; ended = (Ok None) }
