-- The exported size of a place is the one that its layout in memory has. Assumes nothing.
use mathlib.Core.Path.{◌≡◌, refl}
use denote.Memory.{mem}
use Rattle.sample.specs.contracts.Place as P
use Rattle.sizes.specs.Sizes.{place_size}

pub size_is : (mem P.the_row).size ≡ place_size
size_is = refl
