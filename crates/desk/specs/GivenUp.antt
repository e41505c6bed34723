-- What a give-up answers: the sample is freed, or why not. Assumes nothing.
use Rattle.std.specs.Prelude.{Result, Ok, ⊤}
use Rattle.paper.specs.declared.Refusal.{Refusal}

abbrev pub GivenUp : Type 0
GivenUp = Result ⊤ Refusal

abbrev pub Freed : GivenUp
Freed = Ok tt
