-- What set-up answers: the relay is ready, or why not. Assumes nothing.
use Rattle.std.specs.Prelude.{Result, Ok, ⊤}
use Rattle.paper.specs.declared.Refusal.{Refusal}

abbrev pub Started : Type 0
Started = Result ⊤ Refusal

abbrev pub Ready : Started
Ready = Ok tt
