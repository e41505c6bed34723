-- Whether a call goes through to the desk, or why not. Assumes nothing.
use Rattle.std.specs.Prelude.{Result, Ok, ⊤}
use Rattle.paper.specs.declared.Refusal.{Refusal}

abbrev pub Gate : Type 0
Gate = Result ⊤ Refusal

abbrev pub Through : Gate
Through = Ok tt
