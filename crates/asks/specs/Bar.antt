-- Whether a part may open a sample, or what bars it. Assumes nothing.
use Rattle.std.specs.Prelude.{Result, Ok, ⊤}
use Rattle.paper.specs.declared.Refusal.{Refusal}

abbrev pub Bar : Type 0
Bar = Result ⊤ Refusal

abbrev pub Free : Bar
Free = Ok tt
