-- What the check of a style book answers: how many records it has, or why it is refused and at which. Assumes nothing.
use Rattle.std.specs.Prelude.{ℕ, Result}
use Rattle.paper.specs.declared.Refusal.{Refusal}
use Rattle.style.specs.declared.BadRecord.{BadRecord}

abbrev pub Checked : Type 0
Checked = Result ℕ BadRecord

abbrev pub bad : Refusal → ℕ → BadRecord
bad why at = record { why = why; at = at }
