-- Refusals 1 and 2 in their order: a call is let through, or shut out. Assumes nothing.
use Rattle.gate.specs.Passes.{Through}
use Rattle.std.specs.Prelude.{ℕ, ◌+◌, ◌*◌, ◌<◌, ◌≤◌, Err}
use Rattle.laws.specs.Rows.{◌⇒◌⁏◌, ◌or◌, ◌<?◌}
use Rattle.paper.specs.Limits.{sample_most, desks_most, finished_most, head_size, marks_each, store_size}
use Rattle.paper.specs.declared.Refusal.TheVariants as R
use Rattle.memory.specs.Relay.{stranger, lacks}
use Rattle.gate.specs.Passes.{Gate}

unfoldable pub gate_of : (n table rows marks stores desk out : ℕ) → Gate
gate_of n table rows marks stores desk out =
    stranger n desk or lacks n table rows marks stores ⇒ Err R.Desk
    ⁏ out <? sample_most ⇒ Err R.Output
    ⁏ Through

-- what is lent holds all of the desk's own things
abbrev pub Holds : (desk rows marks stores : ℕ) → Type 0
Holds desk rows marks stores =
    (desk < desks_most)
    × ((finished_most * desk + finished_most ≤ rows)
    × ((head_size + marks_each * desk + marks_each ≤ marks)
    × (store_size * desk + store_size ≤ stores)))
