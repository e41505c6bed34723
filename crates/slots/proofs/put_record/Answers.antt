-- `slots::put_record` meets its contract: past the end nothing is stored. Assumes nothing.
use Rattle.std.specs.Prelude.{◌*◌, ◌≤◌, ◌≡◌, ◌⊎◌, length}
use Rattle.std.proofs.Common.{arith, sym, ◌∙◌}
use Rattle.std.proofs.Math.Logic.{⊎_elim}
use Rattle.std.proofs.lemmas.Grind.{common_steps}
use Rattle.laws.specs.Region.{sets-full}
use Rattle.paper.specs.Limits.{record_size}
use Rattle.slots.proofs.put_record.Goals as goal

pub returns : goal.returns
returns c =
    let a = c.args in
    let m = c.saturating_mul.result in
    let each : (m ≡ record_size * a.i) ⊎ ((length a.store.now ≤ m) × (length a.store.now ≤ record_size * a.i)) = grind (arith, common_steps) in
    ⊎_elim
    (λ e. c.put.ensures ∙ rw e)
    (λ h. c.put.ensures ∙ sets-full a.r.now a.store.now m h.0 ∙ sym (sets-full a.r.now a.store.now (record_size * a.i) h.1)) each
