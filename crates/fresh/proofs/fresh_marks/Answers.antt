-- `fresh::fresh_marks` meets its contract: the head, and then the desks' own marks. Assumes nothing.
use Rattle.std.proofs.Common.{ℕ, List, refl, ap, ◌∙◌, arith}
use Rattle.std.proofs.lemmas.List.Edits.{sets}
use Rattle.laws.specs.Rows.{yes, no, eq, ne}
use Rattle.paper.specs.Limits.{head_size}
use Rattle.memory.specs.Relay.{own_marks}
use Rattle.fresh.specs.Fresh.{made_marks}
use Rattle.fresh.specs.Start.{marks-made}
use Rattle.fresh.proofs.fresh_marks.Goals as goal

pub returns-else-n-gt0 : goal.returns-else-n-gt0
unfolding made_marks
returns-else-n-gt0 c = yes _ _ (eq _ _ (omega arith)) refl

pub returns-then-n-gt0 : goal.returns-then-n-gt0
unfolding made_marks
returns-then-n-gt0 c =
    let a = c.args in
    no _ _ (ne _ _ (λ h. omega arith))
    (c.put_own.ensures ∙ ap (λ (l : List ℕ). sets l head_size (own_marks a.n)) c.put_head.ensures
    ∙ marks-made a.n a.marks.now)
