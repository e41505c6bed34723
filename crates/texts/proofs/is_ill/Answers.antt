-- `texts::is_ill` meets its contract: a unit of no other kind has text. Assumes nothing.
use Rattle.std.proofs.Common.{refl, sym, ⊎_elim}
use Rattle.unit.proofs.Text.{bare-not-ill}
use Rattle.texts.proofs.is_ill.Goals as goal

pub returns-in-Description : goal.returns-in-Description
returns-in-Description c =
    ⊎_elim (λ d. rw d.1 (sym (bare-not-ill _ _ refl)))
    (⊎_elim (λ e. rw e (sym (bare-not-ill _ _ refl)))
    (⊎_elim (λ s. rw s.1 (sym (bare-not-ill _ _ refl))) (λ r. rw r.1 (sym (bare-not-ill _ _ refl)))))
    c.in-Description.is
