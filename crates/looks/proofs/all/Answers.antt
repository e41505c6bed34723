-- `looks::all` meets its contract. Assumes nothing.
use Rattle.std.proofs.Common.{ℕ, min, refl, ap, ◌∙◌, arith}
use Rattle.laws.specs.Rows.{yes, no, lt, ge}
use Rattle.paper.specs.Limits.{places}
use Rattle.looks.specs.Looks.{reach_of}
use Rattle.looks.proofs.all.Goals as goal

pub returns-else-n-gt-DESKS_MOST : goal.returns-else-n-gt-DESKS_MOST
unfolding reach_of
returns-else-n-gt-DESKS_MOST c =
    let e = c.desks_of-n.ensures in
    no _ _ (ge _ _ (omega (arith, e))) (c.min.ensures ∙ ap (λ (n : ℕ). min (places n) c.args.len) e)

pub returns-then-n-gt-DESKS_MOST : goal.returns-then-n-gt-DESKS_MOST
unfolding reach_of
returns-then-n-gt-DESKS_MOST c = yes _ _ (lt _ _ (omega (arith, c.desks_of-n.ensures))) refl
