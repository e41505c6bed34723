-- `gate::is_stranger` meets its contract. Assumes nothing.
use Rattle.std.proofs.Common.{ℕ, ◌≡◌, ◌∙◌, sym, not, leb, arith}
use Rattle.std.proofs.lemmas.Bool.Decides.{nat_tests}
use Rattle.laws.specs.Rows.{◌<?◌, yes, no}
use Rattle.memory.specs.Relay.{stranger}
use Rattle.gate.proofs.is_stranger.Goals as goal

not_below : (n desk : ℕ) → leb n desk ≡ not (desk <? n)
unfolding ◌<?◌
not_below n desk = grind (arith, nat_tests)

pub returns-then-is_improper : goal.returns-then-is_improper
unfolding stranger
returns-then-is_improper c = yes _ _ (sym c.is_improper.ensures ∙ c.if-is_improper.true) c.if-is_improper.true

pub returns-else-is_improper : goal.returns-else-is_improper
unfolding stranger
returns-else-is_improper c = no _ _ (sym c.is_improper.ensures ∙ c.if-is_improper.false) (not_below c.args.n c.args.desk)
