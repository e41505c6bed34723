-- `gate::is_improper` meets its contract: none, or more than eight. Assumes nothing.
use Rattle.std.proofs.Common.{ℕ, ◌≡◌, refl, ap, ◌∙◌, arith, rules, tests, Bool, true, false, not, cond, leb, ltb, eqb, ◌&&◌}
use Rattle.std.proofs.lemmas.Bool.Decides.{nat_tests}
use Rattle.laws.specs.Rows.{◌⇒◌⁏◌, ◌<?◌, ◌=?◌}
use Rattle.memory.specs.Relay.{improper}
use Rattle.gate.proofs.is_improper.Goals as goal

outside : (n : ℕ) → not (leb 1 n && leb n 8) ≡ cond (eqb n 0) true (ltb 8 n)
outside n = grind (arith, nat_tests)

row : (a b : Bool) → cond a true b ≡ (a ⇒ true ⁏ b)
unfolding ◌⇒◌⁏◌
row true b = refl
row false b = refl

pub returns : goal.returns
unfolding improper ◌<?◌ ◌=?◌
returns c =
    let n = c.args.n in
    let told : c.contains.result ≡ (leb 1 n && leb n 8) = search (rules, tests) in
    ap not told ∙ outside n ∙ row (eqb n 0) (ltb 8 n)
