-- `numbers::put_all` meets its contract. A place that `saturating_add` answers for a larger one is past the end of any row.
-- Assumes nothing.
use Rattle.std.proofs.Common.{ℕ, ◌≡◌, ◌≤◌, ◌<◌, ◌+◌, min, arith, rules, sym, ◌∙◌, List, length}
use Rattle.std.proofs.Common.{set, drop, add-zero, add-one, add-suc, length-drop}
use Rattle.std.proofs.Math.Decide.{dec_lt}
use Rattle.std.proofs.Math.Seq.{set_out}
use Rattle.laws.specs.Region.{sets-turn, sets-stop}
use Rattle.numbers.proofs.put_all.Goals as goal

saturated : (l : List ℕ) (n most v : ℕ) → length l ≤ most → set l (min n most) v ≡ set l n v
saturated l n most v h = go (dec_lt n most)
  where
    go : Dec (n < most) → set l (min n most) v ≡ set l n v
    go (yes q) = let e : min n most ≡ n = omega arith in rw e
    go (no q) = set_out l (min n most) v (omega arith) ∙ sym (set_out l n v (omega arith))

pub loop-k-init : goal.loop-k-init
loop-k-init c = simp add-zero

pub loop-k-preserved : goal.loop-k-preserved
loop-k-preserved c =
    let h : length c.loop-k.row ≤ 18446744073709551615 = search rules in
    let l = c.loop-k in
    let a = c.args in
    l.invariant ∙ rw (c.put_at.ensures, c.saturating_add.ensures, saturated l.row (a.at + l.k) 18446744073709551615 _ h)
    (simp (add-one, add-suc) (sets-turn l.row (a.at + l.k) a.values.now l.k 0 c.loop-k-test.true))

pub returns : goal.returns
returns c =
    let l = c.loop-k in
    sym (l.invariant ∙ sets-stop (drop l.k c.args.values.now) l.row (c.args.at + l.k) (simp length-drop (omega arith)))
