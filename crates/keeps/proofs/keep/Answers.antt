-- `keeps::keep` meets its contract: the bytes are what `octets::put` leaves, and the rest is stored as it stands. Assumes nothing.
use Rattle.std.proofs.Common.{ℕ, ◌+◌, ◌-◌, ◌*◌, ◌%◌, ◌^◌, ◌≤◌, ◌≡◌, min, length, refl, arith}
use native.Mathlib.Nat.{one-mul, mod-eq_of_lt}
use lib.Pow.{pow-lt}
use Rattle.laws.specs.Rows.{yes, no, eq, ne}
use Rattle.paper.specs.Limits.{parts_most, sample_most}
use Rattle.sample.specs.Place.{told_with, telling, laid, kept}
use Rattle.sample.specs.Turns.{outside-none, outside-far, inside}
use Rattle.keeps.proofs.keep.Goals as goal
use Rattle.keeps.proofs.keep.Goals.{then-x-eq0-via-then-x-eq0, then-x-eq0-via-else-x-eq0+then-x-gt-PARTS_MOST, else-not-p-via-then-not-p+else-x-eq2, else-not-p-via-else-not-p}

bit : (THIS : ℕ) → THIS ≤ parts_most → 1 * 2 ^ (THIS - 1) % 4294967296 ≡ 2 ^ (THIS - 1)
bit THIS h = rw one-mul (mod-eq_of_lt (pow-lt {j = 32} (omega arith)))

pub returns-then-x-eq0 : goal.returns-then-x-eq0
unfolding kept
returns-then-x-eq0 c =
    elim c.then-x-eq0.branch [
      | then-x-eq0-via-then-x-eq0 w ↦ yes _ _ (outside-none _ w.if-x-eq0.true) refl
      | then-x-eq0-via-else-x-eq0+then-x-gt-PARTS_MOST w ↦ yes _ _ (outside-far _ w.if-x-gt-PARTS_MOST.true) refl
    ]

pub returns-then-x-eq2 : goal.returns-then-x-eq2
unfolding kept laid telling told_with
returns-then-x-eq2 c =
    let filled : c.min-p.result ≡ min (c.args.p.now.filled + length c.args.d.now) sample_most = omega arith in
    no _ _ (inside _ (omega arith) c.if-x-gt-PARTS_MOST.false)
    (no _ _ c.if-not-p.true (yes _ _ (eq _ _ c.if-x-eq2.true) (rw (bit _ c.if-x-gt-PARTS_MOST.false, filled, c.put.ensures))))

pub returns-else-not-p : goal.returns-else-not-p
unfolding kept laid telling
returns-else-not-p c =
    let filled : c.min-p.result ≡ min (c.args.p.now.filled + length c.args.d.now) sample_most = omega arith in
    no _ _ (inside _ (omega arith) c.if-x-gt-PARTS_MOST.false)
    (elim c.else-not-p.branch [
      | else-not-p-via-then-not-p+else-x-eq2 w ↦
          no _ _ w.if-not-p.true (no _ _ (ne _ _ w.if-x-eq2.false) (rw (bit _ c.if-x-gt-PARTS_MOST.false, filled, c.put.ensures)))
      | else-not-p-via-else-not-p w ↦ yes _ _ w.if-not-p.false (rw (bit _ c.if-x-gt-PARTS_MOST.false, filled, c.put.ensures))
    ])
