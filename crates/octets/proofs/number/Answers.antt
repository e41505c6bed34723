-- `octets::number` meets its contract: one byte more, turn by turn. Assumes nothing.
use Rattle.std.proofs.Common.{◌≡◌, ◌≤◌, ◌^◌, ◌+◌, add-one, sym, arith, ◌∙◌, drop}
use Rattle.std.proofs.lemmas.List.{get_or-drop, take_rest}
use Rattle.std.proofs.lemmas.Grind.{common_steps}
use Rattle.std.proofs.Math.Nat.{pow-le-pow_right, pow-suc}
use Rattle.octets.specs.Be.{u8_at, be_more}
use Rattle.octets.proofs.number.Goals as goal

pub overflow_mul-number : goal.overflow_mul-number
overflow_mul-number g c = let p : 256 ^ c.loop-k.k ≤ 256 ^ 7 = pow-le-pow_right (omega arith) {j = 7} (omega arith) in omega arith

pub overflow_add-number : goal.overflow_add-number
overflow_add-number g c = let p : 256 ^ c.loop-k.k ≤ 256 ^ 7 = pow-le-pow_right (omega arith) {j = 7} (omega arith) in omega arith

pub loop-k-preserved : goal.loop-k-preserved
loop-k-preserved g c =
    let a = c.args in
    let l = c.loop-k in
    let t : c.unwrap_or-bytes.result.now ≡ drop a.i a.s.now = grind (arith, common_steps, take_rest) in
    let b : c.byte.result ≡ u8_at a.s.now (a.i + l.k) = c.byte.ensures.0 ∙ rw t (get_or-drop a.i a.s.now l.k 0) in
    (rw (l.invariant.0, b, add-one l.k) (sym (be_more l.k a.s.now a.i)), rw (add-one l.k, pow-suc 256 l.k) (omega arith))
