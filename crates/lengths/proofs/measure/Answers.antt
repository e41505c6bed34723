-- `lengths::measure` meets its contract. The invariant: what is counted and what is left make all. Assumes nothing.
use Rattle.std.proofs.Common.{ℕ, ◌+◌, ◌≡◌, ap, sym, ◌∙◌, refl, add-zero, length, get_or, length-append, arith}
use Rattle.laws.specs.Rows.{◌⇒◌⁏◌, ◌=?◌, yes, no, eq, ne}
use Rattle.laws.specs.Region.{part}
use Rattle.joining.specs.Joining.{together, string_of}
use Rattle.sample.specs.Place.{pieces_in, pieces_of}
use Rattle.sample.specs.Turns.{length-part-all, together-turn, together-end, string-turn, string-end}
use Rattle.lengths.proofs.measure.Goals as goal
use Rattle.lengths.proofs.measure.Goals.{then-p-k-eq2, else-p-k-eq2}

pub loop-k-preserved : goal.loop-k-preserved
loop-k-preserved c =
    let l = c.loop-k in
    let p = c.args.p.now in
    let n = c.min-n.result in
    let here = part (get_or p.starts l.k 0) (get_or p.lens l.k 0) p.bytes in
    let share : ℕ = get_or p.kinds l.k 0 =? 2 ⇒ length here ⁏ 0 in
    let is = ap length c.cut-many.ensures in
    let few = length-part-all (get_or p.starts l.k 0) (get_or p.lens l.k 0) p.bytes in
    let string = string-turn p.kinds p.starts p.lens p.bytes l.k n (omega arith) share refl in
    let sample = simp length-append at (ap length (together-turn p.kinds p.starts p.lens p.bytes l.k n (omega arith))) in
    let more : c.if-p-k-eq2.string ≡ l.string + (get_or p.kinds l.k 0 =? 2 ⇒ length here ⁏ 0) =
    elim c.if-p-k-eq2.branch [
      | then-p-k-eq2 w ↦ w.string-is ∙ ap (λ (m : ℕ). l.string + m) (yes _ _ (eq _ _ w.if-p-k-eq2.true) is)
      | else-p-k-eq2 w ↦ w.string-is ∙ sym (add-zero l.string) ∙ ap (λ (m : ℕ). l.string + m) (no _ _ (ne _ _ w.if-p-k-eq2.false) refl)
    ] in
    record {
      string_most = elim c.if-p-k-eq2.branch [ then-p-k-eq2 w ↦ omega (arith, w.string-is, is, few) | else-p-k-eq2 w ↦ omega (arith, w.string-is) ];
      sample_most = omega (arith, is, few);
      string = omega (arith, string, more);
      sample = omega (arith, is, sample);
    }

pub returns : goal.returns
unfolding pieces_of
returns c =
    let l = c.loop-k in
    let p = c.args.p.now in
    let n = c.min-n.result in
    let string : length (string_of (pieces_in p.kinds p.starts p.lens p.bytes 1 n)) ≡ l.string =
    omega (arith, rw (string-end p.kinds p.starts p.lens p.bytes l.k n (omega arith)) at l.invariant.string) in
    let sample : length (together (pieces_in p.kinds p.starts p.lens p.bytes 1 n)) ≡ l.sample =
    omega (arith, rw (together-end p.kinds p.starts p.lens p.bytes l.k n (omega arith)) at l.invariant.sample) in
    rw (← c.min-n.ensures) (sym string, sym sample)
