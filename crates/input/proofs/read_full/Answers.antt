-- `input::read_full` meets its contract. Assumes nothing.
use Rattle.std.specs.Prelude.{Option, None, Some}
use Rattle.std.proofs.Common.{ℕ, ◌≡◌, ◌≤◌, ◌+◌, arith, rules, sym, subst, ap, ◌∙◌, List, length, ◌++◌, take, length-take, append_assoc}
use Rattle.std.proofs.Math.Seq.{take-append-add}
use Rattle.std.proofs.lemmas.List.{take-append-le}
use Rattle.std.specs.Io.KnownBytes.{Consumes}
use Rattle.input.proofs.read_full.Goals as goal

-- two reads are one read of the bytes of both
consumed-twice : (a b c : Option (List ℕ)) (xs ys : List ℕ) → Consumes a b xs → Consumes b c ys → Consumes a c (xs ++ ys)
consumed-twice None b c xs ys p q = tt
consumed-twice (Some u) None c xs ys p q = absurd p
consumed-twice (Some u) (Some v) None xs ys p q = absurd q
consumed-twice (Some u) (Some v) (Some w) xs ys p q = p ∙ ap (λ (z : List ℕ). xs ++ z) q ∙ sym (append_assoc xs ys w)

-- what is read behind the front of a buffer stands behind it
behind : (k n : ℕ) (l read rest : List ℕ) → k ≤ length l → n ≤ length read
    → take (k + n) (take k l ++ (read ++ rest)) ≡ take k l ++ take n read
behind k n l read rest h q =
    let e : length (take k l) ≡ k = simp length-take (omega arith) in
    let P : ℕ → Type 0 = λ m. take (m + n) (take k l ++ (read ++ rest)) ≡ take k l ++ take n read in
    subst P e (take-append-add (take k l) (read ++ rest) n ∙ ap (λ (z : List ℕ). take k l ++ z) (take-append-le n read rest q))

pub loop-done-preserved : goal.loop-done-preserved
loop-done-preserved g c =
    let l = c.loop-done in
    let known = g.R.Read.remaining in (
      search rules,
      rw (behind l.done c.in_ok-n.n l.buf c.read.new.buf _ l.invariant.0 c.in_ok-n.ensures.bound.0)
          (consumed-twice (known c.args.input.now) (known l.input) (known c.read.new.self) _ _ l.invariant.1 c.in_ok-n.ensures.bytes.0),
    )
