-- `octets::bytes` meets its contract. The invariant: the last k bytes are those of x, and the rest of x is ahead. Assumes nothing.
use Rattle.std.proofs.Common.{ℕ, ◌≡◌, ◌+◌, ◌-◌, ◌^◌, arith, sym, ap, ◌∙◌, add-one, drop_of_length-le, length-set}
use Rattle.std.proofs.Math.Nat.{pow-suc, div-div-eq-div-mul}
use Rattle.std.proofs.lemmas.List.{drop-set, length-replicate}
use Rattle.octets.specs.Be.{be_bytes, be_bytes_more}
use Rattle.octets.proofs.bytes.Goals as goal

pub loop-k-init : goal.loop-k-init
loop-k-init g c =
    let e = length-replicate {A = ℕ} g.row.N 0 in
    (e, drop_of_length-le _ {i = g.row.N - 0} (omega (arith, e)), omega arith)

pub loop-k-preserved : goal.loop-k-preserved
loop-k-preserved g c =
    let l = c.loop-k in
    let n = g.row.N in
    let x = c.args.x in
    let e : n - (l.k + 1) ≡ n - 1 - l.k = omega arith in
    let f : n - 1 - l.k + 1 ≡ n - l.k = omega arith in (
      length-set l.bytes _ _ ∙ l.invariant.0,
      rw (e, drop-set l.bytes (n - 1 - l.k) _ (omega (arith, l.invariant.0)), f, l.invariant.1, l.invariant.2, add-one l.k) (sym (be_bytes_more l.k x)),
      rw (l.invariant.2, add-one l.k, pow-suc 256 l.k) (div-div-eq-div-mul x (256 ^ l.k) 256),
    )

pub returns : goal.returns
returns g c =
    let l = c.loop-k in
    let e : l.k ≡ g.row.N = omega arith in
    let z : g.row.N - l.k ≡ 0 = omega arith in
    rw z at l.invariant.1 ∙ ap (λ (k : ℕ). be_bytes k c.args.x) e
