-- `counts::count` meets its contract: a turn counts one place more, and a count is no more than the places passed. Assumes nothing.
use Rattle.std.proofs.Common.{ℕ, ◌+◌, ◌≡◌, ◌∙◌, ap, refl, arith, take, length}
use Rattle.std.proofs.lemmas.List.{take_all}
use Rattle.laws.specs.Region.{take_min}
use Rattle.laws.specs.Table.{bit, count}
use Rattle.table.specs.Table.{bears}
use Rattle.table.specs.Turn.{count-more}
use Rattle.table.proofs.Facts.{passed-next}
use Rattle.counts.proofs.Facts.{bit-small, one-bit, counted-small}
use Rattle.counts.proofs.count.Goals as goal

pub loop-p-init : goal.loop-p-init
loop-p-init c = (ap (λ (k : ℕ). take k c.args.t.now) c.min.ensures ∙ take_min c.args.t.now c.args.m, refl)

pub overflow_add-c : goal.overflow_add-c
overflow_add-c c =
    let small = counted-small (bears c.args.who) _ c.loop-p.p-index c.loop-p.c (omega arith) c.loop-p.invariant.1 in
    let one = bit-small _ _ (c.from-c.ensures ∙ one-bit c.bears.result) in
    omega (arith, small, one)

pub loop-p-preserved : goal.loop-p-preserved
loop-p-preserved c =
    let w = c.args.who in (
      c.loop-p.invariant.0,
      ap (λ (k : ℕ). c.loop-p.c + k) (c.from-c.ensures ∙ one-bit _ ∙ ap bit c.bears.ensures)
          ∙ passed-next (count (bears w)) (λ r y. r + bit (bears w y)) (count-more (bears w)) _ _ c.loop-p.p-index c.loop-p.c (omega arith)
          c.loop-p.invariant.1,
    )

pub returns : goal.returns
returns c =
    let l = take c.min.result c.args.t.now in
    c.loop-p.invariant.1 ∙ ap (count (bears c.args.who)) (take_all c.loop-p.p-index l (omega arith) ∙ c.loop-p.invariant.0)
