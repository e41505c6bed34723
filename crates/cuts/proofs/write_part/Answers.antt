-- `cuts::write_part` meets its contract: each return is one of the laws of a sample whose parts are counted. Assumes nothing.
use Rattle.std.specs.Prelude.{◌<◌, ◌≤◌, ◌≡◌, ◌⊎◌, length}
use Rattle.std.proofs.Common.{arith, refl, length-append}
use Rattle.std.proofs.Math.Logic.{⊎_elim}
use Rattle.std.proofs.lemmas.Bool.Decides.{nat_tests}
use Rattle.std.proofs.lemmas.Grind.{common_steps}
use Rattle.writer.specs.Lent.{caption_of}
use Rattle.writer.proofs.Returns.{writable}
use Rattle.writer.proofs.Cuts.{cut-none, cut-past, cut-string, cut-block}
use Rattle.cuts.proofs.write_part.Goals as goal

pub returns-then-not-contains : goal.returns-then-not-contains
returns-then-not-contains c =
    let a = c.args in
    let z = caption_of a.c.now in
    let out : (a.n.this ≡ 0) ⊎ ((0 < a.n.this) × (a.n.total < a.n.this)) = grind (arith, nat_tests, common_steps) in
    ⊎_elim
    (λ h. cut-none z a.m a.n.this a.out.now a.f a.n.total c.requires h)
    (λ h. cut-past z a.m a.n.this a.out.now a.f a.n.total c.requires h.0 h.1) out

pub overflow_sub-m : goal.overflow_sub-m
overflow_sub-m c = omega (arith, (writable _ _ _ c.requires.allowed).least)

pub send_block-len-requires : goal.send_block-len-requires
send_block-len-requires c =
    let a = c.args in
    let p = c.requires in
    let v = writable (caption_of a.c.now) a.m (length a.out.now) p.allowed in
    let within : a.n.this ≤ a.n.total = grind (arith, nat_tests, common_steps) in
    (omega (arith, p.few), omega (arith, v.most))

pub returns-then-n-f : goal.returns-then-n-f
returns-then-n-f c =
    let a = c.args in
    let some : 0 < a.n.this = grind (arith, nat_tests, common_steps) in
    let within : a.n.this ≤ a.n.total = grind (arith, nat_tests, common_steps) in
    cut-string (caption_of a.c.now) a.m a.n.this a.out.now a.f a.n.total c.requires some within c.if-n-f.true _ _
    (rw length-append at c.send_string-len.ensures)

pub returns-else-n-f : goal.returns-else-n-f
returns-else-n-f c =
    let a = c.args in
    let some : 0 < a.n.this = grind (arith, nat_tests, common_steps) in
    let within : a.n.this ≤ a.n.total = grind (arith, nat_tests, common_steps) in
    cut-block (caption_of a.c.now) a.m a.n.this a.out.now a.f a.n.total c.requires some within c.if-n-f.false _ refl _ _
    c.send_block-len.ensures
