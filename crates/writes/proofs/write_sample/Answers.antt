-- `writes::write_sample` meets its contract: refusal 12 first; then the sample is cut, or goes out whole. Assumes nothing.
use Rattle.std.specs.Prelude.{◌<◌, ◌≡◌, ◌⊎◌, length}
use Rattle.std.proofs.Common.{arith, sym, ◌∙◌, length-append}
use Rattle.std.proofs.Math.Logic.{⊎_elim}
use Rattle.std.proofs.lemmas.Grind.{common_steps}
use Rattle.writer.specs.Lent.{caption_of}
use Rattle.writer.proofs.Returns.{writable, returns-12, returns-none, returns-14, returns-payload, long-yes, long-no, whole-uncut, whole-count, whole-unit, whole-data}
use Rattle.writes.proofs.write_sample.Goals as goal

pub returns-then-is_unwritable : goal.returns-then-is_unwritable
returns-then-is_unwritable c =
    let a = c.args in
    returns-12 (caption_of a.c.now) a.m a.number a.out.now (sym c.is_unwritable.ensures ∙ c.if-is_unwritable.true)

pub overflow_add-slen : goal.overflow_add-slen
overflow_add-slen c =
    let a = c.args in
    let w = writable (caption_of a.c.now) a.m (length a.out.now) (sym c.is_unwritable.ensures ∙ c.if-is_unwritable.false) in
    omega (arith, w.small)

pub write_cut-requires : goal.write_cut-requires
write_cut-requires c =
    let a = c.args in
    let z = caption_of a.c.now in
    let n = sym c.is_unwritable.ensures ∙ c.if-is_unwritable.false in
    let m = long-yes z a.m (omega (arith, length-append z.string z.modifiers)) in
    record { out_value = n; writable = writable z a.m (length a.out.now) n; m_value = m }

pub returns-then-number-ne1 : goal.returns-then-number-ne1
returns-then-number-ne1 c =
    let a = c.args in
    let z = caption_of a.c.now in
    let n = sym c.is_unwritable.ensures ∙ c.if-is_unwritable.false in
    let l = long-no z a.m (omega (arith, length-append z.string z.modifiers)) in
    let each : (a.number ≡ 0) ⊎ (1 < a.number) = grind (arith, common_steps) in
    ⊎_elim
    (λ h. returns-none z a.m a.number a.out.now n (whole-uncut z a.m l) h)
    (λ h. returns-14 z a.m a.number a.out.now n (whole-uncut z a.m l) (omega arith) (omega (arith, whole-count z a.m l))) each

pub write_whole-len-requires : goal.write_whole-len-requires
write_whole-len-requires c =
    let a = c.args in
    (writable (caption_of a.c.now) a.m (length a.out.now) (sym c.is_unwritable.ensures ∙ c.if-is_unwritable.false)).small

pub returns : goal.returns
returns c =
    let a = c.args in
    let z = caption_of a.c.now in
    let n = sym c.is_unwritable.ensures ∙ c.if-is_unwritable.false in
    let l = long-no z a.m (omega (arith, length-append z.string z.modifiers)) in
    let y = c.write_whole-len.ensures in
    returns-payload z a.m a.number a.out.now n (whole-uncut z a.m l) (omega (arith, c.if-number-ne1.false)) 1 (sym (whole-count z a.m l))
    (omega (arith, c.if-number-ne1.false)) _ (sym (whole-unit z a.m l a.number)) _ (sym (whole-data z a.m l a.number)) _
    y.size _ y.out
