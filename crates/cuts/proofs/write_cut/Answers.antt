-- `cuts::write_cut` meets its contract: 13 refuses the sample, or its parts are counted. Assumes nothing.
use Rattle.std.specs.Prelude.{◌-◌, ◌<◌, ◌≡◌, length}
use Rattle.std.proofs.Common.{arith, ◌∙◌}
use Rattle.std.proofs.lemmas.Bool.Decides.{nat_tests}
use Rattle.std.proofs.lemmas.Grind.{common_steps}
use Rattle.writer.specs.Lent.{caption_of}
use Rattle.writer.proofs.Cuts.{cut-empty, cut-many, counted}
use Rattle.writer.proofs.Parts.{ceil-is}
use Rattle.cuts.proofs.write_cut.Goals as goal

pub returns-then-is_empty : goal.returns-then-is_empty
returns-then-is_empty c =
    let a = c.args in
    let none : length a.c.now.string.now ≡ 0 = grind (arith, nat_tests, common_steps) in
    cut-empty (caption_of a.c.now) a.m a.number a.out.now c.requires.out_value c.requires.m_value none

pub returns-then-total-gt-PARTS_MOST : goal.returns-then-total-gt-PARTS_MOST
returns-then-total-gt-PARTS_MOST c =
    let a = c.args in
    let room : 0 < a.m - 7 = omega (arith, c.requires.writable.least) in
    let some : length a.c.now.string.now ≡ 0 → ⊥ = λ h. grind (arith, nat_tests, common_steps) in
    cut-many (caption_of a.c.now) a.m a.number a.out.now c.requires.out_value c.requires.m_value some _
    c.find-f.ensures.0 _ (c.div_ceil.ensures ∙ ceil-is _ _ room) c.if-total-gt-PARTS_MOST.true

pub write_part-requires : goal.write_part-requires
write_part-requires c =
    let a = c.args in
    let room : 0 < a.m - 7 = omega (arith, c.requires.writable.least) in
    let some : length a.c.now.string.now ≡ 0 → ⊥ = λ h. grind (arith, nat_tests, common_steps) in
    counted (caption_of a.c.now) a.m a.number a.out.now c.requires.out_value c.requires.m_value some _
    c.find-f.ensures.0 _ (c.div_ceil.ensures ∙ ceil-is _ _ room) c.if-total-gt-PARTS_MOST.false
