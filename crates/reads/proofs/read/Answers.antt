-- `reads::read` meets its contract: each return stands at the row of the order that answers there. Assumes nothing.
use mathlib.Core.Path.{refl}
use Rattle.laws.specs.Rows.{yes, no, eq, ne, branched}
use Rattle.unit.specs.Layout.{read_of}
use Rattle.reads.proofs.read.Goals as goal

pub returns-then-n-eq0 : goal.returns-then-n-eq0
unfolding read_of
returns-then-n-eq0 c = yes _ _ (eq _ _ c.if-n-eq0.true) refl

pub returns-then-is_broken : goal.returns-then-is_broken
unfolding read_of
returns-then-is_broken c = no _ _ (ne _ _ c.if-n-eq0.false) (yes _ _ (branched _ _ _ c.is_broken.ensures c.if-is_broken.true) refl)

pub returns : goal.returns
unfolding read_of
returns c =
    no _ _ (ne _ _ c.if-n-eq0.false)
    (no _ _ (branched _ _ _ c.is_broken.ensures c.if-is_broken.false)
    (rw (
      c.judge_text.ensures,
      c.judge-x.ensures,
      c.read_fields.ensures,
      c.number-len.ensures.0,
      c.byte-head.ensures.0,
    )))
