-- `gate::gate_of` meets its contract: 1, then 2. Assumes nothing.
use Rattle.std.proofs.Common.{refl, sym, ◌∙◌, arith}
use Rattle.laws.specs.Rows.{yes, no, lt, ge}
use Rattle.gate.specs.Gate.{gate_of}
use Rattle.gate.specs.Tests.{either, other, proper}
use Rattle.gate.proofs.gate_of.Goals.{then-is_stranger-via-then-is_stranger, then-is_stranger-via-else-is_stranger+then-is_lacking}
use Rattle.gate.proofs.gate_of.Goals as goal

pub is_lacking-requires : goal.is_lacking-requires
is_lacking-requires c = (proper _ _ (sym c.is_stranger.ensures ∙ c.if-is_stranger.false)).0

pub returns-then-is_stranger : goal.returns-then-is_stranger
unfolding gate_of
returns-then-is_stranger c =
    elim c.then-is_stranger.branch [
      | then-is_stranger-via-then-is_stranger w ↦ yes _ _ (either _ _ (sym c.is_stranger.ensures ∙ w.if-is_stranger.true)) refl
      | then-is_stranger-via-else-is_stranger+then-is_lacking w ↦
          yes _ _ (other _ _ _ (sym c.is_stranger.ensures ∙ w.if-is_stranger.false) (sym w.is_lacking.ensures ∙ w.if-is_lacking.true)) refl
    ]

pub returns-then-out-lt-SAMPLE_MOST : goal.returns-then-out-lt-SAMPLE_MOST
unfolding gate_of
returns-then-out-lt-SAMPLE_MOST c = no _ _ (other _ _ _ (sym c.is_stranger.ensures ∙ c.if-is_stranger.false) (sym c.is_lacking.ensures ∙ c.if-is_lacking.false)) (yes _ _ (lt _ _ (omega arith)) refl)

pub returns : goal.returns
unfolding gate_of
returns c = no _ _ (other _ _ _ (sym c.is_stranger.ensures ∙ c.if-is_stranger.false) (sym c.is_lacking.ensures ∙ c.if-is_lacking.false)) (no _ _ (ge _ _ (omega arith)) refl)
