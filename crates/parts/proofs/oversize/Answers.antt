-- `parts::oversize` meets its contract: a sum that does not fit is above the sample's limit, as what it is cut to. Assumes nothing.
use Rattle.std.proofs.Common.{ℕ, ◌+◌, ◌<◌, min, Bool, true, false, ◌≡◌, refl, sym, ◌∙◌, arith}
use Rattle.laws.specs.Rows.{◌⇒◌⁏◌, ◌or◌, ◌and◌, ◌<?◌, ◌=?◌, yes, no, lt, ge-of, lt_of}
use Rattle.paper.specs.Limits.{sample_most}
use Rattle.unit.specs.declared.Part.{Part}
use Rattle.sample.specs.declared.Place.{Place}
use Rattle.sample.specs.Place.{oversize}
use Rattle.parts.proofs.Rows.{told-twice, or_true}
use Rattle.parts.proofs.oversize.Goals as goal

-- refusal 5 over a sum that is cut to what fits
too_much : (p : Place) (x : Part) (n sum : ℕ) → sum ≡ min (p.filled + n) 18446744073709551615
    → ((sample_most <? sum or x.kind =? 2 and (sample_most <? x.slen or x.slen <? sum)) or p.told and p.slen <? sum) ≡ oversize p x n
unfolding oversize ◌⇒◌⁏◌
too_much p x n sum e = go (sample_most <? sum) refl
  where
    go : (b : Bool) → (sample_most <? sum) ≡ b
        → ((sample_most <? sum or x.kind =? 2 and (sample_most <? x.slen or x.slen <? sum)) or p.told and p.slen <? sum) ≡ oversize p x n
    go true h =
        let many : sample_most < p.filled + n = let k = lt_of sample_most sum h in omega arith in
        rw h (sym (or_true (x.kind =? 2 and sample_most <? x.slen) (sample_most <? p.filled + n) _ (lt sample_most (p.filled + n) many)))
    go false h =
        let few = ge-of sample_most sum h in
        let is : sum ≡ p.filled + n = omega arith in
        rw is (told-twice (x.kind =? 2) (sample_most <? x.slen) (sample_most <? p.filled + n) (x.slen <? p.filled + n) (p.told and p.slen <? p.filled + n))

pub returns-then-exceeds : goal.returns-then-exceeds
returns-then-exceeds c = yes _ _ (sym c.exceeds.ensures ∙ c.if-exceeds.true) c.if-exceeds.true ∙ too_much _ _ _ _ c.saturating_add-sum.ensures

pub returns-then-p : goal.returns-then-p
unfolding ◌<?◌
returns-then-p c =
    no _ _ (sym c.exceeds.ensures ∙ c.if-exceeds.false) (yes _ _ c.if-p.true refl) ∙ too_much _ _ _ _ c.saturating_add-sum.ensures

pub returns-else-p : goal.returns-else-p
returns-else-p c =
    no _ _ (sym c.exceeds.ensures ∙ c.if-exceeds.false) (no _ _ c.if-p.false c.if-p.false) ∙ too_much _ _ _ _ c.saturating_add-sum.ensures
