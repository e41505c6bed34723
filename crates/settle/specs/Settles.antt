-- A part of one desk where its sample stands: of the open sample, or of one that it opens. Assumes nothing.
use Rattle.std.specs.Prelude.{ℕ, ◌≡◌, true, false, List}
use Rattle.std.proofs.Common.{sym, ◌∙◌}
use Rattle.std.proofs.Math.Path.{ap}
use Rattle.laws.specs.Rows.{◌⇒◌⁏◌}
use Rattle.paper.specs.Time.{Time}
use Rattle.paper.specs.declared.Answer.{Answer}
use Rattle.unit.specs.declared.Part.{Part}
use Rattle.sample.specs.declared.Place.{Place}
use Rattle.sample.specs.Place.{bare, closed, opened}
use Rattle.desk.specs.declared.Shares.{Shares}
use Rattle.desk.specs.Desk.{After, own, turn, left, later_part, sample_of, joining, part_taken}
use Rattle.asks.specs.Settled.{open_in, laid, laid_in}

-- ---- what is left where the sample stands
-- the sample was open
laid-open : (before : Place) (a : After) → before.used ≡ true → a ≡ laid_in before a
unfolding laid ◌⇒◌⁏◌
laid-open before a u = rw u

-- whatever place the call left
pub lost : (p : Place) (r : Answer) (row marks store out : List ℕ) (a : After) → left (turn p r) row marks store out ≡ a
    → left (turn a.own.place r) row marks store out ≡ a
lost p r row marks store out a e =
    ap (λ (z : Place). left (turn z r) row marks store out) (sym (ap (λ (z : After). z.own.place) e)) ∙ e

-- ---- a part is taken: of the open sample, or of one that it opens
module _ (h : Shares) (row marks store out : List ℕ) (desk time used : ℕ) (next : Time) (x : Part) (d : List ℕ)
    (n : next ≡ later_part time x) where
  pub part-new : joining h (own closed row marks store out) time used next (opened desk time x) x d
      ≡ part_taken h (own closed row marks store out) desk time used (later_part time x) x d
  unfolding sample_of bare ◌⇒◌⁏◌
  part-new = rw n

  module _ (before : Place) where
    pub taken-open : before.used ≡ true → (a : After) → a ≡ joining h (own before row marks store out) time used next before x d
        → a ≡ laid_in before (part_taken h (own (open_in before) row marks store out) desk time used (later_part time x) x d)
    unfolding open_in sample_of ◌⇒◌⁏◌
    taken-open u a e = e ∙ laid-open before _ u ∙ ap (laid_in before) (rw (u, n))

    pub taken-new : before.used ≡ false → (a : After)
        → a ≡ laid_in before (joining h (own closed row marks store out) time used next (opened desk time x) x d)
        → a ≡ laid_in before (part_taken h (own (open_in before) row marks store out) desk time used (later_part time x) x d)
    unfolding open_in ◌⇒◌⁏◌
    taken-new u a e = e ∙ ap (laid_in before) (part-new ∙ rw u)
