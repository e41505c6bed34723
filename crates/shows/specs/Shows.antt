-- One law for each way that a lookup returns, in the code's own values. Assumes nothing.
use Rattle.std.specs.Prelude.{ℕ, ◌+◌, ◌*◌, ◌<◌, ◌≡◌, Bool, true, false, List, [], length, get_or, drop}
use Rattle.std.proofs.Common.{arith, ◌∙◌}
use Rattle.std.proofs.Math.Path.{refl, sym}
use Rattle.std.proofs.Math.Seq.{get_or-take, get_or-drop}
use Rattle.laws.specs.Rows.{◌<?◌, yes, no, lt}
use Rattle.laws.specs.Region.{part}
use Rattle.paper.specs.Limits.{head_size, marks_each, store_size, marks_need, stores_need}
use Rattle.style.specs.Shown.{shown}
use Rattle.desk.specs.Desk.{newest_of}
use Rattle.memory.specs.Relay.{desks_of, marks_of, stranger, short, looked_up, looked_up_among}
use Rattle.gate.specs.Tests.{either, other}

-- where a desk's things start
abbrev mark_at : (desk : ℕ) → ℕ
mark_at desk = head_size + marks_each * desk

abbrev store_at : (desk : ℕ) → ℕ
store_at desk = store_size * desk

module _ (marks stores : List ℕ) (desk index : ℕ) (book : List ℕ) (b : Bool) (f : b ≡ stranger (desks_of marks) desk) where
  pub look-stranger : b ≡ true → [] ≡ looked_up marks stores desk index book
  unfolding looked_up_among
  look-stranger h = yes _ _ (either _ _ (sym f ∙ h)) refl

  module _ (known : b ≡ false) where
    pub look-marks : length marks < marks_need (desks_of marks) → [] ≡ looked_up marks stores desk index book
    unfolding looked_up_among short
    look-marks h = yes _ _ (other _ _ _ (sym f ∙ known) (either _ _ (lt _ _ h))) refl

    module _ (enough : (length marks <? marks_need (desks_of marks)) ≡ false) where
      pub look-stores : length stores < stores_need (desks_of marks) → [] ≡ looked_up marks stores desk index book
      unfolding looked_up_among short
      look-stores h = yes _ _ (other _ _ _ (sym f ∙ known) (other _ _ _ enough (lt _ _ h))) refl

      pub look-through : (length stores <? stores_need (desks_of marks)) ≡ false → (r store : List ℕ) (newest : ℕ)
          → store ≡ part (store_at desk) store_size stores → newest ≡ get_or marks (mark_at desk + 1) 0
          → r ≡ shown book store newest index → r ≡ looked_up marks stores desk index book
      unfolding looked_up_among short
      look-through h r store newest x y z =
          let v : newest_of (marks_of desk marks) ≡ newest =
          get_or-take marks_each (drop (mark_at desk) marks) 1 0 (omega arith) ∙ get_or-drop (mark_at desk) marks 1 0 ∙ sym y in
          no _ _ (other _ _ _ (sym f ∙ known) (other _ _ _ enough h)) (z ∙ rw (x, v))
