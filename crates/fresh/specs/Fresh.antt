-- Set-up in between: how many desks are made, and their marks. Assumes nothing.
use Rattle.memory.specs.Started.{Ready}
use Rattle.std.specs.Prelude.{ℕ, List, Err}
use Rattle.std.proofs.lemmas.List.Edits.{sets}
use Rattle.laws.specs.Rows.{◌⇒◌⁏◌, ◌or◌, ◌=?◌}
use Rattle.paper.specs.declared.Refusal.TheVariants as R
use Rattle.memory.specs.Started.{Started}
use Rattle.memory.specs.Relay.{improper, lacks, fresh_marks}

-- ---- set-up: the number of desks made, which is 0 where it is refused
unfoldable pub fitting : (n table rows marks stores : ℕ) → ℕ
fitting n table rows marks stores = improper n or lacks n table rows marks stores ⇒ 0 ⁏ n

unfoldable pub started_of : (n : ℕ) → Started
started_of n = n =? 0 ⇒ Err R.Desk ⁏ Ready

unfoldable pub made_marks : (n : ℕ) → List ℕ → List ℕ
made_marks n l = n =? 0 ⇒ l ⁏ sets l 0 (fresh_marks n)
