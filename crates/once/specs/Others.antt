-- A call that does not count: it leaves the sample as it was, and its time is late afterwards as the next stage says. Assumes nothing.
use Rattle.std.specs.Prelude.{ℕ, ◌≤◌, ◌<◌, ◌≡◌, List, ◌∷◌, length}
use Rattle.std.proofs.Math.Bool.{false}
use Rattle.paper.specs.Limits.{finished_most}
use Rattle.finished.specs.Times.{late}
use Rattle.finished.specs.Marks.{row_after, used_after}
use Rattle.desk.specs.Desk.{in_use}
use Rattle.good.specs.View.{View}
use Rattle.peace.specs.Run.{Call}
use Rattle.peace.specs.Alone.{own_got, own_view}
use Rattle.once.specs.Due.{Stage, gathering, finished, passed, handing}

-- ---- the row and the marks are as long as a desk needs them
pub record Fit (v : View) : Type 0 where
  pub row : finished_most ≤ length v.row
  pub marks : 0 < length v.marks

-- the time was marked, and n others since
pub record Since (v : View) (time n : ℕ) : Type 0 where
  pub row : List ℕ
  pub used : ℕ
  pub more : List ℕ
  pub long : finished_most ≤ length row
  pub row_is : v.row ≡ row_after row used (time ∷ more)
  pub used-is : in_use v.marks ≡ used_after used (time ∷ more)
  pub many : length more ≡ n

-- before the sample is finished its time is not late, and afterwards it was marked
abbrev pub Timely : View → (time : ℕ) → Stage → Type 0
Timely v time (gathering came) = late v.row (in_use v.marks) time ≡ false
Timely v time (finished n) = Since v time n

-- ---- a call that does not count
pub record Passes (time : ℕ) (v : View) (x : Call) (s : Stage) : Type 0 where
  pub place : (own_view v x).at time ≡ v.at time
  pub fit : Fit (own_view v x)
  pub timely : Timely (own_view v x) time (passed s (own_got v x))
  pub none : handing time x (own_got v x) ≡ false
