-- 8 and 9, exactly: of all calls they are given to those that reach the test of the shares, 8 with six of the desk's samples open, 9 with
-- two to five open and the common use 2n; by the numbers that are stored, and in good tables by what a walk finds. Assumes nothing.
use Rattle.std.specs.Prelude.{◌≤◌, ◌<◌, ◌≡◌}
use Rattle.paper.specs.Limits.{own_places, open_most, common}
use Rattle.desk.specs.declared.Shares.{Shares}

-- six open; two to five open, and the common places used up
abbrev pub Full : Shares → Type 0
Full h = open_most ≤ h.opens

pub record Spent (h : Shares) : Type 0 where
  pub from : own_places ≤ h.opens
  pub to : h.opens < open_most
  pub gone : h.common ≡ common h.desks
