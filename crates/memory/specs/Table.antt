-- The tests on a place of the table. Assumes nothing.
use Rattle.std.specs.Prelude.{ℕ, Bool, false, not}
use Rattle.laws.specs.Rows.{◌and◌, ◌=?◌}
use Rattle.paper.specs.Words.{by_time}
use Rattle.paper.specs.Time.{Time}
use Rattle.sample.specs.declared.Place.{Place}

-- the place is free; it is a desk's
abbrev pub vacant : Place → Bool
vacant y = not y.used

abbrev pub mine : (desk : ℕ) → Place → Bool
mine desk y = y.used and y.desk =? desk

-- a number is the running time: none is where that is unknown
abbrev pub is_time : Time → (u : ℕ) → Bool
is_time t u = by_time t (λ time. u =? time) false

-- the place is a desk's sample of a time
abbrev pub is_at : (desk : ℕ) → Time → Place → Bool
is_at desk t y = y.used and y.desk =? desk and is_time t y.time
