-- Determined, one line for each public function: the lent table, and what decides a call of the relay. A function that is not lent some
-- of the memory says the same of all that it could be: of every store, and of every place that is used or not as it was told.
-- Assumes nothing.
use Rattle.std.specs.Prelude.{ℕ, ◌≡◌, refl, Bool, List, length, get_or, set, take, replicate}
use Rattle.std.proofs.lemmas.List.{length-replicate}
use Rattle.std.proofs.lemmas.List.Edits.{sets}
use Rattle.laws.specs.Exactly.{Determines, determined, equation, determined-by-three}
use Rattle.laws.specs.Rows.{◌<?◌}
use Rattle.laws.specs.Table.{seek}
use Rattle.paper.specs.Limits.{places, rows_need, stores_need}
use Rattle.paper.specs.declared.Answer.{Answer}
use Rattle.paper.specs.declared.Name.{Name}
use Rattle.paper.specs.declared.Sender.{Sender}
use Rattle.unit.specs.declared.Reading.{Reading}
use Rattle.sample.specs.declared.Place.{Place}
use Rattle.sample.specs.Head.{Head, head_of}
use Rattle.sample.specs.Place.{bare, closed}
use Rattle.style.specs.Shown.{shown}
use Rattle.desk.specs.declared.Shares.{Shares}
use Rattle.desk.specs.GivenUp.{GivenUp}
use Rattle.asks.specs.declared.Arrival.{Arrival}
use Rattle.asks.specs.Settled.{open_in}
use Rattle.memory.specs.Started.{Started}
use Rattle.memory.specs.Table.{vacant, is_time, is_at}
use Rattle.memory.specs.Relay.{desks_of, stored_shares, recounted, improper, stranger, lacks, lacks_three, looked_up}
use Rattle.table.specs.Table.{holds, stored, cleared, headed}
use Rattle.gate.specs.Passes.{Gate}
use Rattle.looks.specs.Looks.{reach_at, reach_for, asked_of, spot_of, sender_of, freed_at}
use Rattle.gate.specs.Gate.{gate_of}
use Rattle.fresh.specs.Fresh.{fitting, started_of, made_marks}
use Rattle.steps.specs.Plan.{Plan, plan, part_planned, laid_plan, counted_plan, pass_planned, Yield, yield, yielding, place_after}
use Rattle.determined.specs.Leaves.{Arrays, place_of}
use Rattle.determined.specs.Desk.{any, Sample, sample}

-- ---- finds
pub finds-len : (t : List Place) → Determines (λ (r : ℕ). r ≡ length t)
finds-len t = equation (length t)

pub finds-bears : (when : ℕ) (who : Sender) → Determines (λ (r : Bool). r ≡ is_time who.time when)
finds-bears when who = equation (is_time who.time when)

pub finds-find : (t : List Place) (m : ℕ) (who : Sender) → Determines (λ (r : ℕ). r ≡ seek (is_at who.desk who.time) (take m t))
finds-find t m who = equation (seek (is_at who.desk who.time) (take m t))

pub finds-lowest : (t : List Place) (m : ℕ) → Determines (λ (r : ℕ). r ≡ seek vacant (take m t))
finds-lowest t m = equation (seek vacant (take m t))

-- ---- counts
pub counts-is-open : (t : List Place) (m : ℕ) (who : Sender)
    → Determines (λ (r : Bool). r ≡ holds (is_at who.desk who.time) (take m t))
counts-is-open t m who = equation (holds (is_at who.desk who.time) (take m t))

-- ---- tally
pub tally-shares : (marks : List ℕ) (n desk : ℕ) → Determines (λ (r : Shares). r ≡ stored_shares n desk marks)
tally-shares marks n desk = equation (stored_shares n desk marks)

pub tally-count : (marks : List ℕ) (desk : ℕ) (was is : Bool) → Determines (λ (l : List ℕ). l ≡ recounted desk was is marks)
tally-count marks desk was is = equation (recounted desk was is marks)

-- ---- frees
pub frees-free : (t : List Place) (m i : ℕ) → Determines (λ (l : List Place). l ≡ stored m i closed t)
frees-free t m i = equation (stored m i closed t)

pub frees-clear : (t : List Place) (m : ℕ) → Determines (λ (l : List Place). l ≡ cleared m t)
frees-clear t m = equation (cleared m t)

-- ---- heads
pub heads-head : (t : List Place) (i : ℕ) → Determines (λ (r : Head). r ≡ head_of (get_or t i closed))
heads-head t i = equation (head_of (get_or t i closed))

pub heads-set-head : (t : List Place) (i : ℕ) (h : Head) → Determines (λ (l : List Place). l ≡ set t i (headed h (get_or t i closed)))
heads-set-head t i h = equation (set t i (headed h (get_or t i closed)))

-- ---- gate
pub gate-desks-of : (marks : List ℕ) → Determines (λ (r : ℕ). r ≡ desks_of marks)
gate-desks-of marks = equation (desks_of marks)

pub gate-is-improper : (n : ℕ) → Determines (λ (r : Bool). r ≡ improper n)
gate-is-improper n = equation (improper n)

pub gate-is-stranger : (n desk : ℕ) → Determines (λ (r : Bool). r ≡ stranger n desk)
gate-is-stranger n desk = equation (stranger n desk)

pub gate-lacks-three : (n table rows marks : ℕ) → Determines (λ (r : Bool). r ≡ lacks_three n table rows marks)
gate-lacks-three n table rows marks = equation (lacks_three n table rows marks)

pub gate-is-lacking : (n table rows marks stores : ℕ) → Determines (λ (r : Bool). r ≡ lacks n table rows marks stores)
gate-is-lacking n table rows marks stores = equation (lacks n table rows marks stores)

pub gate-gate-of : (n table : ℕ) (rows marks : List ℕ) (stores desk : ℕ) (out : List ℕ)
    → Determines (λ (r : Gate). r ≡ gate_of n table (length rows) (length marks) stores desk (length out))
gate-gate-of n table rows marks stores desk out = equation (gate_of n table (length rows) (length marks) stores desk (length out))

-- ---- fresh
pub fresh-fit : (n table rows marks stores : ℕ) → Determines (λ (r : ℕ). r ≡ fitting n table rows marks stores)
fresh-fit n table rows marks stores = equation (fitting n table rows marks stores)

pub fresh-places-of : (n : ℕ) → Determines (λ (r : ℕ). r ≡ places n)
fresh-places-of n = equation (places n)

pub fresh-make-fresh : (rows marks stores : List ℕ) (n : ℕ)
    → Determines (λ (l : List ℕ × List ℕ × List ℕ).
    (l.0 ≡ sets rows 0 (replicate (rows_need n) 0)) × (l.1 ≡ made_marks n marks) × (l.2 ≡ sets stores 0 (replicate (stores_need n) 0)))
fresh-make-fresh rows marks stores n =
    determined-by-three (λ l. l.0) (λ l. l.1) (λ l. l.2) (λ a b c. (a, b, c)) (λ l. refl) (sets rows 0 (replicate (rows_need n) 0))
    (made_marks n marks) (sets stores 0 (replicate (stores_need n) 0))

pub fresh-answer-of : (n : ℕ) → Determines (λ (r : Started). r ≡ started_of n)
fresh-answer-of n = equation (started_of n)

-- ---- looks
pub looks-reach : (marks : List ℕ) (who : Sender) (len : ℕ) → Determines (λ (r : ℕ). r ≡ reach_at (desks_of marks) who.time len)
looks-reach marks who len = equation (reach_at (desks_of marks) who.time len)

pub looks-reach-for : (marks : List ℕ) (who : Sender) (len : ℕ) (x : Reading)
    → Determines (λ (r : ℕ). r ≡ reach_for (desks_of marks) who.time len x.unit)
looks-reach-for marks who len x = equation (reach_for (desks_of marks) who.time len x.unit)

pub looks-asked : (at m : ℕ) → Determines (λ (r : ℕ). r ≡ asked_of at m)
looks-asked at m = equation (asked_of at m)

pub looks-spot : (at low m len : ℕ) (x : Arrival) → Determines (λ (r : ℕ). r ≡ spot_of at low m len x.part.total)
looks-spot at low m len x = equation (spot_of at low m len x.part.total)

pub looks-sender-of : (who : Name) → Determines (λ (r : Sender). r ≡ sender_of who)
looks-sender-of who = equation (sender_of who)

pub looks-freed-at : (g : GivenUp) (at len : ℕ) → Determines (λ (r : ℕ). r ≡ freed_at g at len)
looks-freed-at g at len = equation (freed_at g at len)

-- ---- takes, yields. Of the stores the first two know the length
module _ (table : ℕ) (rows marks : List ℕ) (store-len : ℕ) (who : Sender) (x : Arrival) (rest out : List ℕ) where
  abbrev stores : List ℕ
  stores = replicate store-len 0

  abbrev after : (q : Head) (l : Arrays) → (stores : List ℕ) → Plan
  after q l stores =
      counted_plan who.desk q.used (laid_plan (place_of q l) (part_planned table (open_in (place_of q l)) rows marks stores out who x rest))

  pub takes_step : (q : Head) (l : Arrays)
      → Determines (λ (r : Sample × List ℕ × List ℕ × List ℕ). (stores : List ℕ) → length stores ≡ store-len
      → plan (place_of r.0.0.head r.0.1) r.0.0.answer r.1 r.2 stores r.3 ≡ after q l stores)
  takes_step q l =
      λ r s a b.
      determined (λ (r : Sample × List ℕ × List ℕ × List ℕ).
      plan (place_of r.0.0.head r.0.1) r.0.0.answer r.1 r.2 stores r.3)
      (λ (z : Plan). (sample z.place z.answer, z.rows, z.marks, z.out)) (λ r. refl)
      (after q l stores) r s (a stores (length-replicate store-len 0)) (b stores (length-replicate store-len 0))

  abbrev lost : (stores : List ℕ) → Plan
  lost stores = part_planned table closed rows marks stores out who x rest

  pub takes-step-lost : Determines (λ (r : Answer × List ℕ × List ℕ × List ℕ). (stores : List ℕ) → length stores ≡ store-len
      → plan (lost stores).place r.0 r.1 r.2 stores r.3 ≡ lost stores)
  takes-step-lost =
      λ r s a b.
      determined (λ (r : Answer × List ℕ × List ℕ × List ℕ). plan (lost stores).place r.0 r.1 r.2 stores r.3)
      (λ (z : Plan). (z.answer, z.rows, z.marks, z.out)) (λ r. refl)
      (lost stores) r s (a stores (length-replicate store-len 0)) (b stores (length-replicate store-len 0))

pub yields-pass-step : (table : ℕ) (is_open : Bool) (rows marks stores : List ℕ) (who : Sender) (x : Reading) (rest out : List ℕ)
    → Determines (λ (r : Answer × List ℕ × List ℕ × List ℕ × List ℕ). (p : Place) → p.used ≡ is_open
    → plan p r.0 r.1 r.2 r.3 r.4 ≡ pass_planned table p rows marks stores out who x rest)
unfolding bare
yields-pass-step table is_open rows marks stores who x rest out =
    let p = any is_open in
    λ r s a b.
    determined (λ (r : Answer × List ℕ × List ℕ × List ℕ × List ℕ). plan p r.0 r.1 r.2 r.3 r.4)
    (λ (z : Plan). (z.answer, z.rows, z.marks, z.stores, z.out)) (λ r. refl)
    (pass_planned table p rows marks stores out who x rest) r s (a p refl) (b p refl)

pub yields-yield-step : (table at m : ℕ) (rows marks : List ℕ) (who : Name)
    → Determines (λ (r : GivenUp × List ℕ × List ℕ). (p : Place) → p.used ≡ (at <? m)
    → yield (place_after r.0 p) r.0 r.1 r.2 ≡ yielding table p rows marks who)
unfolding bare
yields-yield-step table at m rows marks who =
    let p = any (at <? m) in
    λ r s a b.
    determined (λ (r : GivenUp × List ℕ × List ℕ). yield (place_after r.0 p) r.0 r.1 r.2)
    (λ (z : Yield). (z.answer, z.rows, z.marks)) (λ r. refl)
    (yielding table p rows marks who) r s (a p refl) (b p refl)

-- ---- shows
pub shows-show : (book store : List ℕ) (newest index : ℕ) → Determines (λ (bytes : List ℕ). bytes ≡ shown book store newest index)
shows-show book store newest index = equation (shown book store newest index)

pub shows-look-up : (marks stores : List ℕ) (desk index : ℕ) (book : List ℕ)
    → Determines (λ (bytes : List ℕ). bytes ≡ looked_up marks stores desk index book)
shows-look-up marks stores desk index book = equation (looked_up marks stores desk index book)
