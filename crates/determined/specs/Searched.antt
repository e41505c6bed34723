-- Determined, one line for each public function that answers a place or none, a Result, or leaves one lent place of the table.
-- Assumes nothing.
use Rattle.std.specs.Prelude.{ℕ, ◌+◌, ◌*◌, ◌≡◌, refl, Bool, Option, OnOk, List, length, take, replicate}
use Rattle.std.proofs.lemmas.List.{length-replicate}
use Rattle.laws.specs.Exactly.{Determines, determined, equation, determined-by-two}
use Rattle.paper.specs.declared.Answer.{Answer}
use Rattle.paper.specs.declared.Name.{Name}
use Rattle.paper.specs.declared.Sender.{Sender}
use Rattle.paper.specs.Words.{whose}
use Rattle.paper.specs.Limits.{finished_most, head_size, marks_each, store_size}
use Rattle.std.specs.declared.ops.Range.{Range}
use Rattle.writer.specs.declared.Sample.{Sample}
use Rattle.writer.specs.Write.{sample}
use Rattle.writer.specs.Lent.{caption_of}
use Rattle.memory.specs.Relay.{desks_of}
use Rattle.gate.specs.Passes.{Gate}
use Rattle.gate.specs.Gate.{gate_of, Holds}
use Rattle.sample.specs.declared.Place.{Place}
use Rattle.sample.specs.Place.{bare}
use Rattle.desk.specs.GivenUp.{GivenUp}
use Rattle.asks.specs.declared.Arrival.{Arrival}
use Rattle.asks.specs.Settled.{open_in}
use Rattle.memory.specs.Started.{Started}
use Rattle.memory.specs.Table.{vacant, is_at}
use Rattle.table.specs.Table.{place_where}
use Rattle.fresh.specs.Fresh.{fitting, started_of}
use Rattle.looks.specs.Looks.{spot_in}
use Rattle.steps.specs.Plan.{Plan, plan, part_planned, laid_plan, counted_plan, Yield, yield, yielding, place_after}
use Rattle.determined.specs.Desk.{any}

pub paper-sender : (name : Name) → Determines (λ (r : Sender). r ≡ whose name)
paper-sender name = equation (whose name)

pub finds-place : (t : List Place) (m : ℕ) (who : Sender)
    → Determines (λ (r : Option ℕ). r ≡ place_where (is_at who.desk who.time) (take m t))
finds-place t m who = equation (place_where (is_at who.desk who.time) (take m t))

pub finds-lowest-place : (t : List Place) (m : ℕ) → Determines (λ (r : Option ℕ). r ≡ place_where vacant (take m t))
finds-lowest-place t m = equation (place_where vacant (take m t))

pub fresh-fits : (n table rows marks stores : ℕ) → Determines (λ (r : Started). r ≡ started_of (fitting n table rows marks stores))
fresh-fits n table rows marks stores = equation (started_of (fitting n table rows marks stores))

pub looks-spot-place : (t : List Place) (m : ℕ) (who : Sender) (x : Arrival)
    → Determines (λ (r : Option ℕ). r ≡ spot_in who.desk who.time m x.part.total t)
looks-spot-place t m who x = equation (spot_in who.desk who.time m x.part.total t)

-- ---- takes, yields. Of the stores the first knows the length
module _ (table : ℕ) (p : Place) (rows marks : List ℕ) (store-len : ℕ) (who : Sender) (x : Arrival) (rest out : List ℕ) where
  abbrev stores : List ℕ
  stores = replicate store-len 0

  abbrev after : (stores : List ℕ) → Plan
  after stores = counted_plan who.desk p.used (laid_plan p (part_planned table (open_in p) rows marks stores out who x rest))

  pub takes-step-place : Determines (λ (r : Place × Answer × List ℕ × List ℕ × List ℕ). (stores : List ℕ) → length stores ≡ store-len
      → plan r.0 r.1 r.2 r.3 stores r.4 ≡ after stores)
  takes-step-place =
      λ r s a b.
      determined (λ (r : Place × Answer × List ℕ × List ℕ × List ℕ). plan r.0 r.1 r.2 r.3 stores r.4)
      (λ (z : Plan). (z.place, z.answer, z.rows, z.marks, z.out)) (λ r. refl)
      (after stores) r s (a stores (length-replicate store-len 0)) (b stores (length-replicate store-len 0))

pub yields-given-up : (table : ℕ) (is_open : Bool) (rows marks : List ℕ) (who : Name)
    → Determines (λ (r : GivenUp × List ℕ × List ℕ). (p : Place) → p.used ≡ is_open
    → yield (place_after r.0 p) r.0 r.1 r.2 ≡ yielding table p rows marks who)
unfolding bare
yields-given-up table is_open rows marks who =
    let p = any is_open in
    λ r s a b.
    determined (λ (r : GivenUp × List ℕ × List ℕ). yield (place_after r.0 p) r.0 r.1 r.2)
    (λ (z : Yield). (z.answer, z.rows, z.marks)) (λ r. refl)
    (yielding table p rows marks who) r s (a p refl) (b p refl)

-- ---- the gate of a call, and where a desk's own things stand in what is lent
pub gate-gate-at : (table : ℕ) (rows marks : List ℕ) (stores desk : ℕ) (out : List ℕ)
    → Determines (λ (r : Gate). (r ≡ gate_of (desks_of marks) table (length rows) (length marks) stores desk (length out))
    × OnOk r (Holds desk (length rows) (length marks) stores))
gate-gate-at table rows marks stores desk out =
    λ r s a b. equation (gate_of (desks_of marks) table (length rows) (length marks) stores desk (length out)) r s a.0 b.0

module _ (from to : ℕ) where
  between : Determines (λ (r : Range ℕ). (r.start ≡ from) × (r.end ≡ to))
  between = determined-by-two (λ r. r.start) (λ r. r.end) (λ a b. record { start = a; end = b }) (λ r. refl) from to

pub gate-row-of : (desk : ℕ)
    → Determines (λ (r : Range ℕ). (r.start ≡ finished_most * desk) × (r.end ≡ finished_most * desk + finished_most))
gate-row-of desk = between (finished_most * desk) (finished_most * desk + finished_most)

pub gate-marks-of : (desk : ℕ) → Determines (λ (r : Range ℕ).
    (r.start ≡ head_size + marks_each * desk) × (r.end ≡ head_size + marks_each * desk + marks_each))
gate-marks-of desk = between (head_size + marks_each * desk) (head_size + marks_each * desk + marks_each)

pub gate-store-of : (desk : ℕ) → Determines (λ (r : Range ℕ). (r.start ≡ store_size * desk) × (r.end ≡ store_size * desk + store_size))
gate-store-of desk = between (store_size * desk) (store_size * desk + store_size)

pub writer-slen : (s : Sample) → Determines (λ (r : ℕ). r ≡ length (sample (caption_of s)))
writer-slen s = equation (length (sample (caption_of s)))
