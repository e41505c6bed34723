-- A part that is kept at place i of the table, as a call leaves it. Assumes nothing.
use Rattle.std.specs.Prelude.{ℕ, ◌≤◌, ◌<◌, ◌≡◌, refl, Bool, List, length, get_or, set}
use Rattle.std.proofs.Common.{arith, sym, ap, ◌∙◌, get_or-set_same}
use Rattle.std.proofs.Math.ListN.{get_or-eq_default}
use Rattle.std.proofs.Math.Seq.{set_out}
use Rattle.laws.specs.Rows.{no}
use Rattle.paper.specs.declared.Answer.{Answer}
use Rattle.paper.specs.declared.Sender.{Sender}
use Rattle.sample.specs.declared.Place.{Place}
use Rattle.sample.specs.Place.{bare, closed}
use Rattle.asks.specs.declared.Arrival.{Arrival}
use Rattle.asks.specs.Settled.{open_in, laid}
use Rattle.memory.specs.Relay.{Tables, tables, recounted, Done, done}
use Rattle.memory.proofs.Counted.{recounted-same}
use Rattle.memory.specs.Lent.{Slice, ReadSlice, Lent}
use Rattle.steps.specs.Plan.{Plan, plan, part_planned, laid_plan, counted_plan}

-- ---- at none where i is past the end
abbrev pub before_at : (i : ℕ) → List Place → Place
before_at i l = get_or l i closed

abbrev pub kept_plan : (i : ℕ) → Tables → Sender → Arrival → (rest out : List ℕ) → Plan
kept_plan i s who x rest out =
    part_planned (length s.places) (open_in (before_at i s.places)) s.rows s.marks s.stores out who x rest

-- the places with what is kept, and the tables with these places, that place counted
abbrev pub kept_places : (i : ℕ) → List Place → Place → List Place
kept_places i l p = set l i (laid (before_at i l) p)

abbrev pub kept_done : (i desk : ℕ) → Tables → Plan → Done
kept_done i desk s x =
    let l = kept_places i s.places x.place in
    done (tables l x.rows (recounted desk (before_at i s.places).used (before_at i l).used x.marks) x.stores) x.out
    x.answer

abbrev pub joined_at : (i : ℕ) → Tables → Sender → Arrival → (rest out : List ℕ) → Done
joined_at i s who x rest out = kept_done i who.desk s (kept_plan i s who x rest out)

-- what a call with the part leaves and answers, with stores of a length that was told, whatever they hold
abbrev pub JoinsAt : (i : ℕ) → (List ℕ → Lent) → (store_len : ℕ) → Sender → Arrival → (rest : ReadSlice ℕ) → (out : Slice ℕ) → Answer → Type 0
JoinsAt i l store_len who x rest out r =
    (stores : List ℕ) → length stores ≡ store_len
    → done (l stores).exit out.exit.now r ≡ joined_at i (l stores).entry who x rest.entry.now out.entry.now

-- past the end there is no sample, and none is kept
pub open_none : open_in closed ≡ closed
unfolding open_in bare
open_none = sym (no _ closed refl refl)

module _ (i len : ℕ) (s : Tables) (who : Sender) (x : Arrival) (rest out : List ℕ) (l : len ≡ length s.places) where
  abbrev plan_over : (len : ℕ) → Place → Plan
  plan_over len p = part_planned len p s.rows s.marks s.stores out who x rest

  abbrev before : Place
  before = before_at i s.places

  -- `len` places are lent; p is what the step left at place i
  pub kept-done : i < len → (p : Place) (a : Answer) (rows marks out' : List ℕ)
      → plan p a rows marks s.stores out' ≡ counted_plan who.desk before.used (laid_plan before (plan_over len (open_in before)))
      → done (tables (set s.places i p) rows marks s.stores) out' a ≡ joined_at i s who x rest out
  kept-done h p a rows marks out' e =
      ap (λ (z : Plan). done (tables (set s.places i z.place) z.rows z.marks z.stores) z.out z.answer) e
      ∙ ap (λ (b : Bool).
      let z = plan_over len (open_in before) in
      done (tables (kept_places i s.places z.place) z.rows (recounted who.desk before.used b z.marks) z.stores) z.out
      z.answer)
      (ap (λ (y : Place). y.used) (sym (get_or-set_same s.places i _ closed (omega arith))))
      ∙ ap (λ (k : ℕ). kept_done i who.desk s (plan_over k (open_in before))) l

  -- past the end no sample is found, and none is kept
  pub lost-done : len ≤ i → (a : Answer) (rows marks out' : List ℕ)
      → plan (plan_over len closed).place a rows marks s.stores out' ≡ plan_over len closed
      → done (tables s.places rows marks s.stores) out' a ≡ joined_at i s who x rest out
  lost-done k a rows marks out' e =
      let q : open_in before ≡ closed = ap open_in (get_or-eq_default s.places closed (omega arith)) ∙ open_none in
      ap (λ (z : Plan). done (tables s.places z.rows z.marks z.stores) z.out z.answer) e
      ∙ lost (plan_over len closed) ∙ ap (λ (y : Place). kept_done i who.desk s (plan_over len y)) (sym q)
      ∙ ap (λ (n : ℕ). kept_done i who.desk s (plan_over n (open_in before))) l
    where
      lost : (z : Plan) → done (tables s.places z.rows z.marks z.stores) z.out z.answer ≡ kept_done i who.desk s z
      lost z =
          ap (λ (m : List ℕ). done (tables s.places z.rows m z.stores) z.out z.answer)
          (sym (recounted-same who.desk before.used z.marks))
          ∙ ap (λ (t : List Place). done
          (tables t z.rows (recounted who.desk before.used (before_at i t).used z.marks) z.stores) z.out z.answer)
          (sym (set_out s.places i _ (omega arith)))
