-- Determined, one line for each public function of one desk. A function that is not lent some of the memory says the same of all that it
-- could be: of every store and output, and of every place that is used or not as it was told. Assumes nothing.
use Rattle.std.specs.Prelude.{ℕ, ◌≡◌, refl, Bool, List, [], set}
use Rattle.laws.specs.Exactly.{Determines, determined, equation, determined-by-two}
use Rattle.laws.specs.Rows.{◌⇒◌⁏◌}
use Rattle.paper.specs.Time.{Time}
use Rattle.paper.specs.declared.Answer.{Answer}
use Rattle.paper.specs.declared.Outcome.{Outcome}
use Rattle.unit.specs.declared.Part.{Part}
use Rattle.unit.specs.declared.Whole.{Whole}
use Rattle.unit.specs.declared.Description.{Description}
use Rattle.unit.specs.declared.Reading.{Reading}
use Rattle.finished.specs.Times.{late, marked_row, marked_used}
use Rattle.sample.specs.declared.Place.{Place}
use Rattle.sample.specs.Head.{Head, head_of, alone}
use Rattle.sample.specs.Place.{bare, closed, opened}
use Rattle.desk.specs.declared.Shares.{Shares}
use Rattle.desk.specs.GivenUp.{GivenUp}
use Rattle.desk.specs.Desk.{After, Given, own, says, turn, left, is_text, is_part, in_use, later, later_part, conflicts, whole_taken}
use Rattle.desk.specs.Desk.{completed, joining}
use Rattle.desk.specs.Desk.{part_at, description_taken, freed, given_up}
use Rattle.asks.specs.declared.Arrival.{Arrival}
use Rattle.asks.specs.Bar.{Bar}
use Rattle.asks.specs.Settled.{Settled, settled, open_in, laid_in, opening, barred, arrival_of, passed}
use Rattle.determined.specs.Leaves.{Arrays, place_of, arrays_of}

-- a place that is used or not, as told
abbrev pub any : Bool → Place
any is_open = bare is_open 0 0 0 0

-- the numbers of the sample after the call and the answer, with its arrays
abbrev pub Sample : Type 0
Sample = Settled × Arrays

abbrev pub sample : Place → Answer → Sample
sample p a = (record { head = head_of p; answer = a }, arrays_of p)

-- what a call leaves of the sample, the row, the marks and the output
abbrev Turned : Type 0
Turned = Sample × List ℕ × List ℕ × List ℕ

abbrev left_of : (store : List ℕ) → Turned → After
left_of store r = left (turn (place_of r.0.0.head r.0.1) r.0.0.answer) r.1 r.2 store r.3

abbrev turned_of : After → Turned
turned_of z = (sample z.own.place z.answer, z.own.row, z.own.marks, z.own.out)

-- ---- asks
pub asks-said : (head : Head) (used : ℕ) (next : Time) (o : Outcome) → Determines (λ (r : Settled). r ≡ settled head used next o)
asks-said head used next o = equation (settled head used next o)

pub asks-says : (used : ℕ) (next : Time) (o : Outcome) → Determines (λ (r : Answer). r ≡ says used next o)
asks-says used next o = equation (says used next o)

pub asks-is-late : (row marks : List ℕ) (time : ℕ) → Determines (λ (r : Bool). r ≡ late row (in_use marks) time)
asks-is-late row marks time = equation (late row (in_use marks) time)

pub asks-add-time : (time sdur : ℕ) → Determines (λ (r : Time). r ≡ later time sdur)
asks-add-time time sdur = equation (later time sdur)

pub asks-next-time : (time : ℕ) (x : Part) → Determines (λ (r : Time). r ≡ later_part time x)
asks-next-time time x = equation (later_part time x)

pub asks-does-conflict : (q : Head) (x : Part) → Determines (λ (r : Bool). r ≡ conflicts (alone q) x)
asks-does-conflict q x = equation (conflicts (alone q) x)

pub asks-find-bar : (late over : Bool) (h : Shares) → Determines (λ (r : Bar). r ≡ barred late over h)
asks-find-bar late over h = equation (barred late over h)

pub asks-is-part : (r : Reading) → Determines (λ (b : Bool). b ≡ is_part r.unit)
asks-is-part r = equation (is_part r.unit)

pub asks-is-text : (r : Reading) → Determines (λ (b : Bool). b ≡ is_text r.unit)
asks-is-text r = equation (is_text r.unit)

pub asks-arrived : (r : Reading) → Determines (λ (x : Arrival). x ≡ arrival_of r)
asks-arrived r = equation (arrival_of r)

-- ---- ends
pub ends-finish : (row marks : List ℕ) (time : ℕ)
    → Determines (λ (l : List ℕ × List ℕ). (l.0 ≡ marked_row row (in_use marks) time) × (l.1 ≡ set marks 0 (marked_used (in_use marks))))
ends-finish row marks time =
    determined-by-two (λ l. l.0) (λ l. l.1) (λ a b. (a, b)) (λ l. refl) (marked_row row (in_use marks) time)
    (set marks 0 (marked_used (in_use marks)))

pub ends-complete : (q : Head) (l : Arrays) (row marks : List ℕ) (time used : ℕ) (next : Time) (out : List ℕ)
    → Determines (λ (r : Turned). (p : Place) (store : List ℕ)
    → left_of store r ≡ completed (own p row marks store out) time used next (place_of q l))
ends-complete q l row marks time used next out =
    λ r s a b.
    determined (left_of []) turned_of (λ r. refl) (completed (own closed row marks [] out) time used next (place_of q l)) r s
    (a closed []) (b closed [])

pub ends-give-up : (is_open : Bool) (row marks : List ℕ) (time : ℕ)
    → Determines (λ (r : GivenUp × List ℕ × List ℕ). (p : Place) (store out : List ℕ) → p.used ≡ is_open
    → freed (is_open ⇒ closed ⁏ p) r.0 r.1 r.2 store out ≡ given_up (own p row marks store out) time)
unfolding bare
ends-give-up is_open row marks time =
    λ r s a b.
    determined (λ (r : GivenUp × List ℕ × List ℕ). freed (is_open ⇒ closed ⁏ any is_open) r.0 r.1 r.2 [] [])
    (λ (z : Given). (z.answer, z.own.row, z.own.marks)) (λ r. refl)
    (given_up (own (any is_open) row marks [] []) time) r s (a (any is_open) [] [] refl) (b (any is_open) [] [] refl)

-- ---- grows
pub grows-join : (q : Head) (l : Arrays) (row marks : List ℕ) (time used : ℕ) (next : Time) (x : Part) (d out : List ℕ)
    → Determines (λ (r : Turned). (h : Shares) (store : List ℕ)
    → left_of store r ≡ joining h (own (place_of q l) row marks store out) time used next (place_of q l) x d)
grows-join q l row marks time used next x d out =
    let h : Shares = record { opens = 0; common = 0; desks = 0 } in
    λ r s a b.
    determined (left_of []) turned_of (λ r. refl) (joining h (own (place_of q l) row marks [] out) time used next (place_of q l) x d) r s
    (a h []) (b h [])

-- ---- begins: row and marks stay, and the output is not lent
pub begins-open : (h : Shares) (desk : ℕ) (q : Head) (l : Arrays) (row marks : List ℕ) (time used : ℕ) (next : Time)
    (x : Part) (d : List ℕ) → Determines (λ (r : Sample). (store out : List ℕ) → left_of store (r, row, marks, out)
    ≡ laid_in (place_of q l) (joining h (own closed row marks store out) time used next (opened desk time x) x d))
begins-open h desk q l row marks time used next x d =
    λ r s a b.
    determined (λ (r : Sample). left_of [] (r, row, marks, [])) (λ (z : After). sample z.own.place z.answer) (λ r. refl)
    (laid_in (place_of q l) (joining h (own closed row marks [] []) time used next (opened desk time x) x d)) r s (a [] []) (b [] [])

-- ---- singles
pub singles-take-whole : (is_open : Bool) (row marks : List ℕ) (time used : ℕ) (w : Whole) (d out : List ℕ)
    → Determines (λ (r : Answer × List ℕ × List ℕ × List ℕ). (p : Place) (store : List ℕ) → p.used ≡ is_open
    → left (turn p r.0) r.1 r.2 store r.3 ≡ whole_taken (own p row marks store out) time used (later time w.sdur) w d)
unfolding bare
singles-take-whole is_open row marks time used w d out =
    λ r s a b.
    determined (λ (r : Answer × List ℕ × List ℕ × List ℕ). left (turn (any is_open) r.0) r.1 r.2 [] r.3)
    (λ (z : After). (z.answer, z.own.row, z.own.marks, z.own.out)) (λ r. refl)
    (whole_taken (own (any is_open) row marks [] out) time used (later time w.sdur) w d) r s
    (a (any is_open) [] refl) (b (any is_open) [] refl)

pub singles-take-description : (marks store : List ℕ) (t : Time) (used : ℕ) (w : Description) (d : List ℕ)
    → Determines (λ (r : Answer × List ℕ × List ℕ). (p : Place) (row out : List ℕ)
    → left (turn p r.0) row r.1 r.2 out ≡ description_taken (own p row marks store out) t used w d)
singles-take-description marks store t used w d =
    λ r s a b.
    determined (λ (r : Answer × List ℕ × List ℕ). left (turn closed r.0) [] r.1 r.2 [])
    (λ (z : After). (z.answer, z.own.marks, z.own.store)) (λ r. refl)
    (description_taken (own closed [] marks store []) t used w d) r s (a closed [] []) (b closed [] [])

-- ---- settle
pub settle-take-part : (h : Shares) (desk : ℕ) (q : Head) (l : Arrays) (row marks : List ℕ) (t : Time) (x : Arrival) (d out : List ℕ)
    → Determines (λ (r : Turned). (store : List ℕ) → left_of store r
    ≡ laid_in (place_of q l) (part_at h (own (open_in (place_of q l)) row marks store out) desk t x.used x.part d))
settle-take-part h desk q l row marks t x d out =
    λ r s a b.
    determined (left_of []) turned_of (λ r. refl)
    (laid_in (place_of q l) (part_at h (own (open_in (place_of q l)) row marks [] out) desk t x.used x.part d)) r s (a []) (b [])

pub settle-lose : (h : Shares) (desk : ℕ) (row marks : List ℕ) (t : Time) (x : Arrival) (d out : List ℕ)
    → Determines (λ (r : Answer × List ℕ × List ℕ × List ℕ). (store : List ℕ)
    → left (turn (opening h row marks store out desk t x d).own.place r.0) r.1 r.2 store r.3
    ≡ opening h row marks store out desk t x d)
settle-lose h desk row marks t x d out =
    λ r s a b.
    determined (λ (r : Answer × List ℕ × List ℕ × List ℕ).
    left (turn (opening h row marks [] out desk t x d).own.place r.0) r.1 r.2 [] r.3)
    (λ (z : After). (z.answer, z.own.row, z.own.marks, z.own.out)) (λ r. refl)
    (opening h row marks [] out desk t x d) r s (a []) (b [])

-- ---- others
pub others-pass : (is_open : Bool) (row marks store : List ℕ) (t : Time) (x : Reading) (rest out : List ℕ)
    → Determines (λ (r : Answer × List ℕ × List ℕ × List ℕ × List ℕ). (p : Place) → p.used ≡ is_open
    → left (turn p r.0) r.1 r.2 r.3 r.4 ≡ passed (own p row marks store out) t x rest)
unfolding bare
others-pass is_open row marks store t x rest out =
    λ r s a b.
    determined (λ (r : Answer × List ℕ × List ℕ × List ℕ × List ℕ). left (turn (any is_open) r.0) r.1 r.2 r.3 r.4)
    (λ (z : After). (z.answer, z.own.row, z.own.marks, z.own.store, z.own.out)) (λ r. refl)
    (passed (own (any is_open) row marks store out) t x rest) r s (a (any is_open) refl) (b (any is_open) refl)
