-- Determined, one line for each public function over one place that is lent to it: what it answers, and what it leaves of the place and of
-- the memory lent beside it. Assumes nothing.
use Rattle.std.specs.Prelude.{ℕ, ◌≡◌, refl, Bool, List, [], length, None}
use Rattle.std.proofs.lemmas.List.Edits.{sets}
use Rattle.laws.specs.Exactly.{Determines, determined, equation, determined-by-two}
use Rattle.laws.specs.Rows.{◌and◌, ◌=?◌}
use Rattle.paper.specs.Time.{Time}
use Rattle.paper.specs.declared.Answer.{Answer}
use Rattle.paper.specs.declared.Outcome.{Outcome}
use Rattle.unit.specs.declared.Part.{Part}
use Rattle.joining.specs.Joining.{kinds, ordered, together, string_of}
use Rattle.sample.specs.declared.Place.{Place}
use Rattle.sample.specs.declared.Lengths.{Lengths}
use Rattle.sample.specs.Place.{closed, opened, has, agrees, oversize, repeats, kept, missing, pieces_of}
use Rattle.desk.specs.declared.Shares.{Shares}
use Rattle.desk.specs.Desk.{After, own, answering, turn, left, conflicts, completed, joining, part_at}
use Rattle.asks.specs.declared.Arrival.{Arrival}
use Rattle.asks.specs.Settled.{open_in, laid_in}

-- ---- one open sample
pub bare-opened : (desk time : ℕ) (x : Part) → Determines (λ (r : Place). r ≡ opened desk time x)
bare-opened desk time x = equation (opened desk time x)

pub parts-has : (p : Place) (this : ℕ) → Determines (λ (r : Bool). r ≡ has p this)
parts-has p this = equation (has p this)

pub parts-agrees : (p : Place) (x : Part) → Determines (λ (r : Bool). r ≡ agrees p x)
parts-agrees p x = equation (agrees p x)

pub parts-oversize : (p : Place) (x : Part) (n : ℕ) → Determines (λ (r : Bool). r ≡ oversize p x n)
parts-oversize p x n = equation (oversize p x n)

-- it is lent no place
pub parts-is-too-much : (x : Part) (n : ℕ) → Determines (λ (r : Bool). (desk time : ℕ) → r ≡ oversize (opened desk time x) x n)
parts-is-too-much x n = λ r s a b. equation (oversize (opened 0 0 x) x n) r s (a 0 0) (b 0 0)

pub repeats-repeats : (p : Place) (x : Part) (d : List ℕ) → Determines (λ (r : Bool). r ≡ repeats p x d)
repeats-repeats p x d = equation (repeats p x d)

pub keeps-keep : (p : Place) (x : Part) (d : List ℕ) → Determines (λ (r : Place). r ≡ kept p x d)
keeps-keep p x d = equation (kept p x d)

pub keeps-missing : (p : Place) → Determines (λ (r : ℕ). r ≡ missing p)
keeps-missing p = equation (missing p)

pub lengths-measure : (p : Place)
    → Determines (λ (r : Lengths). (r.string ≡ length (string_of (pieces_of p))) × (r.sample ≡ length (together (pieces_of p))))
lengths-measure p =
    determined-by-two (λ r. r.string) (λ r. r.sample) (λ a b. record { string = a; sample = b }) (λ r. refl)
    (length (string_of (pieces_of p))) (length (together (pieces_of p)))

pub order-is-sound : (p : Place) (many : ℕ) → Determines (λ (r : Bool). r ≡ (ordered (kinds (pieces_of p)) and many =? p.slen))
order-is-sound p many = equation (ordered (kinds (pieces_of p)) and many =? p.slen)

pub together-put-together : (p : Place) (out : List ℕ) → Determines (λ (o : List ℕ). o ≡ sets out 0 (together (pieces_of p)))
together-put-together p out = equation (sets out 0 (together (pieces_of p)))

-- ---- one desk: what a call leaves of the place, the row, the marks and the output, with what it answers
abbrev Changed : Type 0
Changed = Place × Outcome × List ℕ × List ℕ × List ℕ

abbrev left_of : (used : ℕ) → (next : Time) → (store : List ℕ) → Changed → After
left_of used next store r = left (answering r.0 used next r.1) r.2 r.3 store r.4

abbrev changed_of : After → Changed
changed_of z = (z.own.place, z.answer.outcome, z.own.row, z.own.marks, z.own.out)

pub asks-does-conflict : (q : Place) (x : Part) → Determines (λ (r : Bool). r ≡ conflicts q x)
asks-does-conflict q x = equation (conflicts q x)

pub ends-complete : (p : Place) (row marks : List ℕ) (time : ℕ) (out : List ℕ)
    → Determines (λ (r : Changed). (q : Place) (used : ℕ) (next : Time) (store : List ℕ)
    → left_of used next store r ≡ completed (own q row marks store out) time used next p)
ends-complete p row marks time out =
    λ r s a b.
    determined (left_of 0 None []) changed_of (λ r. refl) (completed (own closed row marks [] out) time 0 None p) r s
    (a closed 0 None []) (b closed 0 None [])

pub grows-join : (p : Place) (row marks : List ℕ) (time : ℕ) (x : Part) (d out : List ℕ)
    → Determines (λ (r : Changed). (h : Shares) (used : ℕ) (next : Time) (store : List ℕ)
    → left_of used next store r ≡ joining h (own p row marks store out) time used next p x d)
grows-join p row marks time x d out =
    let h : Shares = record { opens = 0; common = 0; desks = 0 } in
    λ r s a b.
    determined (left_of 0 None []) changed_of (λ r. refl) (joining h (own p row marks [] out) time 0 None p x d) r s
    (a h 0 None []) (b h 0 None [])

-- row and marks stay, and the output is not lent
pub begins-open : (h : Shares) (desk : ℕ) (p : Place) (row marks : List ℕ) (time : ℕ) (x : Part) (d : List ℕ)
    → Determines (λ (r : Place × Outcome). (used : ℕ) (next : Time) (store out : List ℕ)
    → left (answering r.0 used next r.1) row marks store out
    ≡ laid_in p (joining h (own closed row marks store out) time used next (opened desk time x) x d))
begins-open h desk p row marks time x d =
    λ r s a b.
    determined (λ (r : Place × Outcome). left (answering r.0 0 None r.1) row marks [] [])
    (λ (z : After). (z.own.place, z.answer.outcome)) (λ r. refl)
    (laid_in p (joining h (own closed row marks [] []) time 0 None (opened desk time x) x d)) r s (a 0 None [] []) (b 0 None [] [])

pub settle-take-part : (h : Shares) (desk : ℕ) (p : Place) (row marks : List ℕ) (t : Time) (x : Arrival) (d out : List ℕ)
    → Determines (λ (r : Place × Answer × List ℕ × List ℕ × List ℕ). (store : List ℕ) → left (turn r.0 r.1) r.2 r.3 store r.4
    ≡ laid_in p (part_at h (own (open_in p) row marks store out) desk t x.used x.part d))
settle-take-part h desk p row marks t x d out =
    λ r s a b.
    determined (λ (r : Place × Answer × List ℕ × List ℕ × List ℕ). left (turn r.0 r.1) r.2 r.3 [] r.4)
    (λ (z : After). (z.own.place, z.answer, z.own.row, z.own.marks, z.own.out)) (λ r. refl)
    (laid_in p (part_at h (own (open_in p) row marks [] out) desk t x.used x.part d)) r s (a []) (b [])
