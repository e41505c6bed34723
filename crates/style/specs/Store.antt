-- A desk's window of in-band descriptions: 64 records, the value v in slot v modulo 64. `newest` is 128 where there is none.
-- Assumes nothing.
use Rattle.std.specs.Prelude.{ℕ, zero, suc, ◌+◌, ◌-◌, ◌*◌, ◌%◌, List, [], Bool, length}
use Rattle.std.proofs.lemmas.List.Edits.{sets}
use Rattle.laws.specs.Rows.{◌⇒◌⁏◌, ◌or◌, ◌and◌, ◌<?◌, ◌=?◌}
use Rattle.paper.specs.Limits.{record_size, description_most, in_band, window}
use Rattle.paper.specs.declared.Refusal.TheVariants.{Fields, Size, Conflict}
use Rattle.paper.specs.declared.Outcome.{Outcome}
use Rattle.paper.specs.declared.Outcome.TheVariants.{Repeat, Described, Refused}
use Rattle.style.specs.declared.Noted.{Noted}
use Rattle.octets.specs.Same.{same}
use Rattle.style.specs.Record.{record_at, index_of, length_of, description_of, blank, record_of}

-- ---- the window
-- a minus b, modulo 128
abbrev pub minus : ℕ → ℕ → ℕ
minus a b = (a % in_band + (in_band - b % in_band)) % in_band

-- v is newest or one of the 63 values before it
unfoldable pub in_window : (newest v : ℕ) → Bool
in_window newest v = newest <? in_band and v <? in_band and minus newest v <? window

-- the first value becomes newest, and later one that is 1 to 64 ahead of newest; for others newest stays
unfoldable pub moved : (newest sidx : ℕ) → ℕ
moved newest sidx =
    in_band - 1 <? newest ⇒ sidx
    ⁏ minus sidx newest =? 0 ⇒ newest
    ⁏ window <? minus sidx newest ⇒ newest
    ⁏ sidx

-- ---- the store
abbrev pub slot : List ℕ → ℕ → List ℕ
slot store v = record_at store (v % window)

-- the record has the index v and a length that is not 0
unfoldable pub carries : List ℕ → ℕ → Bool
carries r v = index_of r =? v and 0 <? length_of r

-- v lies in the window, and its slot has its record
unfoldable pub held : List ℕ → (newest v : ℕ) → Bool
held store newest v = in_window newest v and carries (slot store v) v

-- what is held of v, nothing where it is not held
unfoldable pub in_store : List ℕ → (newest v : ℕ) → List ℕ
in_store store newest v = held store newest v ⇒ description_of (slot store v) ⁏ []

-- v lies in the window of `newest` and in that of `new`: what was outside, and so not held, is not held when the window moves over it
unfoldable pub stays : (newest new v : ℕ) → Bool
stays newest new v = in_window newest v and in_window new v

-- slot i is blank from now on, unless the value of its record stays
unfoldable pub forgotten_at : (newest new : ℕ) → List ℕ → ℕ → List ℕ
forgotten_at newest new store i = stays newest new (index_of (record_at store i)) ⇒ store ⁏ sets store (record_size * i) blank

-- n slots from slot i on
unfoldable pub forgotten_from : (newest new : ℕ) → List ℕ → (i n : ℕ) → List ℕ
forgotten_from newest new store i zero = store
forgotten_from newest new store i (suc n) = forgotten_from newest new (forgotten_at newest new store i) (suc i) n

-- whatever lies outside the window is forgotten: all 64 slots
abbrev pub forgotten : (newest new : ℕ) → List ℕ → List ℕ
forgotten newest new store = forgotten_from newest new store 0 window

-- the slot of v becomes the record of d
abbrev pub stored : List ℕ → ℕ → List ℕ → List ℕ
stored store v d = sets store (record_size * (v % window)) (record_of v d)

-- ---- a TYPE 5 unit
-- v is held with these very bytes
unfoldable pub repeated : List ℕ → (newest v : ℕ) → List ℕ → Bool
repeated store newest v d = held store newest v and same (description_of (slot store v)) d

-- what is answered, and the store after the call
pub record After : Type 0 where
  pub answer : Noted
  pub store : List ℕ

abbrev pub noted_as : ℕ → Outcome → Noted
noted_as newest o = record { newest = newest; outcome = o }

abbrev pub left : Noted → List ℕ → After
left r store = record { answer = r; store = store }

-- SIDX above 127 or no byte, which a unit that refusal 4 lets through never has
unfoldable pub improper : (sidx : ℕ) → List ℕ → Bool
improper sidx d = in_band - 1 <? sidx or length d =? 0

-- the order of the paper: 5, repeat, 7. A refusal and a repeat leave all as it was
unfoldable pub noted : List ℕ → (newest sidx : ℕ) → List ℕ → After
noted store newest sidx d =
    improper sidx d ⇒ left (noted_as newest (Refused Fields)) store
    ⁏ description_most <? length d ⇒ left (noted_as newest (Refused Size)) store
    ⁏ repeated store newest sidx d ⇒ left (noted_as newest Repeat) store
    ⁏ held store newest sidx ⇒ left (noted_as newest (Refused Conflict)) store
    ⁏ left (noted_as (moved newest sidx) Described) (stored (forgotten newest (moved newest sidx) store) sidx d)
