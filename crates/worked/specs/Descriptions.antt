-- Case 9 as runs from set-up: a desk describes 10 and then another value, and looks both up. Such a desk asks for no place, so that it
-- gets, in any lent memory that is long enough and whatever all others do, what it gets alone; and what it gets alone the laws of its
-- window tell, for every store. Assumes nothing.
use Rattle.memory.specs.Started.{Ready}
use Rattle.std.specs.Prelude.{ℕ, ◌+◌, ◌-◌, ◌*◌, ◌≤◌, ◌<◌, ◌≡◌, Bool, true, false, List, [], ◌∷◌, length, replicate, Some}
use Rattle.std.proofs.Common.{arith, ap₂, ◌∙◌, true≢false, inl, ⊎_elim}
use Rattle.std.proofs.Math.Path.{refl, sym, ap}
use Rattle.std.proofs.lemmas.List.{length-replicate}
use Rattle.laws.specs.Rows.{◌⇒◌⁏◌, ◌<?◌, ◌=?◌, each, no, ge}
use Rattle.laws.specs.Table.{bit}
use Rattle.paper.specs.Limits.{sample_most, in_band, window, record_size, finished_most, store_size}
use Rattle.paper.specs.declared.Outcome.TheVariants as O
use Rattle.text.specs.Unicode.{well_formed, well_within}
use Rattle.unit.specs.Layout.{description, reading, read_of, broken, judged, fields_of, least, bad_description, text_judged, ill_text}
use Rattle.sample.specs.declared.Place.{Place}
use Rattle.sample.specs.Place.{closed}
use Rattle.style.specs.declared.Noted.{Noted}
use Rattle.style.specs.Store.{in_window, moved, held, noted_as, noted}
use Rattle.style.specs.Shown as S
use Rattle.style.specs.Puts.{either}
use Rattle.style.specs.Slots.{in-window-of, held_of}
use Rattle.style.specs.Window.{only-window, described-as, stored-held, stored-shown, still-held, never-changed, forgotten-gone, only-slots}
use Rattle.desk.specs.declared.Shares.{Shares}
use Rattle.desk.specs.Desk.{After, says, description_taken, received}
use Rattle.memory.specs.Relay.{Tables, set_up, ordered}
use Rattle.good.specs.View.{View, own_in, seen_after, receives}
use Rattle.good.specs.Fresh.{fresh_view}
use Rattle.peace.specs.Run.{Call, receive, lookup, Got, answered, shown, run, to, only}
use Rattle.peace.specs.Alone.{lone, own_reaches, own_view, alone, Frugal}
use Rattle.peace.proofs.Peace.{as-fresh}

-- ---- the calls and what they get
-- the output lent
abbrev pub blank_output : List ℕ
blank_output = replicate sample_most 0

-- a TYPE 5 unit with a description of one byte
abbrev pub unit5 : (SIDX byte : ℕ) → List ℕ
unit5 SIDX byte = 0x05 ∷ 0x00 ∷ 0x04 ∷ SIDX ∷ byte ∷ []

-- 10 is described and then b, and both are looked up, with no style book
abbrev pub describes : (desk b : ℕ) → List Call
describes desk b =
    receive desk (Some 0) (unit5 10 0x41) blank_output ∷ receive desk (Some 0) (unit5 b 0x42) blank_output
    ∷ lookup desk 10 [] ∷ lookup desk b [] ∷ []

-- both are described; then 10 shows this, and b its byte
abbrev pub describes_gets : (ten : List ℕ) → List Got
describes_gets ten =
    answered (says 5 (Some 0) O.Described) blank_output ∷ answered (says 5 (Some 0) O.Described) blank_output
    ∷ shown ten ∷ shown (0x42 ∷ []) ∷ []

-- ---- the desk alone
-- what it sees, whatever it has open: of its marks the newest value, and its store
abbrev sees : (at : ℕ → Place) → (opens : ℕ) → (row : List ℕ) → (newest : ℕ) → (store : List ℕ) → View
sees at opens row newest store = record { at = at; opens = opens; row = row; marks = 0 ∷ newest ∷ []; store = store }

room : (length blank_output <? sample_most) ≡ false
room = ge _ _ (omega (arith, length-replicate {A = ℕ} sample_most 0))

module _ (desk SIDX byte : ℕ) (e : read_of (unit5 SIDX byte) ≡ reading 5 (description SIDX 1)) where
  -- the unit is noted, whatever the shares say
  noting : (h : Shares) (v : View)
      → receives h v desk (Some 0) (unit5 SIDX byte) blank_output
      ≡ description_taken (own_in v (Some 0) blank_output) (Some 0) 5 (record { sidx = SIDX; start = 4; len = 1 }) (byte ∷ [])
  unfolding ordered received
  noting h v = sym (no _ _ refl (no _ _ room (rw e)))

  -- and asks for no place
  unasked : (v : View) → own_reaches v (receive desk (Some 0) (unit5 SIDX byte) blank_output) ≡ false
  unasked v = each (λ (b : Bool). b ≡ false) _ _ _ (λ q. refl) (λ q. rw e)

  -- the call, and what the desk sees then
  hears-one : (at : ℕ → Place) (opens : ℕ) (row : List ℕ) (newest : ℕ) (store : List ℕ) (cs : List Call)
      → alone (sees at opens row newest store) (receive desk (Some 0) (unit5 SIDX byte) blank_output ∷ cs)
      ≡ answered (says 5 (Some 0) (noted store newest SIDX (byte ∷ [])).answer.outcome) blank_output
      ∷ alone
      (sees (λ t. t =? 0 ⇒ at 0 ⁏ at t) (opens + bit (at 0).used - bit (at 0).used) row (noted store newest SIDX (byte ∷ [])).answer.newest
      (noted store newest SIDX (byte ∷ [])).store) cs
  unfolding description_taken
  hears-one at opens row newest store cs =
      let v = sees at opens row newest store in
      ap (λ (a : After). answered a.answer a.own.out ∷ alone (seen_after v (Some 0) a.own) cs) (noting (lone v) v)

reads-ten : read_of (unit5 10 0x41) ≡ reading 5 (description 10 1)
unfolding read_of broken judged text_judged ill_text well_formed well_within fields_of least bad_description ◌⇒◌⁏◌ ◌<?◌ ◌=?◌
reads-ten = refl

-- the store and newest when 10 has come to a desk with no newest value, and when b has come then
abbrev store₁ : List ℕ → List ℕ
store₁ store = (noted store in_band 10 (0x41 ∷ [])).store

abbrev newest₁ : List ℕ → ℕ
newest₁ store = (noted store in_band 10 (0x41 ∷ [])).answer.newest

abbrev store₂ : List ℕ → (b : ℕ) → List ℕ
store₂ store b = (noted (store₁ store) (newest₁ store) b (0x42 ∷ [])).store

abbrev newest₂ : List ℕ → (b : ℕ) → ℕ
newest₂ store b = (noted (store₁ store) (newest₁ store) b (0x42 ∷ [])).answer.newest

-- in any store of 64 records, where b is another value than 10
module _ (store : List ℕ) (long : window * record_size ≤ length store) (b : ℕ) (low : b < in_band) (other : b ≡ 10 → ⊥) where
  not-held : (held store in_band 10 ≡ false) × (held (store₁ store) (newest₁ store) b ≡ false)
  not-held = (
    ⊎_elim (λ t. absurd (none 10 t)) (λ f. f) (either (held store in_band 10)),
    ⊎_elim
        (λ t. absurd (⊎_elim (none b) other (only-window store in_band 10 (0x41 ∷ []) b t).1))
        (λ f. f) (either (held (store₁ store) (newest₁ store) b)),
  )
    where
      none : (v : ℕ) → held store in_band v ≡ true → ⊥
      none v h = let w = in-window-of in_band v (held_of store in_band v h).0 in omega arith

  first : (noted store in_band 10 (0x41 ∷ [])).answer ≡ noted_as 10 O.Described
  unfolding moved ◌⇒◌⁏◌ ◌<?◌ ◌=?◌
  first = described-as store in_band 10 (0x41 ∷ []) (omega arith) (omega arith) (omega arith) not-held.0

  second : (noted (store₁ store) (newest₁ store) b (0x42 ∷ [])).answer ≡ noted_as (moved 10 b) O.Described
  second =
      described-as (store₁ store) (newest₁ store) b (0x42 ∷ []) low (omega arith) (omega arith) not-held.1
      ∙ ap (λ (a : Noted). noted_as (moved a.newest b) O.Described) first

  long₁ : window * record_size ≤ length (store₁ store)
  long₁ = omega (arith, (only-slots store in_band 10 (0x41 ∷ [])).0)

  -- b shows its byte
  shows-b : S.shown [] (store₂ store b) (newest₂ store b) b ≡ 0x42 ∷ []
  shows-b = stored-shown (store₁ store) (newest₁ store) b (0x42 ∷ []) [] long₁ (inl (ap (λ (a : Noted). a.outcome) second))

  -- 10 shows nothing where the window has moved past it, and its byte where it has not
  ten-gone : in_window (moved 10 b) 10 ≡ false → S.shown [] (store₂ store b) (newest₂ store b) 10 ≡ []
  ten-gone out =
      (forgotten-gone (store₁ store) (newest₁ store) b (0x42 ∷ []) 10 (ap (λ (a : Noted). in_window a.newest 10) second ∙ out)).1 [] (omega arith)

  ten-stays : in_window (moved 10 b) 10 ≡ true → S.shown [] (store₂ store b) (newest₂ store b) 10 ≡ 0x41 ∷ []
  ten-stays in-it =
      let d : (noted store in_band 10 (0x41 ∷ [])).answer.outcome ≡ O.Described = ap (λ (a : Noted). a.outcome) first in
      let was : held (store₁ store) (newest₁ store) 10 ≡ true = stored-held store in_band 10 (0x41 ∷ []) long (inl d) in
      let is : held (store₂ store b) (newest₂ store b) 10 ≡ true =
      still-held (store₁ store) (newest₁ store) b (0x42 ∷ []) 10 was (ap (λ (a : Noted). in_window a.newest 10) second ∙ in-it) in
      never-changed (store₁ store) (newest₁ store) b (0x42 ∷ []) [] 10 was is ∙ stored-shown store in_band 10 (0x41 ∷ []) [] long (inl d)

  -- all that the desk gets
  gets-alone : (desk : ℕ) → read_of (unit5 b 0x42) ≡ reading 5 (description b 1) → (ten : List ℕ)
      → S.shown [] (store₂ store b) (newest₂ store b) 10 ≡ ten
      → (at : ℕ → Place) (opens : ℕ) (row : List ℕ) → alone (sees at opens row in_band store) (describes desk b) ≡ describes_gets ten
  gets-alone desk reads-b ten shows-ten at opens row =
      let looks : List Call = lookup desk 10 [] ∷ lookup desk b [] ∷ [] in
      hears-one desk 10 0x41 reads-ten at opens row in_band store (receive desk (Some 0) (unit5 b 0x42) blank_output ∷ looks)
      ∙ ap₂ (λ (x : Got) (l : List Got). x ∷ l) (ap (λ (a : Noted). answered (says 5 (Some 0) a.outcome) blank_output) first)
      (hears-one desk b 0x42 reads-b (λ t. t =? 0 ⇒ at 0 ⁏ at t) (opens + bit (at 0).used - bit (at 0).used) row (newest₁ store)
      (store₁ store) looks
      ∙ ap₂ (λ (x : Got) (l : List Got). x ∷ l) (ap (λ (a : Noted). answered (says 5 (Some 0) a.outcome) blank_output) second)
      (ap₂ (λ (x y : List ℕ). shown x ∷ shown y ∷ []) shows-ten shows-b))

frugal : (desk b : ℕ) → read_of (unit5 b 0x42) ≡ reading 5 (description b 1) → (v : View) → Frugal v (describes desk b)
frugal desk b reads-b v = (
  λ k. absurd (true≢false (sym k ∙ unasked desk 10 0x41 reads-ten v)),
  (
    λ k. absurd (true≢false (sym k ∙ unasked desk b 0x42 reads-b (own_view v (receive desk (Some 0) (unit5 10 0x41) blank_output)))),
    (λ k. absurd (true≢false (sym k)), (λ k. absurd (true≢false (sym k)), tt)),
  ),
)

fresh-long : (k : ℕ) → window * record_size ≤ k → window * record_size ≤ length {A = ℕ} (replicate k 0)
fresh-long k h = omega (arith, length-replicate {A = ℕ} k 0)

-- b is a second value, and what 10 shows when it has come
pub record Case9 (b : ℕ) (ten : List ℕ) : Type 0 where
  pub low : b < in_band
  pub other : b ≡ 10 → ⊥
  pub reads : read_of (unit5 b 0x42) ≡ reading 5 (description b 1)
  pub ten-shows : (store : List ℕ) → window * record_size ≤ length store → S.shown [] (store₂ store b) (newest₂ store b) 10 ≡ ten

-- from set-up, in any lent memory that is long enough, whatever all others do
pub describing : (b : ℕ) (ten : List ℕ) → Case9 b ten → (n desk : ℕ) → desk < n → (s : Tables) → (set_up n s).answer ≡ Ready
    → (xs : List Call) → only desk xs ≡ describes desk b → to desk (run (set_up n s).tables xs) ≡ describes_gets ten
describing b ten c n desk h s e xs q =
    let l : window * record_size ≤ length {A = ℕ} (replicate store_size 0) = fresh-long store_size (omega arith) in
    as-fresh n desk h s e xs (describes desk b) q (frugal desk b c.reads fresh_view)
    ∙ gets-alone (replicate store_size 0) l b c.low c.other desk c.reads ten (c.ten-shows (replicate store_size 0) l) (λ time. closed) 0
    (replicate finished_most 0)

-- 74 is 64 ahead of 10: it becomes newest, and 10 is forgotten
pub then-74 : Case9 74 []
unfolding read_of broken judged text_judged ill_text well_formed well_within fields_of least bad_description in_window moved ◌⇒◌⁏◌ ◌<?◌ ◌=?◌
then-74 = record {
  low = omega arith;
  other = λ q. omega arith;
  reads = refl;
  ten-shows = λ store long. ten-gone store long 74 (omega arith) (λ q. omega arith) refl;
}

-- 75 is 65 ahead: newest ten-stays, and 75 is the oldest of its window, 63 before it
pub then-75 : Case9 75 (0x41 ∷ [])
unfolding read_of broken judged text_judged ill_text well_formed well_within fields_of least bad_description in_window moved ◌⇒◌⁏◌ ◌<?◌ ◌=?◌
then-75 = record {
  low = omega arith;
  other = λ q. omega arith;
  reads = refl;
  ten-shows = λ store long. ten-stays store long 75 (omega arith) (λ q. omega arith) refl;
}
