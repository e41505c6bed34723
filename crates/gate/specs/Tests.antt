-- What the tests of 1 and 2 tell of the sizes, once they are passed. Assumes nothing.
use Rattle.gate.specs.Passes.{Through}
use Rattle.std.specs.Prelude.{ℕ, ◌+◌, ◌*◌, ◌^◌, ◌≤◌, ◌<◌, ◌≡◌, refl, Bool, Ok, Err}
use Rattle.std.specs.Result.{OnOk}
use Rattle.std.proofs.Common.{arith, sym, ◌∙◌, true≢false}
use Rattle.std.proofs.Math.Path.{ap}
use Rattle.std.proofs.Math.Bool.{true, false}
use Rattle.laws.specs.Rows.{◌⇒◌⁏◌, ◌or◌, ◌<?◌, yes, no, lt_of, ge-of, or-none, not-of}
use Rattle.paper.specs.Limits.{sample_most, finished_most, desks_most, head_size, marks_each, store_size, places, rows_need, marks_need, stores_need}
use Rattle.paper.specs.declared.Refusal.{Refusal}
use Rattle.paper.specs.declared.Refusal.TheVariants as R
use Rattle.memory.specs.Relay.{improper, stranger, short, lacks, lacks_three}
use Rattle.gate.specs.Passes.{Gate}
use Rattle.gate.specs.Gate.{gate_of, Holds}

pub either : (a b : Bool) → a ≡ true → (a or b) ≡ true
either a b h = sym (yes a b h refl)

pub other : (a b c : Bool) → a ≡ false → b ≡ c → (a or b) ≡ c
other a b c h k = sym (no a true h (sym k))

pub few : (n : ℕ) → improper n ≡ false → n ≤ desks_most
unfolding improper
few n h = ge-of desks_most n (or-none _ _ h).1

pub proper : (n desk : ℕ) → stranger n desk ≡ false → (n ≤ desks_most) × (desk < n)
unfolding stranger
proper n desk h = let k = or-none _ _ h in (few n k.0, lt_of desk n (not-of _ k.1))

pub long : (need have : ℕ) → short need have ≡ false → need ≤ have
unfolding short
long need have h = ge-of have need h

-- n desks' things lie within what is lent
abbrev pub LongThree : (n table rows marks : ℕ) → Type 0
LongThree n table rows marks = (places n ≤ table) × ((rows_need n ≤ rows) × (marks_need n ≤ marks))

pub three-long : (n table rows marks : ℕ) → lacks_three n table rows marks ≡ false → LongThree n table rows marks
three-long n table rows marks h =
    let a = or-none _ _ h in
    let b = or-none _ _ a.1 in
    (long (places n) table a.0, (long (rows_need n) rows b.0, long (marks_need n) marks b.1))

pub all-long : (n table rows marks stores : ℕ) → lacks n table rows marks stores ≡ false
    → LongThree n table rows marks × (stores_need n ≤ stores)
all-long n table rows marks stores h =
    let a = or-none _ _ h in (three-long n table rows marks a.0, long (stores_need n) stores a.1)

-- ... and so do those of a desk that is one of them
abbrev pub FitsThree : (n table rows marks desk : ℕ) → Type 0
FitsThree n table rows marks desk = ((n ≤ desks_most) × (desk < n)) × LongThree n table rows marks

abbrev pub Fits : (n table rows marks stores desk : ℕ) → Type 0
Fits n table rows marks stores desk = FitsThree n table rows marks desk × (stores_need n ≤ stores)

pub fits-three : (n table rows marks desk : ℕ) → stranger n desk ≡ false → lacks_three n table rows marks ≡ false
    → FitsThree n table rows marks desk
fits-three n table rows marks desk h k = (proper n desk h, three-long n table rows marks k)

-- ---- where the things of a desk that fits start and end, within the machine's numbers and within what is lent
module _ {n table rows marks desk : ℕ} (f : FitsThree n table rows marks desk) where
  pub desk-few : desk < desks_most
  desk-few = omega (arith, f.0)

  pub row-start : finished_most * desk < 2 ^ 64
  row-start = omega (arith, f.0)

  pub row-end : finished_most * desk + finished_most < 2 ^ 64
  row-end = omega (arith, f.0)

  -- in bytes
  pub row-byte : finished_most * desk * 4 < 2 ^ 64
  row-byte = omega (arith, f.0)

  pub row_within : finished_most * desk + finished_most ≤ rows
  row_within = omega (arith, f.0, f.1.1.0)

  pub mark-each : marks_each * desk < 2 ^ 64
  mark-each = omega (arith, f.0)

  pub mark-start : head_size + marks_each * desk < 2 ^ 64
  mark-start = omega (arith, f.0)

  pub mark-end : head_size + marks_each * desk + marks_each < 2 ^ 64
  mark-end = omega (arith, f.0)

  pub mark-byte : (head_size + marks_each * desk) * 4 < 2 ^ 64
  mark-byte = omega (arith, f.0)

  pub mark-within : head_size + marks_each * desk + marks_each ≤ marks
  mark-within = omega (arith, f.0, f.1.1.1)

module _ {n table rows marks stores desk : ℕ} (f : Fits n table rows marks stores desk) where
  pub store-start : store_size * desk < 2 ^ 64
  store-start = omega (arith, f.0.0)

  pub store-end : store_size * desk + store_size < 2 ^ 64
  store-end = omega (arith, f.0.0)

  pub store-within : store_size * desk + store_size ≤ stores
  store-within = omega (arith, f.0.0, f.1)

-- ---- the gate
why_of : Gate → Refusal
why_of (Ok u) = R.Desk
why_of (Err r) = r

is_through : Gate → Bool
is_through (Ok u) = true
is_through (Err r) = false

module _ (n table rows marks stores desk out : ℕ) (g : Gate) (f : g ≡ gate_of n table rows marks stores desk out) where
  abbrev one : Bool
  one = stranger n desk or lacks n table rows marks stores

  -- what a gate that is shut answers is what the two rows answer
  pub shut : {A : Type 0} (answer : Refusal → A) (a : A) (why : Refusal) → g ≡ Err why
      → answer why ≡ (one ⇒ answer R.Desk ⁏ out <? sample_most ⇒ answer R.Output ⁏ a)
  unfolding gate_of ◌⇒◌⁏◌ is_through why_of
  shut answer a why h = go one (out <? sample_most) (sym f ∙ h)
    where
      go : (x y : Bool) → (x ⇒ Err R.Desk ⁏ y ⇒ Err R.Output ⁏ Through) ≡ Err why
          → answer why ≡ (x ⇒ answer R.Desk ⁏ y ⇒ answer R.Output ⁏ a)
      go true y q = ap answer (sym (ap why_of q))
      go false true q = ap answer (sym (ap why_of q))
      go false false q = absurd (true≢false (ap is_through q))

  pub clear : g ≡ Through → (one ≡ false) × ((out <? sample_most) ≡ false)
  unfolding gate_of ◌⇒◌⁏◌ is_through
  clear h = go one (out <? sample_most) (sym f ∙ h)
    where
      go : (x y : Bool) → (x ⇒ Err R.Desk ⁏ y ⇒ Err R.Output ⁏ Through) ≡ Through → (x ≡ false) × (y ≡ false)
      go true y q = absurd (true≢false (sym (ap is_through q)))
      go false true q = absurd (true≢false (sym (ap is_through q)))
      go false false q = (refl, refl)

  pub fits : g ≡ Through → Fits n table rows marks stores desk
  fits h =
      let a = or-none _ _ (clear h).0 in
      let b = all-long n table rows marks stores a.1 in
      ((proper n desk a.0, b.0), b.1)

-- the gate that was asked for k desks and stores of a length that was told, of the number that is put down and of the stores
pub gate-at : (k n table rows marks told stores desk out : ℕ) (g : Gate) → g ≡ gate_of k table rows marks told desk out
    → k ≡ n → stores ≡ told → g ≡ gate_of n table rows marks stores desk out
gate-at k n table rows marks told stores desk out g h e f = h ∙ rw (e, f)

-- a gate that is through leaves the desk's own things within what is lent
pub held : (n table rows marks stores desk out : ℕ) (g : Gate) → g ≡ gate_of n table rows marks stores desk out
    → OnOk g (Holds desk rows marks stores)
held n table rows marks stores desk out (Err r) f = tt
held n table rows marks stores desk out (Ok u) f =
    let k = fits n table rows marks stores desk out (Ok u) f refl in
    (desk-few k.0, (row_within k.0, (mark-within k.0, store-within k)))
