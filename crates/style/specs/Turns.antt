-- The loops, one turn and the end of each: to go on with what is left is to do all. Assumes nothing.
use Rattle.style.specs.Checked.{bad}
use Prim.Native.Nat.{ℕ, suc, ◌+◌, ◌-◌, ◌*◌, ◌/◌, ◌<◌, ◌≤◌}
use native.Mathlib.Omega.{arith}
use Rattle.std.proofs.Math.Numerals.{add-one}
use Rattle.std.specs.Prelude.{List, [], true, false, ◌≡◌, refl, length, get_or, drop, Ok, Err}
use Rattle.std.proofs.Common.{sym, drop_of_length-le}
use Rattle.std.proofs.Math.Seq.{drop-cons, take-nil}
use Rattle.laws.specs.Rows.{yes, no, lt, ge, eq, ne}
use Rattle.paper.specs.Limits.{record_size, description_most}
use Rattle.paper.specs.declared.Refusal.TheVariants.{Book}
use Rattle.paper.specs.declared.Outcome.TheVariants.{Described}
use Rattle.style.specs.Record.{record_at, index_of, description_of, filled}
use Rattle.style.specs.Book.{bad_record, check_from, entry_from}
use Rattle.style.specs.Store.{moved, held, repeated, improper, forgotten_at, forgotten_from, forgotten, stored, noted_as, left, noted}

-- ---- past the last record there is none
pub record-past : (s : List ℕ) (i : ℕ) → length s / record_size < i → record_at s i ≡ []
record-past s i h = let q : length s ≤ record_size * i = omega arith in rw (drop_of_length-le s q) (take-nil record_size)

-- ---- a byte that is not zero
module _ (s : List ℕ) (i : ℕ) where
  pub filled-here : i < length s → 0 < get_or s i 0 → filled (drop i s) ≡ true
  unfolding filled
  filled-here h k = rw (drop-cons s i 0 h) (sym (yes _ _ (lt _ _ k) refl))

  pub filled_next : i < length s → get_or s i 0 ≤ 0 → filled (drop i s) ≡ filled (drop (i + 1) s)
  unfolding filled
  filled_next h k = rw (add-one, drop-cons s i 0 h) (sym (no _ _ (ge _ _ k) refl))

  pub filled-end : length s ≤ i → filled (drop i s) ≡ false
  unfolding filled
  filled-end h = rw (drop_of_length-le s h)

-- ---- the check of a book, from record i of n on
module _ (book : List ℕ) (i n : ℕ) where
  pub check-here : i < n → bad_record book i ≡ true → check_from book i (n - i) ≡ Err (bad Book i)
  unfolding check_from
  check-here h k = let q : n - i ≡ suc (n - (i + 1)) = omega arith in rw q (sym (yes _ _ k refl))

  pub check-next : i < n → bad_record book i ≡ false → check_from book i (n - i) ≡ check_from book (i + 1) (n - (i + 1))
  unfolding check_from
  check-next h k = let q : n - i ≡ suc (n - (i + 1)) = omega arith in rw (q, add-one i) (sym (no _ _ k refl))

  pub check-end : i ≤ n → n ≤ i → check_from book i (n - i) ≡ Ok n
  unfolding check_from
  check-end h k = let q : n - i ≡ 0 = omega arith in let e : i ≡ n = omega arith in rw (q, e)

  -- ---- an index looked up
  module _ (index : ℕ) where
    pub entry_here : i < n → index_of (record_at book i) ≡ index → entry_from book index i (n - i) ≡ description_of (record_at book i)
    unfolding entry_from
    entry_here h k = let q : n - i ≡ suc (n - (i + 1)) = omega arith in rw q (sym (yes _ _ (eq _ _ k) refl))

    pub entry_next : i < n → (index_of (record_at book i) ≡ index → ⊥) → entry_from book index i (n - i) ≡ entry_from book index (i + 1) (n - (i + 1))
    unfolding entry_from
    entry_next h k = let q : n - i ≡ suc (n - (i + 1)) = omega arith in rw (q, add-one i) (sym (no _ _ (ne _ _ k) refl))

    pub entry-end : n ≤ i → entry_from book index i (n - i) ≡ []
    unfolding entry_from
    entry-end h = let q : n - i ≡ 0 = omega arith in rw q

-- ---- slots forgotten, from slot i of n on
pub forgotten-turn : (newest new : ℕ) (store : List ℕ) (i n : ℕ) → i < n
    → forgotten_from newest new store i (n - i) ≡ forgotten_from newest new (forgotten_at newest new store i) (i + 1) (n - (i + 1))
unfolding forgotten_from
forgotten-turn newest new store i n h = let q : n - i ≡ suc (n - (i + 1)) = omega arith in rw (q, add-one i)

pub forgotten-end : (newest new : ℕ) (store : List ℕ) (i n : ℕ) → n ≤ i → forgotten_from newest new store i (n - i) ≡ store
unfolding forgotten_from
forgotten-end newest new store i n h = let q : n - i ≡ 0 = omega arith in rw q

-- ---- a description that is stored, in the code's own values: s is the store when all outside the window is forgotten, t the store in the end
pub noted-described : (store : List ℕ) (newest sidx : ℕ) (d : List ℕ) → improper sidx d ≡ false → length d ≤ description_most
    → repeated store newest sidx d ≡ false → held store newest sidx ≡ false
    → (new : ℕ) → new ≡ moved newest sidx → (s : List ℕ) → s ≡ forgotten newest new store → (t : List ℕ) → t ≡ stored s sidx d
    → left (noted_as new Described) t ≡ noted store newest sidx d
unfolding noted
noted-described store newest sidx d i l r h new en s es t et =
    rw (et, es, en) (no _ _ i (no _ _ (ge _ _ l) (no _ _ r (no _ _ h refl))))
