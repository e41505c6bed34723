-- A style book whose indexes rise: what is shown of it. Assumes nothing.
use Rattle.style.specs.Checked.{bad}
use Rattle.style.specs.declared.BadRecord.{BadRecord}
use Prim.Native.Nat.{ℕ, zero, suc, ◌+◌, ◌-◌, ◌≤◌, ◌<◌}
use native.Mathlib.Omega.{arith}
use Rattle.std.proofs.Common.{eq-or-lt_of_le, ◌∙◌}
use Rattle.std.specs.Prelude.{true, List, [], Ok, Err}
use Rattle.std.proofs.Math.Bool.{false}
use Rattle.std.proofs.Math.Path.{◌≡◌, refl, sym, ap}
use Rattle.std.proofs.Math.Logic.{⊎_elim}
use Rattle.laws.specs.Rows.{◌<?◌, yes, no, lt, ge, eq, ne, ge-of, or-none}
use Rattle.paper.specs.Limits.{in_band, reserved}
use Rattle.paper.specs.declared.Refusal.{Refusal}
use Rattle.paper.specs.declared.Refusal.TheVariants.{Book}
use Rattle.style.specs.Record.{record_at, index_of, description_of}
use Rattle.style.specs.Book.{broken, falling, bad_record, count_of, check_from, check_of, entry_from}
use Rattle.style.specs.Shown.{shown}
use Rattle.style.specs.Puts.{either}

module _ (book : List ℕ) where
  abbrev pub index_at : ℕ → ℕ
  index_at i = index_of (record_at book i)

  -- ---- in a good book no record is bad, and the check tells how many there are
  good-from : (n i m : ℕ) → check_from book i n ≡ Ok m → (m ≡ i + n) × ((j : ℕ) → i ≤ j → j < i + n → bad_record book j ≡ false)
  unfolding check_from
  good-from zero i m h = let e : i ≡ m = cc in (omega arith, λ j l k. absurd (omega arith))
  good-from (suc n) i m h =
      ⊎_elim
      (λ b. let e : Err (bad Book i) ≡ Ok m = yes _ _ b refl ∙ h in let z : ◌≡◌ {A = ℕ} 0 1 = cc in absurd (omega arith))
      (λ b.
      let g = good-from n (suc i) m (no _ _ b refl ∙ h) in
      (omega (arith, g.0), λ j l k. ⊎_elim (λ e. rw (← e) b) (λ r. g.1 j r (omega arith)) (eq-or-lt_of_le l))) (either (bad_record book i))

  pub good-all : (n : ℕ) → check_of book ≡ Ok n → (n ≡ count_of book) × ((j : ℕ) → j < n → bad_record book j ≡ false)
  good-all n h =
      let g = good-from (count_of book) 0 n h in
      (omega (arith, g.0), λ j k. g.1 j (omega arith) (omega (arith, g.0)))

  -- in a book that is refused, the record that is told is the first bad one
  first-from : (n i m : ℕ) (r : Refusal) → check_from book i n ≡ Err (bad r m)
      → (r ≡ Book) × ((m < i + n) × ((bad_record book m ≡ true) × ((j : ℕ) → i ≤ j → j < m → bad_record book j ≡ false)))
  unfolding check_from
  first-from zero i m r h = let z : ◌≡◌ {A = ℕ} 0 1 = cc in absurd (omega arith)
  first-from (suc n) i m r h =
      ⊎_elim
      (λ b.
      let e : Err (bad Book i) ≡ Err (bad r m) = yes _ _ b refl ∙ h in
      let k : bad Book i ≡ bad r m = cc in
      let f : r ≡ Book = sym (ap (λ (b : BadRecord). b.why) k) in
      let q : i ≡ m = ap (λ (b : BadRecord). b.at) k in
      (f, (omega arith, (rw (← q) b, λ j l k. absurd (omega arith)))))
      (λ b.
      let g = first-from n (suc i) m r (no _ _ b refl ∙ h) in
      (g.0, (omega (arith, g.1.0), (g.1.1.0, λ j l k. ⊎_elim (λ e. rw (← e) b) (λ s. g.1.1.1 j s k) (eq-or-lt_of_le l))))) (either (bad_record book i))

  pub first-bad : (r : Refusal) (i : ℕ) → check_of book ≡ Err (bad r i)
      → (r ≡ Book) × ((i < count_of book) × ((bad_record book i ≡ true) × ((j : ℕ) → j < i → bad_record book j ≡ false)))
  first-bad r i h =
      let g = first-from (count_of book) 0 i r h in
      (g.0, (omega (arith, g.1.0), (g.1.1.0, λ j k. g.1.1.1 j (omega arith) k)))

  -- ---- what a record that is not bad says
  ranged : (i : ℕ) → bad_record book i ≡ false → (in_band ≤ index_at i) × (index_at i < reserved)
  unfolding bad_record broken
  ranged i h =
      let b = or-none _ _ (or-none _ _ (or-none _ _ (or-none _ _ h).0).1).0 in
      let l = ge-of (index_at i) in_band b.0 in
      let m = ge-of (reserved - 1) (index_at i) b.1 in
      (l, omega arith)

  rises : (i : ℕ) → bad_record book (suc i) ≡ false → index_at i < index_at (suc i)
  unfolding bad_record falling
  rises i h =
      let z : suc i - 1 ≡ i = omega arith in
      let f : (index_at (suc i) <? index_at i + 1) ≡ false = yes _ _ (lt 0 (suc i) (omega arith)) refl ∙ (rw z at (or-none _ _ h).1) in
      omega (arith, ge-of (index_at (suc i)) (index_at i + 1) f)

  rising : (i j : ℕ) → i < j → ((k : ℕ) → k ≤ j → bad_record book k ≡ false) → index_at i < index_at j
  rising i zero l g = absurd (omega arith)
  rising i (suc j) l g =
      let s = rises j (g (suc j) (omega arith)) in
      ⊎_elim
      (λ e. rw e s)
      (λ m. omega (arith, rising i j m (λ k h. g k (omega arith)))) (eq-or-lt_of_le {n = i} {m = j} (omega arith))

  -- ---- an index that is looked up
  entry_found : (x n i j : ℕ) → i ≤ j → j < i + n → ((k : ℕ) → i ≤ k → k < j → index_at k ≡ x → ⊥) → index_at j ≡ x
      → entry_from book x i n ≡ description_of (record_at book j)
  unfolding entry_from
  entry_found x zero i j l h g e = absurd (omega arith)
  entry_found x (suc n) i j l h g e =
      ⊎_elim
      (λ q. rw q (sym (yes _ _ (eq _ _ e) refl)))
      (λ m.
      sym (no _ _ (ne _ _ (g i (omega arith) m)) (sym (entry_found x n (suc i) j m (omega arith) (λ k a b. g k (omega arith) b) e))))
      (eq-or-lt_of_le l)

  entry-none : (x n i : ℕ) → ((k : ℕ) → i ≤ k → k < i + n → index_at k ≡ x → ⊥) → entry_from book x i n ≡ []
  unfolding entry_from
  entry-none x zero i g = refl
  entry-none x (suc n) i g =
      sym (no _ _ (ne _ _ (g i (omega arith) (omega arith))) (sym (entry-none x n (suc i) (λ k a b. g k (omega arith) (omega arith)))))

  -- ---- what is shown, whatever the desk holds
  module _ (store : List ℕ) (newest : ℕ) where
    -- in a good book, of an index that record i has: the description of record i
    pub book-shown : (n : ℕ) → check_of book ≡ Ok n → (i : ℕ) → i < n → shown book store newest (index_at i) ≡ description_of (record_at book i)
    unfolding shown
    book-shown n h i l =
        let g = (good-all n h).1 in
        let r = ranged i (g i l) in
        sym
        (no _ _ (ge _ _ r.0)
        (yes _ _ (lt _ _ r.1)
        (rw h
        (sym (entry_found (index_at i) n 0 i (omega arith) (omega arith) (λ k a b e. omega (arith, rising k i b (λ m c. g m (omega arith)))) refl)))))

    -- of one above 127 that no record has: nothing
    pub book-none : (n : ℕ) → check_of book ≡ Ok n → (x : ℕ) → in_band ≤ x → ((i : ℕ) → i < n → index_at i ≡ x → ⊥)
        → shown book store newest x ≡ []
    unfolding shown
    book-none n h x l g =
        sym
        (no _ _ (ge _ _ l)
        (⊎_elim
        (λ t. yes _ _ t (rw h (sym (entry-none x n 0 (λ k a b. g k (omega arith))))))
        (λ t. no _ _ t refl) (either (x <? reserved))))

    -- a book that breaks the rules shows nothing of any index above 127
    pub book-broken : (r : Refusal) (i : ℕ) → check_of book ≡ Err (bad r i) → (x : ℕ) → in_band ≤ x → shown book store newest x ≡ []
    unfolding shown
    book-broken r i h x l =
        sym
        (no _ _ (ge _ _ l)
        (⊎_elim (λ t. yes _ _ t (rw h)) (λ t. no _ _ t refl) (either (x <? reserved))))
