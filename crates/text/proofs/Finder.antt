-- The finder: `character` finds exactly the encodings of scalar values. Assumes nothing.
use Rattle.std.specs.Prelude.{ℕ, zero, suc, ◌+◌, ◌<◌, ◌≤◌, ◌≡◌, refl, Bool, Option, Some, None, List, ◌++◌, length, drop, get_or}
use Rattle.std.proofs.Common.{arith, sym, ap, ◌∙◌, length-take, length-drop, drop-cons}
use Rattle.std.proofs.Math.Bool.{true, false}
use Rattle.laws.specs.Rows.{◌⇒◌⁏◌, ◌<?◌, ◌=?◌, yes, no, lt_of, lt, ge, eq, ne}
use Rattle.laws.specs.Exactly.{Exactly}
use Rattle.octets.specs.Be.{u8_at}
use Rattle.text.specs.declared.Row.{Row}
use Rattle.text.specs.Chart.{chart, within, follows, charted, paired}
use Rattle.text.specs.Found.{found, found_is}
use Rattle.text.specs.Unicode.{scalar, utf8, utf16, encoded, character}
use Rattle.text.specs.Laws.{saw}
use Rattle.text.proofs.Encoding.{encoded-sized}
use Rattle.text.proofs.Ranges.{within-not}
use Rattle.text.specs.Front.{Front}
use Rattle.text.proofs.Front.{exactly}
use Rattle.text.proofs.Eight.{chart-sound, chart-complete}
use Rattle.text.proofs.Sixteen.{paired-sound, paired-complete}

-- where the finder finds something, s begins with the encoding of a scalar value, which is as long as the finder says
pub finder-sound : (U : ℕ) (s : List ℕ) → 0 < character U s → Front (encoded U) s (character U s)
unfolding character encoded ◌⇒◌⁏◌
finder-sound U s = go (U =? 0)
  where
    go : (b : Bool) → 0 < (b ⇒ charted chart s ⁏ paired s) → Front (λ c. b ⇒ utf8 c ⁏ utf16 c) s (b ⇒ charted chart s ⁏ paired s)
    go true = chart-sound s
    go false = paired-sound s

-- where s begins with the encoding of a scalar value, the finder finds it
pub finder-complete : (U c : ℕ) (rest : List ℕ) → scalar c ≡ true → character U (encoded U c ++ rest) ≡ length (encoded U c)
unfolding character encoded ◌⇒◌⁏◌
finder-complete U c rest good = go (U =? 0)
  where
    go : (b : Bool)
        → (b ⇒ charted chart ((b ⇒ utf8 c ⁏ utf16 c) ++ rest) ⁏ paired ((b ⇒ utf8 c ⁏ utf16 c) ++ rest)) ≡ length (b ⇒ utf8 c ⁏ utf16 c)
    go true = chart-complete c rest good
    go false = paired-complete c rest good

-- so it finds n bytes exactly if s begins with n bytes that are the encoding of a scalar value; by `only` nothing else does
pub finder-exactly : (U : ℕ) (s : List ℕ) (n : ℕ) → Exactly ((0 < n) × (character U s ≡ n)) (Front (encoded U) s n)
finder-exactly U = exactly (encoded U) (character U) (λ c. (encoded-sized U c).0) (finder-sound U) (finder-complete U)

-- what is found lies within the bytes, and is at most four of them
pub character-within : (U : ℕ) (s : List ℕ) → (character U s ≤ length s) × (character U s ≤ 4)
character-within U s = go (character U s) refl
  where
    go : (k : ℕ) → character U s ≡ k → (character U s ≤ length s) × (character U s ≤ 4)
    go zero e = omega arith
    go (suc k) e =
        let f = finder-sound U s (omega arith) in
        let z = encoded-sized U f.value in
        omega (arith, ap length f.front, f.size, length-take (character U s) s)

-- so a place behind what is found there lies within the bytes too
pub character-at : (U : ℕ) (s : List ℕ) (at : ℕ) → at ≤ length s → at + character U (drop at s) ≤ length s
character-at U s at h = omega (arith, character-within U (drop at s), length-drop at s)

-- a UTF-8 character is found by the chart, and one of UTF-16 by its units
pub eight_is : (s : List ℕ) → character 0 s ≡ charted chart s
unfolding character
eight_is s = sym (yes _ _ (eq 0 0 refl) refl)

pub sixteen_is : (s : List ℕ) → character 1 s ≡ paired s
unfolding character
sixteen_is s = sym (no _ _ (ne 1 0 (λ e. omega arith)) refl)

-- how a proof walks the chart, row by row
pub ruleset finding = (yes, no, lt, ge, eq, ne, eight_is, within-not)

-- any bit but 0 is 1
pub one_bit : (U : ℕ) (s : List ℕ) → (U ≡ 0 → ⊥) → character 1 s ≡ character U s
unfolding character
one_bit U s h = rw (ne U 0 h, ne 1 0 (λ e. omega arith))

-- ---- the same, told of a number that was answered
module _ (n : ℕ) (s : List ℕ) where
  pub by-chart : n ≡ charted chart s → n ≡ character 0 s
  unfolding character
  by-chart h = yes _ _ (eq 0 0 refl) h

  pub by_units : n ≡ paired s → n ≡ character 1 s
  unfolding character
  by_units h = no _ _ (ne 1 0 (λ e. omega arith)) h

-- how a proof walks the chart: the k-th of its rows is asked for the lead byte b, and passed over where b is none of its leads; else it
-- answers. Behind the last row there is none
module _ (k : ℕ) (s : List ℕ) (n : ℕ) (rows : List Row) (d : Row) (t : Bool) (b : ℕ)
    (h : k < 9) (e : rows ≡ chart) (asked : t ≡ within (get_or rows k d).0 b) (lead : b ≡ u8_at s 0) where
  asked_of : (v : Bool) → t ≡ v → within (get_or chart k d).0 (u8_at s 0) ≡ v
  asked_of v g = saw (within (get_or chart k d).0) t b (u8_at s 0) v (asked ∙ ap (λ (l : List Row). within (get_or l k d).0 b) e) lead g

  pub row-passed : t ≡ false → n ≡ charted (drop (suc k) chart) s → n ≡ charted (drop k chart) s
  unfolding charted chart
  row-passed g on = rw (drop-cons chart k d h) (no _ _ (asked_of false g) on)

  pub row_told : t ≡ true → n ≡ (follows (get_or rows k d) s ⇒ (get_or rows k d).2 ⁏ 0) → n ≡ charted (drop k chart) s
  unfolding charted chart
  row_told g on = rw (drop-cons chart k d h) (yes _ _ (asked_of true g) (rw e at on))

-- a lead byte past the last row of three bytes asks none of them
skipped : (s : List ℕ) → 0xEF < u8_at s 0 → charted (drop 6 chart) s ≡ charted (drop 2 chart) s
unfolding charted chart
skipped s h =
    no _ _ (within-not _ _ (omega arith))
    (no _ _ (within-not _ _ (omega arith)) (no _ _ (within-not _ _ (omega arith)) (no _ _ (within-not _ _ (omega arith)) refl)))

pub rows-skipped : (s : List ℕ) (rows : List Row) (d : Row) (t : Bool) (b : ℕ)
    → rows ≡ chart → t ≡ ((get_or rows 5 d).0.1 <? b) → b ≡ u8_at s 0 → t ≡ true → charted (drop 6 chart) s ≡ charted (drop 2 chart) s
unfolding chart
rows-skipped s rows d t b e asked lead h =
    let p : (0xEF <? b) ≡ true = ap (λ (l : List Row). (get_or l 5 d).0.1 <? b) (sym e) ∙ sym asked ∙ h in
    skipped s (omega (arith, lt_of _ _ p, lead))

pub rows_end : (s : List ℕ) → 0 ≡ charted (drop 9 chart) s
unfolding charted chart
rows_end s = refl
