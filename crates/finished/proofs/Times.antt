-- A desk's finished times, the last sixteen: they stand at the front of its row in order of finishing, the oldest first.
-- Assumes nothing.
use Rattle.std.specs.Prelude.{ℕ, suc, ◌+◌, ◌-◌, ◌≤◌, ◌<◌, get_or, min, ◌≡◌, refl, Bool, true, false, ◌||◌, nat_eq, List, [], ◌∷◌, length, take, drop, set}
use Rattle.std.proofs.Common.{arith, add-one, zero-add, ap, sym, ◌∙◌, length-append, length-drop, length-take, drop-cons, drop_of_length-le, drop-set-lt, drop-drop, drop_at, get_or-take, get_or-drop}
use Rattle.std.proofs.lemmas.List.{set_comm, get_or-set_other}
use Rattle.std.proofs.lemmas.List.Edits.{sets, sets-eq}
use Rattle.std.specs.List.{list_any}
use Rattle.std.proofs.Math.ListN.{get_or-append}
use Rattle.std.proofs.Math.Seq.{paste}
use Rattle.laws.specs.Rows.{◌⇒◌⁏◌, ◌or◌, ◌=?◌, yes, no, eq, ne}
use Rattle.laws.specs.Region.{part, take_min, sets-full, sets-append, sets-turn}
use Rattle.paper.specs.Limits.{finished_most}
use Rattle.finished.specs.Times.{times_of, among, down, ahead, moved_row}

-- `contains` goes through the row in the same order
pub among-any : (xs : List ℕ) (time : ℕ) → list_any (λ (x : ℕ). nat_eq x time) xs ≡ among xs time
unfolding among ◌⇒◌⁏◌ ◌=?◌
among-any [] time = refl
among-any (x ∷ xs) time = go (nat_eq x time) (among-any xs time)
  where
    go : (b : Bool) → list_any (λ (x : ℕ). nat_eq x time) xs ≡ among xs time → (b || list_any (λ (x : ℕ). nat_eq x time) xs) ≡ (b or among xs time)
    go true e = refl
    go false e = e

-- ---- a search that is not left early: what was hit so far, or what is still ahead, decides
pub hit-next : (xs : List ℕ) (i time : ℕ) (hit : Bool) → i < length xs
    → (hit or among (drop i xs) time) ≡ ((hit || nat_eq (get_or xs i 0) time) or among (drop (i + 1) xs) time)
unfolding among ◌⇒◌⁏◌ ◌=?◌
hit-next xs i time hit h = rw (drop-cons xs i 0 h, add-one i) (go hit (nat_eq (get_or xs i 0) time))
  where
    go : (a b : Bool) → (a or (b or among (drop (suc i) xs) time)) ≡ ((a || b) or among (drop (suc i) xs) time)
    go true b = refl
    go false true = refl
    go false false = refl

pub hit-end : (xs : List ℕ) (i time : ℕ) (hit : Bool) → length xs ≤ i → (hit or among (drop i xs) time) ≡ hit
unfolding among ◌⇒◌⁏◌
hit-end xs i time hit h = let e : drop i xs ≡ [] = drop_of_length-le xs {i = i} h in rw e (go hit)
  where
    go : (a : Bool) → (a or among [] time) ≡ a
    go true = refl
    go false = refl

-- ---- the others move down, and the time itself is the last
module _ (row : List ℕ) (time n : ℕ) (e : n ≡ min (length row) finished_most) where
  pub moves-none : n ≡ 0 → row ≡ moved_row row time
  unfolding moved_row
  moves-none z = sym (sets-full (down row time) row 0 (omega arith))

  pub moved-down : (n ≡ 0 → ⊥) → set (paste row 0 (drop 1 row) (n - 1)) (n - 1) time ≡ moved_row row time
  unfolding moved_row
  moved-down z =
      let p = part 1 (finished_most - 1) row in
      let q : min (length (drop 1 row)) (finished_most - 1) ≡ n - 1 = simp length-drop (omega arith) in
      let t : take (n - 1) (drop 1 row) ≡ p = rw (← q) (take_min (drop 1 row) (finished_most - 1)) in
      let m : length p ≡ n - 1 = simp (length-take, length-drop) (omega arith) in
      let s = sets-eq p row 0 (omega arith) in
      rw (t, ← m) (sym (sets-append p (time ∷ []) row 0 ∙ ap (λ (k : ℕ). set (sets row 0 p) k time) (zero-add (length p)) ∙ ap (λ (l : List ℕ). set l (length p) time) s))

-- ---- the same, number by number of the row
module _ (row : List ℕ) (used time i : ℕ) where
  first : i < min (min used finished_most) (length row) → ahead row used i ≡ get_or row i 0 ∷ ahead row used (suc i)
  first h =
      drop-cons (times_of row used) i 0 (simp length-take (omega arith))
      ∙ ap (λ (x : ℕ). x ∷ ahead row used (suc i)) (get_or-take (min used finished_most) row i 0 (omega arith))

  pub late-here : i < min (min used finished_most) (length row) → get_or row i 0 ≡ time → true ≡ among (ahead row used i) time
  unfolding among
  late-here h e = rw (first h) (yes _ _ (eq _ _ e) refl)

  pub late-next : i < min (min used finished_most) (length row) → (get_or row i 0 ≡ time → ⊥)
      → among (ahead row used i) time ≡ among (ahead row used (i + 1)) time
  unfolding among
  late-next h e = rw (first h, add-one) (sym (no _ _ (ne _ _ e) refl))

  pub late-end : min (min used finished_most) (length row) ≤ i → false ≡ among (ahead row used i) time
  unfolding among
  late-end h = let e : ahead row used i ≡ [] = drop_of_length-le (times_of row used) {i = i} (simp length-take (omega arith)) in rw e

-- ---- the others move down: what is still ahead is as it was, and moves down next
module _ (row₀ row : List ℕ) (time i : ℕ) (same : drop i row ≡ drop i row₀) where
  pub still-ahead : (v : ℕ) → drop (i + 1) (set row i v) ≡ drop (i + 1) row₀
  still-ahead v = drop-set-lt (i + 1) row i v (omega arith) ∙ sym (drop-drop 1 i row) ∙ ap (drop 1) same ∙ drop-drop 1 i row₀

  pub moves-down : i + 1 < min finished_most (length row₀) → get_or row (i + 1) 0 ≡ get_or (down row₀ time) i 0
  moves-down h =
      let q : 1 + i ≡ i + 1 = omega arith in
      sym (get_or-drop i row 1 0) ∙ ap (λ (l : List ℕ). get_or l 1 0) same ∙ get_or-drop i row₀ 1 0
      ∙ ap (λ (k : ℕ). get_or row₀ k 0) (sym q) ∙ sym (get_or-drop 1 row₀ i 0)
      ∙ sym (get_or-take (finished_most - 1) (drop 1 row₀) i 0 (omega arith))
      ∙ sym (get_or-append (part 1 (finished_most - 1) row₀) (time ∷ []) 0 i (simp (length-take, length-drop) (omega arith)))

-- the time itself is the last
pub last-is : (row₀ row : List ℕ) (time i last : ℕ) → i ≡ last → last + 1 ≡ min finished_most (length row₀)
    → sets row i (drop i (down row₀ time)) ≡ set row last time
last-is row₀ row time i last e h =
    let d : drop last (down row₀ time) ≡ time ∷ [] = drop_at (part 1 (finished_most - 1) row₀) (time ∷ []) last (simp (length-take, length-drop) (omega arith)) in
    rw (e, d)

-- ---- the same from the last number to the first: one store in front of those from k on
set-before : (vs l : List ℕ) (k j v : ℕ) → j < k → set (sets l k vs) j v ≡ sets (set l j v) k vs
set-before [] l k j v h = refl
set-before (w ∷ vs) l k j v h =
    set-before vs (set l k w) (suc k) j v (omega arith) ∙ ap (λ (m : List ℕ). sets m (suc k) vs) (set_comm l k j w v (omega (arith, h)))

get-before : (vs l : List ℕ) (k j : ℕ) → j < k → get_or (sets l k vs) j 0 ≡ get_or l j 0
get-before [] l k j h = refl
get-before (w ∷ vs) l k j h = get-before vs (set l k w) (suc k) j (omega arith) ∙ get_or-set_other l k j w 0 (omega (arith, h))

module _ (row₀ row : List ℕ) (time n k : ℕ) (e : n ≡ min (length row₀) finished_most)
    (r : row ≡ sets row₀ (n - k) (drop (n - k) (down row₀ time))) where
  pub one-moved : (next : ℕ) → k < n → next ≡ get_or (down row₀ time) (n - 1 - k) 0
      → set row (n - 1 - k) next ≡ sets row₀ (n - (k + 1)) (drop (n - (k + 1)) (down row₀ time))
  one-moved next h x =
      let d = down row₀ time in
      let a : n - (k + 1) ≡ n - 1 - k = omega arith in
      let s : n - k ≡ suc (n - 1 - k) = omega arith in
      rw (r, x, a, s) (set-before (drop (suc (n - 1 - k)) d) row₀ (suc (n - 1 - k)) (n - 1 - k) (get_or d (n - 1 - k) 0) (omega arith)
      ∙ sym (sets-turn row₀ (n - 1 - k) d (n - 1 - k) 0 (simp (length-append, length-take, length-drop) (omega arith))))

  pub next-moved : k + 1 < n → get_or row (n - 1 - k) 0 ≡ get_or (down row₀ time) (n - 1 - (k + 1)) 0
  next-moved h =
      let i : n - 1 - k ≡ n - 1 - (k + 1) + 1 = omega arith in
      rw (r, i) (get-before (drop (n - k) (down row₀ time)) row₀ (n - k) (n - 1 - (k + 1) + 1) (omega arith)
      ∙ moves-down row₀ row₀ time (n - 1 - (k + 1)) refl (omega arith))

  pub all-moved : n ≤ k → row ≡ moved_row row₀ time
  unfolding moved_row
  all-moved h = let z : n - k ≡ 0 = omega arith in r ∙ rw z refl
