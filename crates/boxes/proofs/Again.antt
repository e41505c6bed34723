-- 'Box again': a box that is put down is found as what it is, whatever stands before it and follows it, and boxes put down one after
-- the other are walked as that list. Assumes nothing.
use Rattle.std.specs.Prelude.{ℕ, zero, suc, ◌+◌, ◌-◌, ◌*◌, ◌/◌, ◌%◌, ◌<◌, ◌≤◌, ◌≡◌, refl, List, [], ◌∷◌, ◌++◌, take, Some, None, Ok}
use native.Mathlib.Omega.{arith}
use Rattle.std.proofs.Math.Path.{sym}
use Rattle.std.proofs.Common.{ap, ◌∙◌, append_assoc, length-append, get_or-append-add, take_at}
use Rattle.std.proofs.Math.ListN.{length}
use Rattle.std.proofs.Math.Seq.{drop-append_seam, drop-append-add}
use Rattle.laws.specs.Rows.{yes, no, ge, eq, ne}
use Rattle.laws.specs.Region.{part}
use Rattle.octets.specs.Be.{u8_at, u32_at}
use Rattle.boxes.specs.Found.{Found}
use Rattle.boxes.specs.declared.Stepped.{Stepped}
use Rattle.boxes.specs.Step.{header_size, size_at, type_at, finds, step_of, contents_of, Says}
use Rattle.boxes.proofs.Stepping.{box-is, contents-is, step-says}
use Rattle.boxes.specs.Walk.{Shown, Walk, onward, walk_of, walk}
use Rattle.boxes.specs.Again.{box_of, numbers32, Put, boxes_of, shown_of, walked_as}

-- ---- a number, back from its bytes; and a number that stands behind others
four : (x : ℕ) → x < numbers32 → (x / 16777216 % 256 * 256 + x / 65536 % 256) * 65536 + (x / 256 % 256 * 256 + x % 256) ≡ x
four x h =
    let a : x / 65536 / 256 ≡ x / 16777216 = omega arith in
    let b : x / 65536 % 256 + 256 * (x / 16777216) ≡ x / 65536 = omega arith in
    let c : x / 256 % 256 * 256 + x % 256 + 65536 * (x / 65536) ≡ x = omega arith in
    let d : x / 16777216 % 256 ≡ x / 16777216 = omega arith in
    omega arith

behind8 : (before rest : List ℕ) (i k : ℕ) → i ≡ length before + k → u8_at (before ++ rest) i ≡ u8_at rest k
behind8 before rest i k e = rw (e, get_or-append-add before rest k 0)

behind32 : (before rest : List ℕ) (i k : ℕ) → i ≡ length before + k → u32_at (before ++ rest) i ≡ u32_at rest k
behind32 before rest i k e =
    let a = behind8 before rest i k e in
    let b = behind8 before rest (i + 1) (k + 1) (omega arith) in
    let c = behind8 before rest (i + 2) (k + 2) (omega arith) in
    let d = behind8 before rest (i + 2 + 1) (k + 2 + 1) (omega arith) in
    cc

module _ (before : List ℕ) (t : ℕ) (c more : List ℕ) (small : t < numbers32) (fits : header_size + length c < numbers32) where
  abbrev all : List ℕ
  all = before ++ (box_of t c ++ more)

  size_is : header_size + length c ≡ size_at all (length before)
  size_is = sym (behind32 before (box_of t c ++ more) (length before) 0 (omega arith) ∙ four (header_size + length c) fits)

  type-is : t ≡ type_at all (length before)
  type-is = sym (behind32 before (box_of t c ++ more) (length before + 4) 4 refl ∙ four t small)

  length-all : length all ≡ length before + (header_size + length c + length more)
  length-all = simp length-append (omega arith)

  -- it is found as a box of its type, and the next place is behind it
  pub box-found : step_of all (length before) ≡ finds (Ok (Some t)) (length before + header_size + length c)
  unfolding step_of
  box-found =
      let l = length-all in
      let s = size_is in
      let n : length before + header_size + length c ≡ length before + (header_size + length c) = omega arith in
      sym
      (no _ _ (ge _ _ (omega arith))
      (no _ _ (ne _ _ (λ e. omega arith))
      (no _ _ (ge _ _ (omega arith))
      (no _ _ (ge _ _ (omega arith))
      (no _ _ (ge _ _ (omega arith))
      (ap (finds (Ok (Some t))) n ∙ box-is all (length before) (header_size + length c) t s type-is))))))

  -- and its contents are shown
  pub box-shown : contents_of all (length before) ≡ c
  box-shown =
      let n : size_at all (length before) - header_size ≡ length c = omega (arith, size_is) in
      sym (contents-is all (length before) (step_of all (length before)) (Ok (Some t)) refl (ap (λ (s : Stepped). s.found) box-found))
      ∙ ap (λ (k : ℕ). part (length before + header_size) k all) n
      ∙ ap (λ (l : List ℕ). take (length c) l) (drop-append-add before (box_of t c ++ more) header_size)
      ∙ take_at c more (length c) refl

-- ---- where a box is found, its contents run from behind its header to the next place
pub contents-run : (m : List ℕ) (at : ℕ) {t : ℕ} → (step_of m at).found ≡ Ok (Some t)
    → contents_of m at ≡ part (at + header_size) ((step_of m at).next - (at + header_size)) m
contents-run m at {t} e =
    let w : Says m at (Ok (Some t)) (step_of m at).next = rw e at (step-says m at) in
    let n : size_at m at - header_size ≡ (step_of m at).next - (at + header_size) = omega arith in
    sym (contents-is m at (step_of m at) (Ok (Some t)) refl e) ∙ ap (λ (k : ℕ). part (at + header_size) k m) n

put-end : (before : List ℕ) → (step_of (before ++ []) (length before)).found ≡ (Ok None)
unfolding step_of
put-end before =
    let l : length (before ++ []) ≡ length before = simp length-append (omega arith) in
    ap (λ (s : Stepped). s.found) (sym (no _ _ (ge _ _ (omega arith)) (yes _ _ (eq _ _ (omega arith)) refl)))

onward-box : {f : Found} {t : ℕ} {a b : Shown} {v w : Walk} → f ≡ Ok (Some t) → a ≡ b → v ≡ w
    → onward f a v ≡ record { boxes = b ∷ w.boxes; ended = w.ended }
onward-box e p q = rw (e, p, q)

shown-as : {h i c d : List ℕ} → h ≡ i → c ≡ d → ◌≡◌ {A = Shown} (record { header = h; contents = c }) (record { header = i; contents = d })
shown-as p q = rw (p, q)

walk-of : (bs : List Put) (n : ℕ) (before : List ℕ) → length bs ≤ n → walk_of n (before ++ boxes_of bs) (length before) ≡ walked_as bs
unfolding walk_of
walk-of [] zero before h = ap (λ (f : Found). record { boxes = []; ended = f }) (put-end before)
walk-of [] (suc n) before h = rw (put-end before)
walk-of (b ∷ bs) zero before h = absurd (omega arith)
walk-of (b ∷ bs) (suc n) before h =
    let box = box_of b.type b.contents in
    let f = box-found before b.type b.contents (boxes_of bs) b.small b.fits in
    let k : length before + header_size + length b.contents ≡ length (before ++ box) = simp length-append (omega arith) in
    onward-box (ap (λ (s : Stepped). s.found) f)
    (shown-as (ap (take header_size) (drop-append_seam before (box ++ boxes_of bs)))
    (box-shown before b.type b.contents (boxes_of bs) b.small b.fits))
    (ap (λ (p : ℕ). walk_of n (before ++ (box ++ boxes_of bs)) p) (ap (λ (s : Stepped). s.next) f ∙ k)
    ∙ ap (λ (l : List ℕ). walk_of n l (length (before ++ box))) (sym (append_assoc before box (boxes_of bs)))
    ∙ walk-of bs n (before ++ box) (omega arith))

-- there are no more boxes than bytes
boxes-few : (bs : List Put) → length bs ≤ length (boxes_of bs)
boxes-few [] = omega arith
boxes-few (b ∷ bs) = simp length-append (omega (arith, boxes-few bs))

-- boxes that are put down one after the other are walked as that list, to the end
pub boxes-again : (bs : List Put) → walk (boxes_of bs) 0 ≡ record { boxes = shown_of bs; ended = (Ok None) }
boxes-again bs = walk-of bs (length (boxes_of bs)) [] (boxes-few bs)
