-- Text put into an output: what does not fit is left out. Assumes nothing.
use Rattle.std.specs.Prelude.{ℕ, ◌+◌, ◌-◌, min, ◌≤◌, Bool, true, false, ◌≡◌, refl, List, ◌++◌, length, drop}
use Rattle.std.proofs.Common.{arith, sym, ap, ◌∙◌, length-append}
use Rattle.std.proofs.lemmas.List.Edits.{sets, sets-eq}
use Rattle.std.proofs.Math.Seq.{length-sets}
use Rattle.laws.specs.Rows.{◌<?◌, lt_of, ge-of}
use Rattle.laws.specs.Region.{sets-append, sets-full}

-- the output, and the place behind the text
pub record Page : Type 0 where
  pub out : List ℕ
  pub next : ℕ

abbrev pub page : (out : List ℕ) → (next : ℕ) → Page
page out next = record { out = out; next = next }

-- the text from `at` on; the place behind it is never past the end
unfoldable pub typed : (out : List ℕ) → (at : ℕ) → (text : List ℕ) → Page
typed out at text = page (sets out at text) (min (at + length text) (length out))

-- in the code's own values
pub typed-is : (out : List ℕ) (at : ℕ) (text after : List ℕ) (from many : ℕ) → after ≡ sets out at text
    → from ≡ min at (length after) → many ≡ min (length text) (length after - from) → page after (from + many) ≡ typed out at text
unfolding typed
typed-is out at text after from many e f m =
    let l : length after ≡ length out = rw e (length-sets out at text) in
    let n : from + many ≡ min (at + length text) (length out) = omega arith in
    rw (e, n)

-- a place past the end is as good as the end
sets-past : (l : List ℕ) (i k : ℕ) (vs : List ℕ) (b : Bool) → (length l <? k) ≡ b → i ≡ min k (length l) → sets l i vs ≡ sets l k vs
sets-past l i k vs true h e = let t = lt_of (length l) k h in sets-full vs l i (omega arith) ∙ sym (sets-full vs l k (omega arith))
sets-past l i k vs false h e = let t = ge-of (length l) k h in let q : i ≡ k = omega arith in rw q

-- one text behind the other
pub more : (out : List ℕ) (at : ℕ) (xs ys a : List ℕ) (m : ℕ) → page a m ≡ typed out at xs → typed a m ys ≡ typed out at (xs ++ ys)
unfolding typed
more out at xs ys a m e =
    let o : a ≡ sets out at xs = ap (λ (l : Page). l.out) e in
    let p : m ≡ min (at + length xs) (length out) = ap (λ (l : Page). l.next) e in
    let l : length a ≡ length out = rw o (length-sets out at xs) in
    let s : sets a m ys ≡ sets a (at + length xs) ys = sets-past a m (at + length xs) ys _ refl (omega arith) in
    let t : min (m + length ys) (length a) ≡ min (at + length (xs ++ ys)) (length out) = simp length-append (omega arith) in
    rw (t, s, o, sets-append xs ys out at)

pub then : (out : List ℕ) (at : ℕ) (xs ys a b : List ℕ) (m n : ℕ) → page a m ≡ typed out at xs → page b n ≡ typed a m ys
    → page b n ≡ typed out at (xs ++ ys)
then out at xs ys a b m n e f = f ∙ more out at xs ys a m e

-- where there is room for it, the text stands at the front, and what lies behind it is as it was
pub typed-front : (out text : List ℕ) → length text ≤ length out → typed out 0 text ≡ page (text ++ drop (length text) out) (length text)
unfolding typed
typed-front out text h =
    let n : min (0 + length text) (length out) ≡ length text = omega arith in
    let z : 0 + length text ≡ length text = omega arith in
    rw (n, sets-eq text out 0 (omega arith), z)
