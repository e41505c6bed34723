-- Finding the part of a number in one pass: what the pass does at each part, and that it counts them and stops at the right one.
-- Assumes nothing.
use Rattle.std.specs.Prelude.{ℕ, suc, ◌+◌, ◌-◌, ◌≤◌, ◌<◌, ◌≡◌, refl, take, get_or}
use Rattle.std.proofs.Common.{arith, sym, ◌∙◌, length-drop, drop-drop, take_at, drop_at}
use Rattle.std.proofs.Math.Path.{ap}
use mathlib.Core.List.{List, [], ◌∷◌, ◌++◌, append_assoc, flatten}
use Rattle.std.proofs.Math.ListN.{length, drop}
use Rattle.std.proofs.Math.Seq.{length-take-le}
use Rattle.std.proofs.Math.Decide.{ℕ_discrete}
use Rattle.laws.specs.Rows.{◌⇒◌⁏◌, ◌=?◌, each, eq, ne}
use Rattle.laws.specs.Rows as Rows
use Rattle.laws.specs.Region.{part}
use Rattle.text.specs.Unicode.{reach, boundary}
use Rattle.text.proofs.Boundary.{boundary-whole}
use Rattle.writer.specs.Cut.{cuts, strings}
use Rattle.writer.proofs.Parts.{cuts-end, cuts-turn}
use Rattle.writer.specs.declared.PartFound.{PartFound}
use Rattle.writer.specs.Find.{found, turned, sought, Passed}

-- ---- all parts are counted; once the number is passed, what was found stays
turned-hit : (number : ℕ) (f : PartFound) (e e' : ℕ) → f.count + 1 ≡ number → turned number f e e' ≡ found (f.count + 1) e e'
unfolding turned
turned-hit number f e e' h = sym (Rows.yes _ _ (eq _ _ h) refl)

turned-other : (number : ℕ) (f : PartFound) (e e' : ℕ) → (f.count + 1 ≡ number → ⊥) → turned number f e e' ≡ found (f.count + 1) f.from f.to
unfolding turned
turned-other number f e e' h = sym (Rows.no _ _ (ne _ _ h) refl)

pub turned-count : (number : ℕ) (f : PartFound) (e e' : ℕ) → (turned number f e e').count ≡ f.count + 1
unfolding turned
turned-count number f e e' = each (λ (g : PartFound). g.count ≡ f.count + 1) _ _ _ (λ q. refl) (λ q. refl)

pub sought-count : (number e : ℕ) (f : PartFound) (ps : List (List ℕ)) → (sought number e f ps).count ≡ f.count + length ps
unfolding sought
sought-count number e f [] = omega arith
sought-count number e f (p ∷ ps) =
    let e' = e + length p in
    omega (arith, sought-count number e' (turned number f e e') ps, turned-count number f e e')

sought-passed : (number e : ℕ) (f : PartFound) (ps : List (List ℕ)) → number ≤ f.count
    → ((sought number e f ps).from ≡ f.from) × ((sought number e f ps).to ≡ f.to)
unfolding sought
sought-passed number e f [] h = (refl, refl)
sought-passed number e f (p ∷ ps) h =
    let e' = e + length p in
    let t = turned-other number f e e' (λ q. omega arith) in
    let ih = sought-passed number e' (turned number f e e') ps (omega (arith, turned-count number f e e')) in
    (ih.0 ∙ ap (λ (g : PartFound). g.from) t, ih.1 ∙ ap (λ (g : PartFound). g.to) t)

-- what it finds in s, where the parts stand one after the other from e on: the part of the number
hit : (p : List ℕ) (ps : List (List ℕ)) (rest : List ℕ) (number e : ℕ) (f r : PartFound) (s : List ℕ) → drop e s ≡ p ++ rest
    → f.count + 1 ≡ number → r ≡ sought number (e + length p) (turned number f e (e + length p)) ps → part r.from (r.to - r.from) s ≡ p
hit p ps rest number e f r s d q x =
    let e' = e + length p in
    let t = turned-hit number f e e' q in
    let h = sought-passed number e' (turned number f e e') ps (omega (arith, turned-count number f e e')) in
    let a : r.from ≡ e = ap (λ (g : PartFound). g.from) x ∙ h.0 ∙ ap (λ (g : PartFound). g.from) t in
    let z : r.to ≡ e' = ap (λ (g : PartFound). g.to) x ∙ h.1 ∙ ap (λ (g : PartFound). g.to) t in
    let l : r.to - r.from ≡ length p = omega arith in
    rw (l, a, d) (take_at p rest (length p) refl)

pub sought-part : (ps : List (List ℕ)) (rest : List ℕ) (number e : ℕ) (f r : PartFound) (s : List ℕ) → drop e s ≡ flatten ps ++ rest
    → f.count < number → number ≤ f.count + length ps → r ≡ sought number e f ps
    → part r.from (r.to - r.from) s ≡ get_or ps (number - 1 - f.count) []
unfolding sought flatten
sought-part [] rest number e f r s d lo hi x = absurd (omega arith)
sought-part (p ∷ ps) rest number e f r s d lo hi x =
    go (ℕ_discrete (f.count + 1) number)
    (sought-part ps rest number (e + length p) (turned number f e (e + length p)) r s
    (sym (drop-drop (length p) e s) ∙ ap (drop (length p)) d' ∙ drop_at p (flatten ps ++ rest) (length p) refl))
  where
    d' : drop e s ≡ p ++ (flatten ps ++ rest)
    d' = d ∙ append_assoc p (flatten ps) rest

    go : Dec (f.count + 1 ≡ number)
        → ((turned number f e (e + length p)).count < number → number ≤ (turned number f e (e + length p)).count + length ps
        → r ≡ sought number (e + length p) (turned number f e (e + length p)) ps
        → part r.from (r.to - r.from) s ≡ get_or ps (number - 1 - (turned number f e (e + length p)).count) [])
        → part r.from (r.to - r.from) s ≡ get_or (p ∷ ps) (number - 1 - f.count) []
    go (yes q) ih =
        let i : number - 1 - f.count ≡ 0 = omega arith in
        rw i (hit p ps (flatten ps ++ rest) number e f r s d' q x)
    go (no q) ih =
        let t = turned-count number f e (e + length p) in
        let i : number - 1 - f.count ≡ suc (number - 1 - (turned number f e (e + length p)).count) = omega arith in
        rw i (ih (omega arith) (omega arith) x)

-- ---- the pass in the code's own values: e is where the next part starts
module _ (size : List ℕ → ℕ) (within : (s : List ℕ) → size s ≤ length s) where
  pub sought-end : (number e : ℕ) (f : PartFound) (s : List ℕ) → size (drop e s) ≡ 0 → f ≡ sought number e f (cuts size (drop e s))
  unfolding sought
  sought-end number e f s h = rw (cuts-end size within (drop e s) h)

  pub sought-turn : (number e e' : ℕ) (f : PartFound) (s : List ℕ) → (size (drop e s) ≡ 0 → ⊥) → e' ≡ e + size (drop e s)
      → sought number e f (cuts size (drop e s)) ≡ sought number e' (turned number f e e') (cuts size (drop e' s))
  unfolding sought
  sought-turn number e e' f s h q =
      let n = size (drop e s) in
      let l : length (take n (drop e s)) ≡ n = length-take-le n (drop e s) (within (drop e s)) in
      ap (sought number e f) (cuts-turn size within (drop e s) h) ∙ go (e + length (take n (drop e s))) (drop n (drop e s)) (omega arith) (rw q (drop-drop n e s))
    where
      go : (a : ℕ) (r : List ℕ) → a ≡ e' → r ≡ drop e' s
          → sought number a (turned number f e a) (cuts size r) ≡ sought number e' (turned number f e e') (cuts size (drop e' s))
      go a r x y = rw (x, y)

-- ---- over a string: where the pass stands when the parts before e are counted
pub string-within : (U k : ℕ) (s : List ℕ) → reach U s k ≤ length s
string-within U k s = (boundary-whole U s k).there

pub next-is : (U k e : ℕ) (s : List ℕ) → boundary U s e (e + k) ≡ e + reach U (drop e s) k
unfolding boundary
next-is U k e s = let q : e + k - e ≡ k = omega arith in rw q

-- one turn, and the end
module _ (U k number : ℕ) (s : List ℕ) (f : PartFound) (e next : ℕ) (p : Passed U k number s f e) (n : next ≡ boundary U s e (e + k)) where
  pub passed_on : (next ≡ e → ⊥) → (g : PartFound) → g ≡ turned number f e next → Passed U k number s g next
  passed_on h g q =
      let l = next-is U k e s in
      let z : reach U (drop e s) k ≡ 0 → ⊥ = λ z. h (omega arith) in
      record {
        inside = omega (arith, string-within U k (drop e s), length-drop e s, p.inside);
        counted = omega (arith, ap (λ (x : PartFound). x.count) q, turned-count number f e next, p.counted, z);
        same = p.same ∙ sought-turn (λ t. reach U t k) (string-within U k) number e next f s z (n ∙ l) ∙ ap (λ (x : PartFound). sought number next x (strings U k (drop next s))) (sym q);
      }

  pub passed-all : next ≡ e → f ≡ sought number 0 (found 0 0 0) (strings U k s)
  passed-all h =
      sought-end (λ t. reach U t k) (string-within U k) number e f s (omega (arith, next-is U k e s)) ∙ sym p.same

  pub next-inside : next ≤ length s
  next-inside = omega (arith, next-is U k e s, string-within U k (drop e s), length-drop e s, p.inside)

  pub next-further : e ≤ next
  next-further = omega (arith, next-is U k e s)
