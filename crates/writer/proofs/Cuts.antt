-- The returns of the writer for a sample that is cut, in the code's own values. Assumes nothing.
use Rattle.writer.specs.Written.{packed}
use Rattle.std.specs.Prelude.{ℕ, ◌+◌, ◌-◌, ◌*◌, ◌/◌, ◌≤◌, ◌<◌, ◌≡◌, true, false, length, get_or, Err}
use Rattle.std.proofs.Common.{arith, sym, ap, ◌∙◌, length-append}
use mathlib.Core.List.{List, [], flatten, append-nil}
use Rattle.laws.specs.Region.{part}
use Rattle.paper.specs.Limits.{parts_most}
use Rattle.paper.specs.declared.Refusal.TheVariants as R
use Rattle.joining.specs.Joining.{Piece, piece}
use Rattle.text.specs.Unicode.{reach, WellFormed}
use Rattle.text.proofs.Strings.{well-formed}
use Rattle.text.proofs.Boundary.{cut-at-boundary, boundary-moves}
use Rattle.unit.specs.declared.Unit.{Unit}
use Rattle.unit.specs.declared.Unit.TheVariants.{Part}
use Rattle.unit.specs.Layout.{string_part, modifiers_part}
use Rattle.writer.specs.Cut.{strings, blocks}
use Rattle.writer.proofs.Parts.{cuts-all, blocks-count, block_at}
use Rattle.writer.specs.Find.{found, found_in, sought}
use Rattle.writer.proofs.Find.{sought-count, sought-part, string-within}
use Rattle.writer.specs.Write.{Caption, long, parts, part_unit, unwritable, uncut, after, written}
use Rattle.writer.specs.Returns.{block_type, PutDown}
use Rattle.writer.proofs.Returns.{block_type-not, parts-count, string-at, block_of, writable, returns-13, returns-none, returns-14, returns-payload, cut-count, uncut-empty, uncut-parts, cuttable, cut-unit, cut-data, string-unit, block-unit}
use Rattle.writer.specs.declared.PartFound.{PartFound}
use Rattle.writer.specs.Cuts.{Counted}

-- the string's parts, one after the other, are the string: each boundary leaves a well-formed string, and a character always fits
pub strings-all : (U k : ℕ) (s : List ℕ) → 4 ≤ k → WellFormed U s → flatten (strings U k s) ≡ s
strings-all U k s h w =
    cuts-all (λ t. reach U t k) (string-within U k) (WellFormed U) (λ t p. (cut-at-boundary U t k p).1) (λ t p l. boundary-moves U t k p l h) s w

-- the pass counts the string's parts
strings-count : (U n k : ℕ) (s : List ℕ) (f : PartFound) → f ≡ sought k 0 (found 0 0 0) (strings U n s) → f.count ≡ length (strings U n s)
strings-count U n k s f q = ap (λ (x : PartFound). x.count) q ∙ sought-count k 0 (found 0 0 0) (strings U n s) ∙ omega arith

-- ---- counting the parts: b is how many blocks the modifiers make
module _ (c : Caption) (M k : ℕ) (out : List ℕ) (w : unwritable c M (length out) ≡ false) (l : long c M ≡ true) where
  pub cut-empty : length c.string ≡ 0 → after (Err R.Parts) out ≡ written c M k out
  cut-empty h = returns-13 c M k out w (uncut-empty c M l h)

  module _ (h : length c.string ≡ 0 → ⊥) (f : PartFound) (q : f ≡ sought k 0 (found 0 0 0) (strings c.U (M - 10) c.string))
      (b : ℕ) (r : b ≡ (length c.modifiers + (M - 7 - 1)) / (M - 7)) where
    total-is : f.count + b ≡ length (parts c M)
    total-is =
        let v = writable c M (length out) w in
        let m : length (blocks (M - 7) c.modifiers) ≡ b = blocks-count (M - 7) (omega (arith, v.least)) c.modifiers ∙ sym r in
        omega (arith, strings-count c.U (M - 10) k c.string f q, parts-count c M)

    pub cut-many : parts_most < f.count + b → after (Err R.Parts) out ≡ written c M k out
    cut-many m = returns-13 c M k out w (uncut-parts c M l h (omega (arith, total-is)))

    pub counted : f.count + b ≤ parts_most → Counted c M k out f (f.count + b)
    counted few = record { allowed = w; cut = l; some = h; pass = q; total = total-is; few = few }

-- ---- the part of the number
module _ (c : Caption) (M k : ℕ) (out : List ℕ) (f : PartFound) (n : ℕ) (p : Counted c M k out f n) where
  not-uncut : uncut c M ≡ false
  not-uncut = cuttable c M p.cut p.some (omega (arith, p.total, p.few))

  pub cut-none : k ≡ 0 → after (Err R.Payload) out ≡ written c M k out
  cut-none z = returns-none c M k out p.allowed not-uncut z

  module _ (some : 0 < k) where
    pub cut-past : n < k → after (Err R.Payload) out ≡ written c M k out
    cut-past m = returns-14 c M k out p.allowed not-uncut some (omega (arith, p.total, cut-count c M p.cut))

    -- payload number k is part number k - 1 from 0, of TYPE ty with data d
    numbered : k ≤ n → (ty : ℕ) (d : List ℕ) → get_or (parts c M) (k - 1) (piece 2 []) ≡ piece ty d → (x : Unit) → x ≡ part_unit c n k (piece ty d)
        → (len : ℕ) (o : List ℕ) → PutDown len o out x d → after (packed len n) o ≡ written c M k out
    numbered m ty d g x e len o y =
        returns-payload c M k out p.allowed not-uncut some n (p.total ∙ sym (cut-count c M p.cut)) m
        x (e ∙ sym (cut-unit c M p.cut k ∙ rw (g, ← p.total)))
        d (sym (cut-data c M p.cut k ∙ ap (λ (x : Piece). x.bytes) g))
        len y.size o y.out

    pub cut-string : k ≤ n → k ≤ f.count → (len : ℕ) (o : List ℕ)
        → PutDown len o out
        (Part (string_part c.U n k c.SDUR c.SIDX (length c.string + length c.modifiers) (length (found_in f c.string))))
        (found_in f c.string)
        → after (packed len n) o ≡ written c M k out
    cut-string l m len o y =
        let v = writable c M (length out) p.allowed in
        let ss = strings c.U (M - 10) c.string in
        let d = found_in f c.string in
        let a : flatten ss ≡ c.string = strings-all c.U (M - 10) c.string (omega (arith, v.least)) (well-formed c.U c.string v.well) in
        let i : k - 1 - 0 ≡ k - 1 = omega arith in
        let s = strings-count c.U (M - 10) k c.string f p.pass in
        let g : d ≡ get_or ss (k - 1) [] =
        sought-part ss [] k 0 (found 0 0 0) f c.string (sym (append-nil (flatten ss) ∙ a)) some (omega arith) p.pass ∙ rw i in
        let z : get_or (parts c M) (k - 1) (piece 2 []) ≡ piece 2 d = string-at c M (k - 1) (omega arith) ∙ rw g in
        numbered l 2 d z _ (rw (← (length-append c.string c.modifiers)) (sym (string-unit c n k d))) len o y

    pub cut-block : k ≤ n → f.count < k → (j : ℕ) → j ≡ k - f.count - 1 → (len : ℕ) (o : List ℕ)
        → PutDown len o out (Part (modifiers_part (block_type j) n k c.SDUR (length (part (j * (M - 7)) (M - 7) c.modifiers))))
        (part (j * (M - 7)) (M - 7) c.modifiers)
        → after (packed len n) o ≡ written c M k out
    cut-block l m j i len o y =
        let v = writable c M (length out) p.allowed in
        let bs = blocks (M - 7) c.modifiers in
        let d = part (j * (M - 7)) (M - 7) c.modifiers in
        let s = strings-count c.U (M - 10) k c.string f p.pass in
        let there : j < length bs = omega (arith, parts-count c M, p.total) in
        let at : k - 1 ≡ length (strings c.U (M - 10) c.string) + j = omega arith in
        let g : d ≡ get_or bs j [] = sym (block_at (M - 7) (omega (arith, v.least)) j c.modifiers there) in
        let z : get_or (parts c M) (k - 1) (piece 2 []) ≡ piece (block_type j) d = rw (at, g) (block_of c M j there) in
        numbered l (block_type j) d z _ (sym (block-unit c n k (block_type j) d (block_type-not j))) len o y
