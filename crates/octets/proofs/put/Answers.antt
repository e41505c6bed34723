-- `octets::put` meets its contract: what is stored is as much of src as there is room for. Assumes nothing.
use Rattle.std.proofs.Common.{ℕ, suc, ◌≡◌, ◌<◌, ◌+◌, ◌-◌, min, arith, add-one, sym, ◌∙◌, List, [], ◌∷◌, length, take, drop, set, length-set, length-drop}
use Rattle.std.proofs.Math.Decide.{dec_lt}
use Rattle.std.proofs.Math.Seq.{take-nil}
use Rattle.std.proofs.lemmas.List.Edits.{sets}
use Rattle.laws.specs.Region.{sets-turn, sets-full, sets-stop}
use Rattle.octets.proofs.put.Goals as goal

-- what there is no room for is not stored
fits_only : (vs l : List ℕ) (k : ℕ) → sets l k (take (length l - k) vs) ≡ sets l k vs
fits_only [] l k = simp take-nil
fits_only (v ∷ vs) l k = go (fits_only vs (set l k v) (suc k)) (dec_lt k (length l))
  where
    go : sets (set l k v) (suc k) (take (length (set l k v) - suc k) vs) ≡ sets (set l k v) (suc k) vs → Dec (k < length l)
        → sets l k (take (length l - k) (v ∷ vs)) ≡ sets l k (v ∷ vs)
    go ih (yes h) = let e : length l - k ≡ suc (length (set l k v) - suc k) = simp length-set (omega arith) in rw e ih
    go ih (no h) = sets-full (take (length l - k) (v ∷ vs)) l k (omega arith) ∙ sym (sets-full (v ∷ vs) l k (omega arith))

-- nor is anything stored past the end
clamped : (vs l : List ℕ) (k : ℕ) → sets l (min k (length l)) vs ≡ sets l k vs
clamped vs l k = go (dec_lt k (length l))
  where
    go : Dec (k < length l) → sets l (min k (length l)) vs ≡ sets l k vs
    go (yes h) = let e : min k (length l) ≡ k = omega arith in rw e
    go (no h) = sets-full vs l (min k (length l)) (omega arith) ∙ sym (sets-full vs l k (omega arith))

pub loop-i-preserved : goal.loop-i-preserved
loop-i-preserved c =
    let l = c.loop-i in
    let e : c.min-from.result + (l.i + 1) ≡ suc (c.min-from.result + l.i) = omega arith in (
      length-set l.dst _ _ ∙ l.invariant.0,
      l.invariant.1 ∙ rw (e, add-one l.i) (sets-turn l.dst (c.min-from.result + l.i) c.cut-fits.result.now l.i 0 (omega arith)),
    )

pub returns : goal.returns
returns c =
    let l = c.loop-i in
    let d = c.args.dst.now in
    let s = c.args.src.now in
    sym (l.invariant.1 ∙ sets-stop (drop l.i c.cut-fits.result.now) l.dst (c.min-from.result + l.i) (simp length-drop (omega arith)))
    ∙ rw (c.cut-fits.ensures, c.min-from.ensures) (fits_only s d (min c.args.at (length d)) ∙ clamped s d c.args.at)
