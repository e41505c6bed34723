-- `fresh::fill_front` meets its contract: a turn fills one place more. Assumes nothing.
use Rattle.std.proofs.Common.{ℕ, zero, suc, ◌+◌, ◌≤◌, ◌<◌, add-one, arith, ◌≡◌, refl, sym, ap, ◌∙◌, List, [], ◌∷◌, ◌++◌, length, take, drop}
use Rattle.std.proofs.Math.ListN.{replicate, set}
use Rattle.std.proofs.lemmas.List.{take_all}
use Rattle.table.proofs.Filled.{front-filled}
use Rattle.fresh.proofs.fill_front.Goals as goal

module _ {A : Type 0} (v : A) where
  filled_next : (l : List A) (i : ℕ) → i < length l → take i l ≡ replicate i v → take (suc i) (set l i v) ≡ replicate (suc i) v
  filled_next [] i h e = absurd (omega (arith, h))
  filled_next (y ∷ l) zero h e = refl
  filled_next (y ∷ l) (suc i) h e =
      let t : take i l ≡ replicate i v = cc in let r = filled_next l i (omega (arith, h)) t in cc

  filled-more : (l : List A) (i : ℕ) → i < length l → take i l ≡ replicate i v → take (i + 1) (set l i v) ≡ replicate (i + 1) v
  filled-more l i h e = rw add-one (filled_next l i h e)

  filled_end : (l : List A) (i n : ℕ) → length l ≡ n → n ≤ i → i ≤ n → take i l ≡ replicate i v → l ≡ replicate n v
  filled_end l i n k h h' e =
      let same : i ≡ n = omega arith in sym (take_all i l (omega arith)) ∙ e ∙ ap (λ (j : ℕ). replicate j v) same

pub loop-x-init : goal.loop-x-init
loop-x-init g c = refl

pub loop-x-preserved : goal.loop-x-preserved
loop-x-preserved g c = filled-more c.args.value c.loop-x.x-items c.loop-x.x-index (omega arith) c.loop-x.invariant

pub returns : goal.returns
returns g c =
    let a = c.args in
    let l = c.loop-x in
    let n = c.min-n.result in
    ap (λ (k : List _). k ++ drop n a.s.now)
    (filled_end a.value l.x-items l.x-index (length (take n a.s.now)) l.auto.x-items (omega arith) (omega arith) l.invariant)
    ∙ front-filled a.value n a.k a.s.now c.min-n.ensures
