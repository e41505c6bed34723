-- The place of a sample that was cut, when some of its parts came: how many are missing, and that all of them make the sample.
-- Assumes nothing.
use Prim.Native.Nat.{ℕ, suc, ◌+◌, ◌-◌, ◌≤◌}
use native.Mathlib.Omega.{arith}
use Rattle.std.specs.Prelude.{◌≡◌, refl, Bool, List, [], ◌∷◌, length, get_or}
use Rattle.std.proofs.Math.Path.{sym, ap}
use Rattle.std.proofs.Common.{subst, ◌∙◌, true≢false}
use Rattle.std.proofs.Math.Bool.{true, false}
use Rattle.std.proofs.Math.Option.{Option, none, some}
use Rattle.laws.specs.Rows.{◌=?◌, each, yes, no, eq_of, and-of}
use Rattle.laws.specs.Sums.{sum_same, sum-tail, sum-all}
use Rattle.laws.specs.Lists.{get_d_any}
use Rattle.laws.specs.Table.{bit}
use Rattle.paper.specs.Limits.{parts_most}
use Rattle.joining.specs.Joining.{Piece, piece, kinds, together, string_of, sound, ordered}
use Rattle.text.proofs.Strings.{well-formed}
use Rattle.unit.specs.declared.Part as P
use Rattle.writer.specs.Write.{Caption, sample, long, parts, count, uncut}
use Rattle.writer.specs.Returns.{Writable}
use Rattle.writer.proofs.Returns.{cut-count}
use Rattle.writer.proofs.Cutting.{parts-together, parts-string, parts-ordered}
use Rattle.writer.proofs.Payloads.{cut-allowed, total}
use Rattle.again.specs.Again as A
use Rattle.sample.specs.declared.Place.{Place}
use Rattle.sample.specs.Place.{bare, opened, kept_at, missing, pieces_of}
use Rattle.sample.specs.Kept.{opened-none}
use Rattle.sample.specs.Made.{opened-made}
use Rattle.sample.specs.Arrival.{in_order, arrival, in-order-is}
use Rattle.sample.specs.Missing.{is_kept, missing-is}
use Rattle.sample.specs.Sound.{told_of}
use Rattle.once.specs.Due.{with, awaited}
use Rattle.once.specs.Keeping.{part_of, Gathered, Only}

pub with-only : (N : ℕ) (came : ℕ → Bool) (k : ℕ) → Only N came → 1 ≤ k → k ≤ N → Only N (with came k)
with-only N came k w a b j =
    each (λ (z : Bool). z ≡ true → (1 ≤ j) × (j ≤ N)) (j =? k) true (came j) (λ e h. let q = eq_of j k e in (omega arith, omega arith)) (λ e h. w j h)

first-string : (ps : List Piece) → ordered (kinds ps) ≡ true → (get_or ps 0 (piece 2 [])).kind ≡ 2
unfolding ordered
first-string [] h = refl
first-string (p ∷ ps) h = eq_of p.kind 2 (and-of _ _ h).0

module _ (c : Caption) (M room : ℕ) (v : Writable c M room) (u : uncut c M ≡ false) (l : long c M ≡ true) where
  pub few : count c M ≤ parts_most
  few = (total c M room v u).1

  -- a sample that a part of ours opens
  pub opened-gathered : (desk time : ℕ) (x : P.Part) → x.total ≡ count c M → x.sdur ≡ c.SDUR → (came : ℕ → Bool) → ((k : ℕ) → came k ≡ false)
      → Gathered c M came (opened desk time x)
  unfolding bare
  opened-gathered desk time x t s came e = record {
    made = opened-made desk time x (omega (arith, few));
    used = refl;
    total = t;
    sdur = s;
    word = λ h. absurd (true≢false (sym h));
    pieces = λ k. opened-none desk time x k ∙ no _ _ (e k) refl;
  }

  module _ (came : ℕ → Bool) (p : Place) (g : Gathered c M came p) where
    -- ---- how many are missing
    pub missing-awaited : Only (count c M) came → missing p ≡ awaited (count c M) came
    unfolding awaited
    missing-awaited w =
        missing-is p g.made
        ∙ omega (
          arith,
          g.total,
          sum_same parts_most (λ i. bit (is_kept (kept_at p (suc i)))) (λ i. bit (came (suc i))) (λ i h. ap bit (is-came (suc i))),
          sum-tail parts_most (count c M) (λ i. bit (came (suc i))) few (λ i h. beyond i h),
        )
      where
        is-came : (k : ℕ) → is_kept (kept_at p k) ≡ came k
        is-came k = ap is_kept (g.pieces k) ∙ each (λ (o : Option Piece). is_kept o ≡ came k) (came k) _ none (λ e. sym e) (λ e. sym e)

        beyond : (i : ℕ) → count c M ≤ i → bit (came (suc i)) ≡ 0
        beyond i h = go (came (suc i)) refl
          where
            go : (b : Bool) → came (suc i) ≡ b → bit b ≡ 0
            go true e = absurd (omega (arith, (w (suc i) e).1))
            go false e = refl

    -- ---- none is missing: the parts are all there, and make the sample
    module _ (none-missing : awaited (count c M) came ≡ 0) where
      came-each : (k : ℕ) → 1 ≤ k → k ≤ count c M → came k ≡ true
      unfolding awaited
      came-each k a b =
          let q : suc (k - 1) ≡ k = omega arith in
          let s = sum-all (count c M) (λ i. bit (came (suc i))) (λ i. most (came (suc i))) (omega arith) (k - 1) (omega arith) in
          one (came k) (subst (λ (j : ℕ). bit (came j) ≡ 1) q s)
        where
          most : (b : Bool) → bit b ≤ 1
          most true = omega arith
          most false = omega arith

          one : (b : Bool) → bit b ≡ 1 → b ≡ true
          one true e = refl
          one false e = absurd (omega arith)

      kept-each : (k : ℕ) → 1 ≤ k → k ≤ count c M → kept_at p k ≡ some (part_of c M k)
      kept-each k a b = g.pieces k ∙ sym (yes _ _ (came-each k a b) refl)

      pub pieces-all : pieces_of p ≡ parts c M
      pieces-all =
          let n : p.total ≡ length (parts c M) = g.total ∙ cut-count c M l in
          arrival p g.made
          ∙ ap (in_order (kept_at p) 1) n
          ∙ in-order-is (kept_at p) (parts c M) 1
          (λ i h.
          let q : 1 + i - 1 ≡ i = omega arith in
          kept-each (1 + i) (omega arith) (omega (arith, cut-count c M l))
          ∙ ap some (rw q (get_d_any (parts c M) i (piece 2 []) (piece 0 []) h)))

      pub word-all : (p.u ≡ c.U) × (p.sidx ≡ c.SIDX) × (p.slen ≡ length (sample c))
      word-all =
          g.word (told_of p g.made 1 (part_of c M 1) (kept-each 1 (omega arith) (total c M room v u).0)
          (first-string (parts c M) (parts-ordered c M v.least (well-formed c.U c.string v.well) (cut-allowed c M room v u l).0)))

      pub sound-all : sound p.slen (pieces_of p) ≡ true
      sound-all = rw (pieces-all, word-all.2, ← (A.parts-read c M room v u l (λ k. []))) (A.again-sound c M room v u l (λ k. []))

      pub together-all : together (pieces_of p) ≡ sample c
      together-all = rw pieces-all (parts-together c M v.least (well-formed c.U c.string v.well))

      pub string-all : string_of (pieces_of p) ≡ c.string
      string-all = rw pieces-all (parts-string c M v.least (well-formed c.U c.string v.well))
