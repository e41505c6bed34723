-- The text that is kept: each TYPE 2 part that a place keeps stays well-formed in the place's U, and so is the string that is joined of
-- them. Assumes nothing.
use Prim.Native.Nat.{ℕ, zero, suc, ◌≤◌}
use Rattle.std.proofs.Math.Decide.{ℕ_discrete}
use Rattle.std.proofs.Common.{arith, sym, ap, ◌∙◌}
use Rattle.std.specs.Prelude.{Bool, true, false, ◌≡◌, List, length, take}
use Rattle.std.proofs.Math.Option.{Option, none, some}
use Rattle.std.proofs.Math.Path.{refl}
use Rattle.laws.specs.Rows.{◌=?◌, eq_of, ne_of}
use Rattle.paper.specs.Limits.{parts_most}
use Rattle.text.specs.Unicode.{WellFormed}
use Rattle.unit.specs.declared.Part.{Part}
use Rattle.joining.specs.Joining.{Piece, piece, together, string_of, sound}
use Rattle.joining.specs.Strings.{WellParts, string-well, string-first}
use Rattle.sample.specs.declared.Place.{Place}
use Rattle.sample.specs.Place.{closed, opened, agrees, kept_at, kept, pieces_of}
use Rattle.sample.specs.Kept.{Made, Fresh, opened-none, closed_none, keep-adds, keep-others}
use Rattle.sample.specs.Made.{closed-made, opened-made, keep-made}
use Rattle.sample.specs.Arrival.{or_blank, in_order, arrival}
use Rattle.sample.specs.Repeat.{agrees-of}
use Rattle.sample.specs.Told.{Word, keep-string, keep-modifiers}
use Rattle.sample.specs.Sound.{sound-of, told_of}

-- each TYPE 2 part that is kept is well-formed in the place's U
abbrev pub WellKept : Place → Type 0
WellKept p = (THIS : ℕ) (q : Piece) → kept_at p THIS ≡ some q → q.kind ≡ 2 → WellFormed p.u q.bytes

-- a place as parts made it that the reader let through
pub record Sane (p : Place) : Type 0 where
  pub made : Made p
  pub text : WellKept p

nothing-kept : {A : Type 0} {q : Piece} → none ≡ some q → A
nothing-kept e = let z : ◌≡◌ {A = ℕ} 0 1 = cc in absurd (omega arith)

-- ---- a free place and a new one keep nothing
pub closed-sane : Sane closed
closed-sane = record { made = closed-made; text = λ THIS q e. nothing-kept (sym (closed_none THIS) ∙ e) }

pub opened-sane : (desk time : ℕ) (x : Part) → x.total ≤ parts_most → Sane (opened desk time x)
opened-sane desk time x h =
    record { made = opened-made desk time x h; text = λ THIS q e. nothing-kept (sym (opened-none desk time x THIS) ∙ e) }

-- ---- one part more, which agrees and, of TYPE 2, is well-formed
module _ (p : Place) (m : Sane p) (x : Part) (d : List ℕ) (f : Fresh p x d) (a : agrees p x ≡ true)
    (w : x.kind ≡ 2 → WellFormed x.u d) where
  to : x.this ≤ parts_most
  to = omega (arith, f.to, m.made.most)

  told-u : x.kind ≡ 2 → (kept p x d).u ≡ x.u
  told-u k = ap (λ (z : Word). z.u) (keep-string p x d f.from to k a)

  -- where a TYPE 2 part was kept, U stays
  same-u : p.told ≡ true → (kept p x d).u ≡ p.u
  same-u t = go (x.kind =? 2) refl
    where
      go : (b : Bool) → (x.kind =? 2) ≡ b → (kept p x d).u ≡ p.u
      go true e = let k = eq_of _ _ e in told-u k ∙ sym ((agrees-of p x a).strings k t).u
      go false e = ap (λ (z : Word). z.u) (keep-modifiers p x d f.from to (ne_of _ _ e))

  keep-well : WellKept (kept p x d)
  keep-well THIS q e k = go (ℕ_discrete THIS x.this)
    where
      go : Dec (THIS ≡ x.this) → WellFormed (kept p x d).u q.bytes
      go (yes h) =
          let s : some (piece x.kind d) ≡ some q = sym (keep-adds p m.made x d f) ∙ sym (ap (kept_at (kept p x d)) h) ∙ e in
          let y : piece x.kind d ≡ q = cc in
          let t : x.kind ≡ 2 = ap (λ (z : Piece). z.kind) y ∙ k in
          rw (told-u t, ← y) (w t)
      go (no h) =
          let o = sym (keep-others p m.made x d f THIS h) ∙ e in
          rw (same-u (told_of p m.made THIS q o k)) (m.text THIS q o k)

  pub keep-sane : Sane (kept p x d)
  keep-sane = record { made = keep-made p m.made x d f; text = keep-well }

-- ---- the string that is joined
module _ (p : Place) (m : Sane p) where
  in-order-well : (n THIS : ℕ) → WellParts p.u (in_order (kept_at p) THIS n)
  unfolding in_order
  in-order-well zero THIS = tt
  in-order-well (suc n) THIS = (first (kept_at p THIS) refl, in-order-well n (suc THIS))
    where
      first : (o : Option Piece) → kept_at p THIS ≡ o → (or_blank o).kind ≡ 2 → WellFormed p.u (or_blank o).bytes
      first none e k = absurd (omega arith)
      first (some q) e k = m.text THIS q e k

  parts-well : WellParts p.u (pieces_of p)
  parts-well = rw (arrival p m.made) (in-order-well p.total 1)

  -- it stands at the front of the sample, and is well-formed
  pub joined-well : (SLEN : ℕ) → sound SLEN (pieces_of p) ≡ true
      → WellFormed p.u (take (length (string_of (pieces_of p))) (together (pieces_of p)))
  joined-well SLEN s = rw (string-first (pieces_of p) (sound-of SLEN (pieces_of p) s).0) (string-well p.u (pieces_of p) parts-well)
