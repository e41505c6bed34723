-- The place of a sample that was cut, when some of its parts came, and one of its parts: it agrees, is a repeat if it came before, and is
-- else no conflict and not too much, and kept. Assumes nothing.
use Rattle.std.specs.Prelude.{ℕ, zero, suc, ◌+◌, ◌-◌, ◌≤◌, ◌≡◌, refl, Bool, length, get_or}
use Rattle.std.proofs.Common.{arith, ap, ◌∙◌, true≢false, length-append}
use Rattle.std.proofs.Math.Path.{sym}
use Rattle.std.proofs.Math.Bool.{true, false}
use Rattle.std.proofs.Math.Option.{none, some}
use mathlib.Core.List.{List, [], ◌∷◌, flatten}
use Rattle.laws.specs.Rows.{◌⇒◌⁏◌, ◌=?◌, ◌<?◌, each, yes, no, ge, lt_of, ge-of, eq_of, ne_of}
use Rattle.laws.specs.Region.{length_part}
use Rattle.laws.specs.Sums.{sum, sum-gap, sum-front}
use Rattle.paper.specs.Limits.{parts_most}
use Rattle.joining.specs.Joining.{Piece, piece, together}
use Rattle.text.proofs.Strings.{well-formed}
use Rattle.unit.specs.declared.Part as P
use Rattle.writer.specs.Write.{Caption, sample, long, parts, uncut}
use Rattle.writer.specs.Returns.{Writable}
use Rattle.writer.proofs.Returns.{cut-count}
use Rattle.writer.proofs.Cutting.{parts-together}
use Rattle.sample.specs.declared.Place.{Place}
use Rattle.sample.specs.Bits.{bit_of, bit-above}
use Rattle.sample.specs.Place.{has, agrees, repeats, oversize, kept, kept_at, piece_at}
use Rattle.sample.specs.Kept.{Fresh, has-not, keep-adds, keep-others}
use Rattle.sample.specs.Made.{keep-made}
use Rattle.sample.specs.Missing.{is_kept, kept-has}
use Rattle.sample.specs.Repeat.{agrees-is, repeat-of, repeat-is, kept_of}
use Rattle.sample.specs.Told.{Name, name_of, Word, keep-named, keep-string, keep-modifiers}
use Rattle.once.specs.Due.{with}
use Rattle.once.specs.Keeping.{part_of, Bears, Gathered}
use Rattle.once.proofs.Keeping.{few}

sizes : (ps : List Piece) (n : ℕ) → length ps ≤ n → sum n (λ i. length (get_or ps i (piece 2 [])).bytes) ≡ length (together ps)
unfolding flatten
sizes [] zero h = refl
sizes [] (suc n) h = omega (arith, sizes [] n (omega arith))
sizes (p ∷ ps) zero h = absurd (omega arith)
sizes (p ∷ ps) (suc n) h =
    sum-front n (λ i. length (get_or (p ∷ ps) i (piece 2 [])).bytes)
    ∙ omega (arith, sizes ps n (omega arith), length-append p.bytes (together ps))

module _ (c : Caption) (M room : ℕ) (v : Writable c M room) (u : uncut c M ≡ false) (l : long c M ≡ true) where
  all-bytes : sum parts_most (λ i. length (get_or (parts c M) i (piece 2 [])).bytes) ≡ length (sample c)
  all-bytes =
      sizes (parts c M) parts_most (omega (arith, cut-count c M l, few c M room v u l)) ∙ ap (length {A = ℕ}) (parts-together c M v.least (well-formed c.U c.string v.well))

  module _ (came : ℕ → Bool) (p : Place) (g : Gathered c M came p) (k : ℕ) (x : P.Part) (d : List ℕ) (b : Bears c M k x d) where
    pub agrees-ours : agrees p x ≡ true
    agrees-ours =
        agrees-is p x (record {
          total = g.total ∙ sym b.agrees.total;
          sdur = g.sdur ∙ sym b.agrees.sdur;
          strings = λ t h.
              let a = g.word h in
              let e = b.agrees.told t in
              record { u = a.0 ∙ sym e.0; sidx = a.1 ∙ sym e.1; slen = a.2 ∙ sym e.2 };
        })

    pub repeats-ours : came k ≡ true → repeats p x d ≡ true
    repeats-ours e =
        repeat-is p x d (rw b.agrees.this (g.pieces k ∙ sym (yes _ _ e (ap some b.is)))) agrees-ours

    module _ (new : came k ≡ false) where
      absent : kept_at p x.this ≡ none
      absent = rw b.agrees.this (g.pieces k ∙ sym (no _ _ new refl))

      has-none : has p x.this ≡ false
      has-none = sym (kept-has p x.this) ∙ ap is_kept absent

      pub no-repeat : repeats p x d ≡ false
      no-repeat = go (repeats p x d) refl
        where
          go : (z : Bool) → repeats p x d ≡ z → z ≡ false
          go true e = absurd (true≢false (sym (ap is_kept (repeat-of p x d e).0) ∙ ap is_kept absent))
          go false e = refl

      -- what is kept is no more than the other parts
      blank-bit : (i : ℕ) → has p (suc i) ≡ false → bit_of p.mask i ≡ 0
      blank-bit i h = go (i <? parts_most) refl
        where
          q : suc i - 1 ≡ i
          q = omega arith

          go : (z : Bool) → (i <? parts_most) ≡ z → bit_of p.mask i ≡ 0
          go true e = rw q at (has-not p (suc i) (omega arith) (omega (arith, lt_of i parts_most e)) h)
          go false e = bit-above p.mask p.total i g.made.in_total (omega (arith, g.made.most, ge-of i parts_most e))

      no_more : (i : ℕ) → get_or p.lens i 0 ≤ length (get_or (parts c M) i (piece 2 [])).bytes
      no_more i = go (came (suc i)) refl
        where
          q : suc i - 1 ≡ i
          q = omega arith

          go : (z : Bool) → came (suc i) ≡ z → get_or p.lens i 0 ≤ length (get_or (parts c M) i (piece 2 [])).bytes
          go true e =
              let a : piece_at p (suc i) ≡ part_of c M (suc i) = (kept_of p (suc i) (part_of c M (suc i)) (g.pieces (suc i) ∙ sym (yes _ _ e refl))).1 in
              let n = length_part (get_or p.starts i 0) (get_or p.lens i 0) p.bytes (omega (arith, g.made.in_use i, g.made.room, g.made.all_bytes)) in
              omega (arith, n, ap (λ (z : Piece). length z.bytes) (rw q at a))
          go false e =
              let a : has p (suc i) ≡ false = sym (kept-has p (suc i)) ∙ ap is_kept (g.pieces (suc i) ∙ sym (no _ _ e refl)) in
              omega (arith, (g.made.blank i (blank-bit i a)).1)

      fits : p.filled + length d ≤ length (sample c)
      fits =
          let none-there : has p k ≡ false = rw b.agrees.this at has-none in
          let z : get_or p.lens (k - 1) 0 ≡ 0 = (g.made.blank (k - 1) (has-not p k b.from (omega (arith, b.to, few c M room v u l)) none-there)).1 in
          let s = sum-gap parts_most (k - 1) (λ i. get_or p.lens i 0) (λ i. length (get_or (parts c M) i (piece 2 [])).bytes) (omega (arith, b.from, b.to, few c M room v u l)) (λ i n. no_more i) in
          omega (arith, z, s, all-bytes, g.made.full, ap (λ (y : Piece). length y.bytes) b.is)

      pub fresh : Fresh p x d
      unfolding oversize
      fresh = record {
        from = omega (arith, b.from, b.agrees.this);
        to = omega (arith, b.to, b.agrees.this, g.total);
        new = has-none;
        fits =
            sym
            (no _ _ (row (x.kind =? 2) _ (λ e. ge _ _ (omega (arith, (b.agrees.told (eq_of _ _ e)).2, v.small))))
            (no _ _ (ge _ _ (omega (arith, fits, v.small)))
            (no _ _ (row (x.kind =? 2) _ (λ e. ge _ _ (omega (arith, (b.agrees.told (eq_of _ _ e)).2, fits))))
            (sym (row p.told _ (λ e. ge _ _ (omega (arith, (g.word e).2, fits))))))));
      }
        where
          row : (y z : Bool) → (y ≡ true → z ≡ false) → (y ⇒ z ⁏ false) ≡ false
          row y z h = each (λ (w : Bool). w ≡ false) y z false h (λ e. refl)

      -- the place has it too
      name : name_of (kept p x d) ≡ name_of p
      name = keep-named p x d

      word_kept : (kept p x d).told ≡ true → ((kept p x d).u ≡ c.U) × ((kept p x d).sidx ≡ c.SIDX) × ((kept p x d).slen ≡ length (sample c))
      word_kept t = go (x.kind =? 2) refl
        where
          go : (z : Bool) → (x.kind =? 2) ≡ z → ((kept p x d).u ≡ c.U) × ((kept p x d).sidx ≡ c.SIDX) × ((kept p x d).slen ≡ length (sample c))
          go true e =
              let w = keep-string p x d fresh.from (omega (arith, fresh.to, g.made.most)) (eq_of _ _ e) agrees-ours in
              let a = b.agrees.told (eq_of _ _ e) in
              (ap (λ (y : Word). y.u) w ∙ a.0, ap (λ (y : Word). y.sidx) w ∙ a.1, ap (λ (y : Word). y.slen) w ∙ a.2)
          go false e =
              let w = keep-modifiers p x d fresh.from (omega (arith, fresh.to, g.made.most)) (ne_of _ _ e) in
              let a = g.word (sym (ap (λ (y : Word). y.told) w) ∙ t) in
              (ap (λ (y : Word). y.u) w ∙ a.0, ap (λ (y : Word). y.sidx) w ∙ a.1, ap (λ (y : Word). y.slen) w ∙ a.2)

      pub kept-gathered : Gathered c M (with came k) (kept p x d)
      kept-gathered = record {
        made = keep-made p g.made x d fresh;
        used = ap (λ (y : Name). y.used) name ∙ g.used;
        total = ap (λ (y : Name). y.total) name ∙ g.total;
        sdur = ap (λ (y : Name). y.sdur) name ∙ g.sdur;
        word = word_kept;
        pieces = λ j.
            each (λ (z : Bool). kept_at (kept p x d) j ≡ (z ⇒ some (part_of c M j) ⁏ none)) (j =? k) true (came j)
            (λ e.
            let q = eq_of j k e in
            yes true none refl
            (ap (kept_at (kept p x d)) (q ∙ sym b.agrees.this) ∙ keep-adds p g.made x d fresh ∙ ap some (b.is ∙ ap (part_of c M) (sym q))))
            (λ e. keep-others p g.made x d fresh j (λ h. ne_of j k e (h ∙ b.agrees.this)) ∙ g.pieces j);
      }
