-- One law for each way the writer returns, in the code's own values. Assumes nothing.
use Rattle.writer.specs.Written.{packed}
use Rattle.std.specs.Prelude.{ℕ, zero, suc, ◌+◌, ◌-◌, ◌≤◌, ◌<◌, ◌≡◌, true, false, Err}
use Rattle.std.proofs.Common.{arith, ◌∙◌}
use Rattle.std.proofs.Math.Path.{refl, sym, ap}
use mathlib.Core.List.{List, [], ◌∷◌, ◌++◌, map, append_assoc}
use Rattle.std.proofs.Math.ListN.{length, get_or, length-append, length-map, get_or-append, get_or-map}
use Rattle.std.proofs.lemmas.List.Edits.{sets}
use Rattle.std.proofs.Math.Seq.{get_or-append-add}
use Rattle.std.proofs.lemmas.Bool.{not-false}
use Rattle.laws.specs.Lists.{get_d_any}
use Rattle.laws.specs.Rows.{each, yes, no, lt, ge, eq, ne, ge-of, or-none}
use Rattle.paper.specs.Limits.{parts_most}
use Rattle.paper.specs.declared.Refusal.TheVariants as R
use Rattle.joining.specs.Joining.{piece}
use Rattle.unit.specs.declared.Unit.{Unit}
use Rattle.unit.specs.declared.Unit.TheVariants.{Part}
use Rattle.unit.specs.Layout.{string_part, modifiers_part, description}
use Rattle.laws.specs.Region.{sets-append}
use Rattle.unit.specs.Head.{head_of}
use Rattle.unit.specs.Again.{bytes_of}
use Rattle.writer.specs.Cut.{strings, blocks, modified, pieces}
use Rattle.writer.specs.Write.{Caption, sample, long, parts, count, part_unit, whole_unit, payload_data, payload_unit, unsized, ill_formed, unwritable, uncut, undescribed, after, written, described}
use Rattle.writer.specs.Returns.{block_type, Writable, PutDown}

-- ---- the parts of a sample by their number from 0
modified-length : (bs : List (List ℕ)) → length (modified bs) ≡ length bs
unfolding modified
modified-length [] = refl
modified-length (b ∷ bs) = ap suc (length-map bs (piece 4))

modified-at : (bs : List (List ℕ)) (j : ℕ) → j < length bs → get_or (modified bs) j (piece 2 []) ≡ piece (block_type j) (get_or bs j [])
unfolding modified block_type
modified-at [] j h = absurd (omega arith)
modified-at (b ∷ bs) zero h = ap (λ (t : ℕ). piece t b) (yes _ _ (eq _ _ refl) refl)
modified-at (b ∷ bs) (suc j) h =
    get_d_any (map (piece 4) bs) j (piece 2 []) (piece 4 []) (omega (arith, length-map bs (piece 4)))
    ∙ get_or-map (piece 4) bs j []
    ∙ ap (λ (t : ℕ). piece t (get_or bs j [])) (no _ _ (ne _ _ (λ q. omega arith)) refl)

module _ (c : Caption) (M : ℕ) where
  pub parts-count : length (parts c M) ≡ length (strings c.U (M - 10) c.string) + length (blocks (M - 7) c.modifiers)
  unfolding pieces
  parts-count =
      length-append (map (piece 2) (strings c.U (M - 10) c.string)) (modified (blocks (M - 7) c.modifiers))
      ∙ simp (length-map, modified-length)

  pub string-at : (i : ℕ) → i < length (strings c.U (M - 10) c.string)
      → get_or (parts c M) i (piece 2 []) ≡ piece 2 (get_or (strings c.U (M - 10) c.string) i [])
  unfolding pieces
  string-at i h =
      let ss = strings c.U (M - 10) c.string in
      get_or-append (map (piece 2) ss) (modified (blocks (M - 7) c.modifiers)) (piece 2 []) i (omega (arith, length-map ss (piece 2)))
      ∙ get_or-map (piece 2) ss i []

  pub block_of : (j : ℕ) → j < length (blocks (M - 7) c.modifiers)
      → get_or (parts c M) (length (strings c.U (M - 10) c.string) + j) (piece 2 []) ≡ piece (block_type j) (get_or (blocks (M - 7) c.modifiers) j [])
  unfolding pieces
  block_of j h =
      let ss = strings c.U (M - 10) c.string in
      let bs = blocks (M - 7) c.modifiers in
      ap (λ (n : ℕ). get_or (map (piece 2) ss ++ modified bs) (n + j) (piece 2 [])) (sym (length-map ss (piece 2)))
      ∙ get_or-append-add (map (piece 2) ss) (modified bs) j (piece 2 [])
      ∙ modified-at bs j h

pub writable : (c : Caption) (M room : ℕ) → unwritable c M room ≡ false → Writable c M room
unfolding unwritable ill_formed unsized
writable c M room h =
    let a = or-none _ _ h in
    let i = or-none _ _ a.0 in
    let b = or-none _ _ a.1 in
    let d = or-none _ _ b.1 in
    let e = or-none _ _ d.1 in
    let f = or-none _ _ e.1 in
    let g = or-none _ _ f.1 in
    record {
      coded = omega (arith, ge-of _ _ i.0);
      well = not-false _ i.1;
      index = omega (arith, ge-of _ _ b.0);
      lasting = omega (arith, ge-of _ _ d.0);
      small = ge-of _ _ e.0;
      least = ge-of _ _ f.0;
      most = ge-of _ _ g.0;
      lent = ge-of _ _ g.1;
    }

pub lay-is : (x : Unit) (d before mid now : List ℕ) (n : ℕ) → n ≡ length (head_of x) → mid ≡ sets before 0 (head_of x) → now ≡ sets mid n d
    → PutDown (n + length d) now before x d
lay-is x d before mid now n a b e =
    let z : 0 + length (head_of x) ≡ n = omega arith in
    record { size = rw a (sym (length-append (head_of x) d)); out = e ∙ rw (b, ← z) (sym (sets-append (head_of x) d before 0)) }

-- and more data behind it
pub lay-more : (x : Unit) (s m before mid now : List ℕ) (n : ℕ) → PutDown n mid before x s → now ≡ sets mid n m → PutDown (n + length m) now before x (s ++ m)
lay-more x s m before mid now n l e =
    let g = append_assoc (head_of x) s m in
    let z : 0 + length (bytes_of x s) ≡ n = omega (arith, l.size) in
    record {
      size = rw l.size (sym (length-append (bytes_of x s) m) ∙ ap (length {A = ℕ}) g);
      out = e ∙ rw (l.out, ← z) (sym (sets-append (bytes_of x s) m before 0) ∙ ap (sets before 0) g);
    }

-- ---- the returns
module _ (c : Caption) (M k : ℕ) (out : List ℕ) where
  pub returns-12 : unwritable c M (length out) ≡ true → after (Err R.Writer) out ≡ written c M k out
  unfolding written
  returns-12 h = yes _ _ h refl

  module _ (w : unwritable c M (length out) ≡ false) where
    pub returns-13 : uncut c M ≡ true → after (Err R.Parts) out ≡ written c M k out
    unfolding written
    returns-13 h = no _ _ w (yes _ _ h refl)

    module _ (u : uncut c M ≡ false) where
      pub returns-none : k ≡ 0 → after (Err R.Payload) out ≡ written c M k out
      unfolding written
      returns-none h = no _ _ w (no _ _ u (yes _ _ (eq _ _ h) refl))

      pub returns-14 : 0 < k → count c M < k → after (Err R.Payload) out ≡ written c M k out
      unfolding written
      returns-14 h l = no _ _ w (no _ _ u (no _ _ (ne _ _ (λ q. omega arith)) (yes _ _ (lt _ _ l) refl)))

      -- payload number k: its unit x and data d, n payloads in all
      pub returns-payload : 0 < k → (n : ℕ) → n ≡ count c M → k ≤ n → (x : Unit) → x ≡ payload_unit c M k → (d : List ℕ) → d ≡ payload_data c M k
          → (len : ℕ) → len ≡ length (bytes_of x d) → (o : List ℕ) → o ≡ sets out 0 (bytes_of x d) → after (packed len n) o ≡ written c M k out
      unfolding written
      returns-payload h n en l x ex d ed len el o eo =
          no _ _ w
          (no _ _ u
          (no _ _ (ne _ _ (λ q. omega arith))
          (no _ _ (ge _ _ (omega arith))
          (rw (el, eo, en, ex, ed)))))

-- ---- a sample that fits, and one that is cut
module _ (c : Caption) (M : ℕ) where
  module _ (l : long c M ≡ false) where
    pub whole-uncut : uncut c M ≡ false
    unfolding uncut
    whole-uncut = sym (no _ _ l refl)

    pub whole-count : count c M ≡ 1
    unfolding count
    whole-count = sym (no _ _ l refl)

    pub whole-unit : (k : ℕ) → payload_unit c M k ≡ whole_unit c
    unfolding payload_unit
    whole-unit k = sym (no _ _ l refl)

    pub whole-data : (k : ℕ) → payload_data c M k ≡ sample c
    unfolding payload_data
    whole-data k = sym (no _ _ l refl)

  module _ (l : long c M ≡ true) where
    pub cut-count : count c M ≡ length (parts c M)
    unfolding count
    cut-count = sym (yes _ _ l refl)

    pub uncut-empty : length c.string ≡ 0 → uncut c M ≡ true
    unfolding uncut
    uncut-empty h = sym (yes _ _ l (yes _ _ (eq _ _ h) refl))

    pub uncut-parts : (length c.string ≡ 0 → ⊥) → parts_most < length (parts c M) → uncut c M ≡ true
    unfolding uncut
    uncut-parts h m = sym (yes _ _ l (no _ _ (ne _ _ h) (sym (lt _ _ (omega (arith, cut-count))))))

    pub cuttable : (length c.string ≡ 0 → ⊥) → length (parts c M) ≤ parts_most → uncut c M ≡ false
    unfolding uncut
    cuttable h m = sym (yes _ _ l (no _ _ (ne _ _ h) (sym (ge _ _ (omega (arith, cut-count))))))

    pub cut-unit : (k : ℕ) → payload_unit c M k ≡ part_unit c (length (parts c M)) k (get_or (parts c M) (k - 1) (piece 2 []))
    unfolding payload_unit
    cut-unit k = rw (← cut-count) (sym (yes _ _ l refl))

    pub cut-data : (k : ℕ) → payload_data c M k ≡ (get_or (parts c M) (k - 1) (piece 2 [])).bytes
    unfolding payload_data
    cut-data k = sym (yes _ _ l refl)

pub string-unit : (c : Caption) (TOTAL THIS : ℕ) (d : List ℕ)
    → part_unit c TOTAL THIS (piece 2 d) ≡ Part (string_part c.U TOTAL THIS c.SDUR c.SIDX (length (sample c)) (length d))
unfolding part_unit
string-unit c TOTAL THIS d = sym (yes _ _ (eq _ _ refl) refl)

pub block-unit : (c : Caption) (TOTAL THIS t : ℕ) (d : List ℕ) → (t ≡ 2 → ⊥)
    → part_unit c TOTAL THIS (piece t d) ≡ Part (modifiers_part t TOTAL THIS c.SDUR (length d))
unfolding part_unit
block-unit c TOTAL THIS t d h = sym (no _ _ (ne _ _ h) refl)

pub block_type-not : (j : ℕ) → block_type j ≡ 2 → ⊥
unfolding block_type
block_type-not j = each (λ (t : ℕ). t ≡ 2 → ⊥) _ _ _ (λ q h. omega arith) (λ q h. omega arith)

-- ---- in the code's own values: whether the sample is cut
pub long-yes : (c : Caption) (M : ℕ) → M < length c.string + length c.modifiers + 9 → long c M ≡ true
unfolding long
long-yes c M h = lt _ _ (omega (arith, length-append c.string c.modifiers))

pub long-no : (c : Caption) (M : ℕ) → length c.string + length c.modifiers + 9 ≤ M → long c M ≡ false
unfolding long
long-no c M h = ge _ _ (omega (arith, length-append c.string c.modifiers))

-- ---- a description
module _ (SIDX : ℕ) (d : List ℕ) (M k : ℕ) (out : List ℕ) where
  pub described-12 : undescribed SIDX (length d) M (length out) ≡ true → after (Err R.Writer) out ≡ described SIDX d M k out
  unfolding described
  described-12 h = yes _ _ h refl

  module _ (w : undescribed SIDX (length d) M (length out) ≡ false) where
    pub described-13 : M < length d + 4 → after (Err R.Parts) out ≡ described SIDX d M k out
    unfolding described
    described-13 h = no _ _ w (yes _ _ (lt _ _ h) refl)

    module _ (m : length d + 4 ≤ M) where
      pub described-14 : (k ≡ 1 → ⊥) → after (Err R.Payload) out ≡ described SIDX d M k out
      unfolding described
      described-14 h = no _ _ w (no _ _ (ge _ _ m) (no _ _ (ne _ _ h) refl))

      pub described-payload : k ≡ 1 → (len : ℕ) (o : List ℕ) → PutDown len o out (description SIDX (length d)) d → after (packed len 1) o ≡ described SIDX d M k out
      unfolding described
      described-payload h len o y =
          let z : len ≡ length d + 4 = omega (arith, y.size) in
          no _ _ w (no _ _ (ge _ _ m) (yes _ _ (eq _ _ h) (rw (z, y.out))))
