-- What the writer cuts is put together again: for every sample that it does not refuse, the parts that the unit reader finds in its
-- payloads, whatever follows each payload, agree with each other and make, by the rules of joining, the same sample.
-- Assumes nothing.
use Rattle.std.specs.Prelude.{ℕ, suc, ◌-◌, ◌≤◌, ◌<◌, ◌≡◌, refl, true, false, List, [], ◌++◌, length, get_or}
use Rattle.std.proofs.Common.{arith, sym, ap, ◌∙◌, ext_get_or}
use Rattle.laws.specs.Lists.{enumerated, length-enumerated, get_or-enumerated}
use Rattle.laws.specs.Rows.{each, eq, eq_of, ne_of, and_is}
use Rattle.joining.specs.Joining.{Piece, piece, together, string_of, sound}
use Rattle.text.proofs.Strings.{well-formed}
use Rattle.unit.specs.declared.Part as P
use Rattle.unit.specs.declared.Unit.{Unit}
use Rattle.unit.specs.declared.Unit.TheVariants.{End, Skipped, Refused, Whole, Part, Description}
use Rattle.unit.specs.declared.Reading.{Reading}
use Rattle.unit.specs.Layout.{string_part, modifiers_part, read_of, data_of}
use Rattle.writer.specs.Write.{Caption, sample, long, parts, count, part_unit, whole_unit, payload, uncut}
use Rattle.writer.specs.Returns.{Writable}
use Rattle.writer.proofs.Returns.{cut-count, cut-unit, cut-data, whole-unit, whole-data}
use Rattle.writer.proofs.Cutting.{parts-together, parts-string, parts-ordered}
use Rattle.writer.proofs.Payloads.{cut-allowed, total, payload-read, payload-data}

-- ---- what joining sees of a unit: a part's TYPE and data
abbrev pub piece_of : List ℕ → Unit → Piece
piece_of s End = piece 0 []
piece_of s (Skipped t) = piece 0 []
piece_of s (Refused r) = piece 0 []
piece_of s (Whole w) = piece 0 []
piece_of s (Part w) = piece w.kind (data_of s (Part w))
piece_of s (Description w) = piece 0 []

abbrev pub piece_read : List ℕ → Piece
piece_read s = piece_of s (read_of s).unit

-- ---- what document 01 asks of a part before it is kept: the unit of payload number k is a part of this sample
pub record Agrees (c : Caption) (M k : ℕ) (w : P.Part) : Type 0 where
  pub total : w.total ≡ count c M
  pub this : w.this ≡ k
  pub sdur : w.sdur ≡ c.SDUR
  pub told : w.kind ≡ 2 → (w.u ≡ c.U) × (w.sidx ≡ c.SIDX) × (w.slen ≡ length (sample c))

pub record Joins (c : Caption) (M k : ℕ) (x : Unit) : Type 0 where
  pub part : P.Part
  pub is : x ≡ Part part
  pub agrees : Agrees c M k part

unit-joins : (c : Caption) (M k : ℕ) (p : Piece) → Joins c M k (part_unit c (count c M) k p)
unfolding part_unit
unit-joins c M k p =
    each (Joins c M k) _ _ _
    (λ q. record {
      part = string_part c.U (count c M) k c.SDUR c.SIDX (length (sample c)) (length p.bytes);
      is = refl;
      agrees = record { total = refl; this = refl; sdur = refl; told = λ h. (refl, refl, refl) };
    })
    (λ q. record {
      part = modifiers_part p.kind (count c M) k c.SDUR (length p.bytes);
      is = refl;
      agrees = record { total = refl; this = refl; sdur = refl; told = λ h. absurd (ne_of _ _ q h) };
    })

-- a part's unit keeps its TYPE
unit-kind : (s : List ℕ) (c : Caption) (n k : ℕ) (p : Piece) → piece_of s (part_unit c n k p) ≡ piece p.kind (data_of s (part_unit c n k p))
unfolding part_unit
unit-kind s c n k p =
    each (λ (x : Unit). piece_of s x ≡ piece p.kind (data_of s x)) _ _ _
    (λ q. rw (eq_of _ _ q)) (λ q. refl)

module _ (c : Caption) (M room : ℕ) (v : Writable c M room) (u : uncut c M ≡ false) where
  -- ---- a sample that is cut; `more k` is whatever follows payload number k in its rest
  module _ (l : long c M ≡ true) (more : ℕ → List ℕ) where
    -- each part agrees with the sample, whichever parts came before
    pub parts-agree : (k : ℕ) → 0 < k → k ≤ count c M → Joins c M k (read_of (payload c M k ++ more k)).unit
    parts-agree k some within =
        rw (payload-read c M room v u k some within (more k), cut-unit c M l k, ← (cut-count c M l))
        (unit-joins c M k (get_or (parts c M) (k - 1) (piece 2 [])))

    pub part-read : (k : ℕ) → 0 < k → k ≤ count c M → piece_read (payload c M k ++ more k) ≡ get_or (parts c M) (k - 1) (piece 2 [])
    part-read k some within =
        let s = payload c M k ++ more k in
        let p = get_or (parts c M) (k - 1) (piece 2 []) in
        let x : (read_of s).unit ≡ part_unit c (length (parts c M)) k p = ap (λ (r : Reading). r.unit) (payload-read c M room v u k some within (more k)) ∙ cut-unit c M l k in
        let d : data_of s (part_unit c (length (parts c M)) k p) ≡ p.bytes = rw (← (cut-unit c M l k)) (payload-data c M room v u k some within (more k) ∙ cut-data c M l k) in
        ap (piece_of s) x ∙ unit-kind s c (length (parts c M)) k p ∙ ap (piece p.kind) d

    -- the parts by THIS, as they are read
    abbrev pub read : List Piece
    read = enumerated (count c M) (λ i. piece_read (payload c M (suc i) ++ more (suc i)))

    pub parts-read : read ≡ parts c M
    parts-read =
        let r : ℕ → Piece = λ i. piece_read (payload c M (suc i) ++ more (suc i)) in
        ext_get_or (piece 2 []) read (parts c M) (length-enumerated (count c M) r ∙ cut-count c M l)
        (λ i h.
        let q : suc i - 1 ≡ i = omega arith in
        get_or-enumerated (count c M) r i (piece 2 []) (omega (arith, length-enumerated (count c M) r))
        ∙ part-read (suc i) (omega arith) (omega (arith, length-enumerated (count c M) r)) ∙ ap (λ (j : ℕ). get_or (parts c M) j (piece 2 [])) q)

    -- they make a sample, of the length that each string part tells
    pub again-sound : sound (length (sample c)) read ≡ true
    unfolding sound
    again-sound =
        let w = well-formed c.U c.string v.well in
        rw parts-read
        (and_is _ _ (parts-ordered c M v.least w (cut-allowed c M room v u l).0) (eq _ _ (ap (length {A = ℕ}) (parts-together c M v.least w))))

    -- and put together they are the same string and modifiers
    pub again-sample : together read ≡ sample c
    again-sample = rw parts-read (parts-together c M v.least (well-formed c.U c.string v.well))

    pub again-string : string_of read ≡ c.string
    again-string = rw parts-read (parts-string c M v.least (well-formed c.U c.string v.well))

  -- ---- a sample that is not cut is read whole from its one payload
  pub again-whole : long c M ≡ false → (more : List ℕ)
      → ((read_of (payload c M 1 ++ more)).unit ≡ whole_unit c) × (data_of (payload c M 1 ++ more) (whole_unit c) ≡ sample c)
  again-whole l more =
      let n = total c M room v u in
      let x = whole-unit c M l 1 in (
        ap (λ (r : Reading). r.unit) (payload-read c M room v u 1 (omega arith) n.0 more) ∙ x,
        ap (data_of (payload c M 1 ++ more)) (sym x) ∙ payload-data c M room v u 1 (omega arith) n.0 more ∙ whole-data c M l 1,
      )
