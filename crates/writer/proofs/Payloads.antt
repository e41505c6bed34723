-- What each payload is, for every sample that the writer does not refuse: it fits the size limit, and the unit reader reads it as
-- exactly the unit that was meant. Assumes nothing.
use Rattle.std.specs.Prelude.{ℕ, ◌+◌, ◌-◌, ◌≤◌, ◌<◌, ◌≡◌, Bool, true, false, ◌⊎◌, List, [], ◌++◌, get_or}
use native.Mathlib.Omega.{arith}
use Rattle.std.proofs.Math.Decide.{dec_lt}
use Rattle.std.proofs.Math.Path.{refl}
use Rattle.std.proofs.Common.{◌∙◌, inl, inr, take_at}
use Rattle.std.proofs.Math.ListN.{length, length-append}
use Rattle.laws.specs.Rows.{each, ge-of, ne_of, or-none}
use Rattle.laws.specs.Rows as Rows
use Rattle.paper.specs.Limits.{parts_most}
use Rattle.joining.specs.Joining.{piece}
use Rattle.text.proofs.Strings.{well-formed, empty-well}
use Rattle.unit.specs.declared.Unit.TheVariants.{Part}
use Rattle.unit.specs.Layout.{string_part, modifiers_part, reading, read_of, data_of}
use Rattle.unit.specs.Head.{string-head, modifiers-head}
use Rattle.unit.proofs.Text.{string-text, modifiers-text}
use Rattle.unit.specs.Again.{whole-unit, string-unit, modifiers-unit, bytes_of}
use Rattle.unit.proofs.Again.{unit-again, data-again}
use Rattle.writer.specs.Cut.{strings, blocks}
use Rattle.writer.proofs.Cutting.{string-each, block-each, strings-some}
use Rattle.writer.specs.Write.{Caption, sample, long, parts, count, part_unit, whole_unit, payload_data, payload_unit, payload, uncut}
use Rattle.writer.specs.Returns.{Writable, block_type}
use Rattle.writer.proofs.Returns.{block_type-not, parts-count, string-at, block_of, whole-count, cut-count, cut-unit, cut-data}
use Rattle.writer.proofs.Returns as Returns
use Rattle.writer.specs.Payloads.{Sent}

block_type-is : (j : ℕ) → (block_type j ≡ 3) ⊎ (block_type j ≡ 4)
unfolding block_type
block_type-is j = each (λ (t : ℕ). (t ≡ 3) ⊎ (t ≡ 4)) _ _ _ (λ q. inl refl) (λ q. inr refl)

module _ (c : Caption) (M room : ℕ) (v : Writable c M room) where
  whole_sent : long c M ≡ false → Sent M (whole_unit c) (sample c)
  unfolding long
  whole_sent l =
      let n = length-append c.string c.modifiers in
      record {
        proper = record {
          fields =
              whole-unit {TLEN = length c.string} {d = sample c} v.coded v.index v.lasting (omega arith)
              (omega (arith, v.small));
          text = rw (take_at c.string c.modifiers (length c.string) refl) (well-formed c.U c.string v.well);
        };
        size = omega (arith, ge-of _ _ l);
      }

  module _ (l : long c M ≡ true) (n : ℕ) (few : n ≤ parts_most) (k : ℕ) (some : 0 < k) (within : k ≤ n) where
    string-sent : (i : ℕ) → i < length (strings c.U (M - 10) c.string)
        → Sent M (part_unit c n k (piece 2 (get_or (strings c.U (M - 10) c.string) i []))) (get_or (strings c.U (M - 10) c.string) i [])
    string-sent i h =
        let d = get_or (strings c.U (M - 10) c.string) i [] in
        let p = string-each c.U (M - 10) i c.string (well-formed c.U c.string v.well) h in
        let w = string_part c.U n k c.SDUR c.SIDX (length (sample c)) (length d) in
        let z : length (bytes_of (Part w) d) ≤ M = rw (string-head w refl) (omega (arith, p.fits, v.least)) in
        rw (Returns.string-unit c n k d)
        (record {
          proper = record {
            fields =
                string-unit {SLEN = length (sample c)} {d = d} v.coded some within few v.lasting v.index
                (omega (arith, v.small)) p.some (omega (arith, p.fits, v.most));
            text = rw (string-text w d refl) p.well;
          };
          size = z;
        })

    block-sent : (j : ℕ) → j < length (blocks (M - 7) c.modifiers)
        → Sent M (part_unit c n k (piece (block_type j) (get_or (blocks (M - 7) c.modifiers) j []))) (get_or (blocks (M - 7) c.modifiers) j [])
    block-sent j h =
        let d = get_or (blocks (M - 7) c.modifiers) j [] in
        let p = block-each (M - 7) j c.modifiers (omega (arith, v.least)) h in
        let w = modifiers_part (block_type j) n k c.SDUR (length d) in
        let z : length (bytes_of (Part w) d) ≤ M = rw (modifiers-head w (block_type-not j)) (omega (arith, p.1, v.least)) in
        rw (Returns.block-unit c n k (block_type j) d (block_type-not j))
        (record {
          proper = record {
            fields = modifiers-unit {d = d} (block_type-is j) some within few v.lasting p.0 (omega (arith, p.1, v.most));
            text = rw (modifiers-text w d (block_type-not j)) (empty-well 0 [] refl);
          };
          size = z;
        })

    -- part number k is a string part, or else a modifier part
    part-sent : n ≡ length (parts c M) → Sent M (part_unit c n k (get_or (parts c M) (k - 1) (piece 2 []))) (get_or (parts c M) (k - 1) (piece 2 [])).bytes
    part-sent t = go (dec_lt (k - 1) (length (strings c.U (M - 10) c.string)))
      where
        go : Dec (k - 1 < length (strings c.U (M - 10) c.string))
            → Sent M (part_unit c n k (get_or (parts c M) (k - 1) (piece 2 []))) (get_or (parts c M) (k - 1) (piece 2 [])).bytes
        go (yes h) = rw (string-at c M (k - 1) h) (string-sent (k - 1) h)
        go (no h) =
            let ss = strings c.U (M - 10) c.string in
            let i : k - 1 ≡ length ss + (k - 1 - length ss) = omega arith in
            let j : k - 1 - length ss < length (blocks (M - 7) c.modifiers) = omega (arith, parts-count c M) in
            rw (i, block_of c M (k - 1 - length ss) j) (block-sent (k - 1 - length ss) j)

  -- ---- a sample that 13 does not refuse
  module _ (u : uncut c M ≡ false) where
    pub cut-allowed : long c M ≡ true → (0 < length c.string) × (count c M ≤ parts_most)
    unfolding uncut
    cut-allowed l =
        let e = or-none _ _ (Rows.yes _ _ l refl ∙ u) in
        let z = ne_of _ _ e.0 in
        (omega arith, ge-of _ _ e.1)

    -- TOTAL, or how many payloads there are, is 1 to 15
    pub total : (1 ≤ count c M) × (count c M ≤ parts_most)
    total = go (long c M) refl
      where
        go : (b : Bool) → long c M ≡ b → (1 ≤ count c M) × (count c M ≤ parts_most)
        go false l = omega (arith, whole-count c M l)
        go true l =
            let a = cut-allowed l in
            let s = strings-some c.U (M - 10) c.string (omega (arith, v.least)) (well-formed c.U c.string v.well) a.0 in
            (omega (arith, cut-count c M l, parts-count c M), a.1)

    module _ (k : ℕ) (some : 0 < k) (within : k ≤ count c M) where
      pub sent : Sent M (payload_unit c M k) (payload_data c M k)
      sent = go (long c M) refl
        where
          go : (b : Bool) → long c M ≡ b → Sent M (payload_unit c M k) (payload_data c M k)
          go false l = rw (Returns.whole-unit c M l k, Returns.whole-data c M l k) (whole_sent l)
          go true l =
              let n = cut-count c M l in
              rw (cut-unit c M l k, cut-data c M l k)
              (part-sent l (length (parts c M)) (omega (arith, cut-allowed l)) k some (omega arith) refl)

      -- no payload is longer than M
      pub payload-fits : length (payload c M k) ≤ M
      payload-fits = sent.size

      -- whatever follows it, the reader finds the unit that was meant, all its bytes used, and its data
      pub payload-read : (more : List ℕ) → read_of (payload c M k ++ more) ≡ reading (length (payload c M k)) (payload_unit c M k)
      payload-read more = unit-again (payload_unit c M k) (payload_data c M k) more sent.proper

      pub payload-data : (more : List ℕ) → data_of (payload c M k ++ more) (payload_unit c M k) ≡ payload_data c M k
      payload-data more = data-again (payload_unit c M k) (payload_data c M k) more sent.proper.fields
