-- What the chart's words say: a number within a range, and the bytes behind a row's lead. Assumes nothing.
use Rattle.std.specs.Prelude.{ℕ, ◌<◌, ◌≤◌, ◌≡◌, refl, Bool, true, false, List}
use Rattle.std.proofs.Common.{arith, sym, ◌∙◌, ⊎_elim, true≢false}
use Rattle.laws.specs.Rows.{◌or◌, ◌<?◌, yes, no, lt, ge, lt_of, ge-of, each, and-of, and_is, or-of}
use Rattle.octets.specs.Be.{u8_at}
use Rattle.text.specs.declared.Range.{Range}
use Rattle.text.specs.declared.Row.{Row}
use Rattle.text.specs.Chart.{◌to◌, within, follows}
use Rattle.text.specs.Ranges.{In, Follows}

pub within_of : (r : Range) (b : ℕ) → within r b ≡ true → In r b
unfolding within
within_of r b =
    each (λ w. w ≡ true → In r b) _ _ _
    (λ h e. absurd (true≢false (sym e)))
    (λ h. each (λ w. w ≡ true → In r b) _ _ _ (λ k e. absurd (true≢false (sym e))) (λ k e. (ge-of _ _ h, ge-of _ _ k)))

pub within-is : (r : Range) (b : ℕ) → In r b → within r b ≡ true
unfolding within
within-is r b h = sym (no _ _ (ge _ _ h.0) (no _ _ (ge _ _ h.1) refl))

pub within-out : (r : Range) (b : ℕ) → within r b ≡ false → In r b → ⊥
within-out r b h i = true≢false (sym (within-is r b i) ∙ h)

pub within-not : (r : Range) (b : ℕ) → r.1 < b → within r b ≡ false
unfolding within
within-not r b h = each (λ w. w ≡ false) _ _ _ (λ k. refl) (λ k. sym (yes _ _ (lt _ _ h) refl))

pub within-below : (r : Range) (b : ℕ) → b < r.0 → within r b ≡ false
unfolding within
within-below r b h = sym (yes _ _ (lt _ _ h) refl)

-- a row of n bytes has no k-th
pub none : {P : Type 0} (n k : ℕ) → n < k → k ≤ n → P
none n k h l = absurd (omega arith)

-- a byte is asked for only where the row has it
asked : (r : Range) (n k b : ℕ) → (n <? k or within r b) ≡ true → k ≤ n → In r b
asked r n k b h l = ⊎_elim (λ t. let q = lt_of n k t in absurd (omega arith)) (λ t. within_of r b t) (or-of _ _ h)

asks : (r : Range) (n k b : ℕ) → (k ≤ n → In r b) → (n <? k or within r b) ≡ true
asks r n k b h = each (λ w. w ≡ true) _ _ _ (λ t. refl) (λ t. within-is r b (h (ge-of _ _ t)))

pub follows_of : (r : Row) (s : List ℕ) → follows r s ≡ true → Follows r s
unfolding follows
follows_of r s =
    each (λ w. w ≡ true → Follows r s) _ _ _
    (λ h e. absurd (true≢false (sym e)))
    (λ h e.
    let t = and-of _ _ e in
    let u = and-of _ _ t.1 in
    record {
      long = ge-of _ _ h;
      second = asked r.1 r.2 2 (u8_at s 1) t.0;
      third = asked (0x80 to 0xBF) r.2 3 (u8_at s 2) u.0;
      fourth = asked (0x80 to 0xBF) r.2 4 (u8_at s 3) u.1;
    })

pub follows_is : (r : Row) (s : List ℕ) → Follows r s → follows r s ≡ true
unfolding follows
follows_is r s h =
    sym (no _ _ (ge _ _ h.long)
    (sym (and_is _ _ (asks r.1 r.2 2 (u8_at s 1) h.second)
    (and_is _ _ (asks (0x80 to 0xBF) r.2 3 (u8_at s 2) h.third)
    (asks (0x80 to 0xBF) r.2 4 (u8_at s 3) h.fourth)))))

pub follows_no : (r : Row) (s : List ℕ) → (Follows r s → ⊥) → false ≡ follows r s
follows_no r s h = go (follows r s) refl
  where
    go : (b : Bool) → follows r s ≡ b → false ≡ b
    go true e = absurd (h (follows_of r s e))
    go false e = refl
