-- The order for a part of an open sample, one law for each answer, in the code's own values. Assumes nothing.
use Rattle.std.specs.Prelude.{ℕ, ◌≡◌, refl, Bool, true, false, List, length}
use Rattle.std.proofs.Common.{sym, ◌∙◌}
use Rattle.laws.specs.Rows.{yes, no}
use Rattle.paper.specs.declared.Refusal.TheVariants as R
use Rattle.paper.specs.Time.{Time}
use Rattle.paper.specs.declared.Outcome.TheVariants as O
use Rattle.unit.specs.declared.Part.{Part}
use Rattle.sample.specs.declared.Place.{Place}
use Rattle.sample.specs.Place.{repeats, oversize, kept}
use Rattle.desk.specs.declared.Shares.{Shares}
use Rattle.desk.specs.Desk.{Own, After, answering, left, is_late, conflicts, six, used_up, completed, joining, Turn}
use Rattle.unit.specs.declared.Part as P

-- ---- an open sample asks for no share
pub no_six : (p : Place) (h : Shares) → p.used ≡ true → false ≡ six p h
unfolding six
no_six p h u = yes _ _ u refl

pub not-used-up : (p : Place) (h : Shares) → p.used ≡ true → false ≡ used_up p h
unfolding used_up
not-used-up p h u = yes _ _ u refl

-- ---- the order for parts: each test that was passed, and the answer of the next
module _ (h : Shares) (s : Own) (time used : ℕ) (next : Time) (q : Place) (x : P.Part) (d : List ℕ) (b₁ : Bool)
    (l₁ : b₁ ≡ is_late s time) where
  pub join-late : b₁ ≡ true → (r : Turn) → r ≡ answering s.place used next (O.Refused R.Late)
      → left r s.row s.marks s.store s.out ≡ joining h s time used next q x d
  unfolding joining
  join-late t r e = yes _ _ (sym l₁ ∙ t) (rw e)

  module _ (f₁ : b₁ ≡ false) (b₂ : Bool) (l₂ : b₂ ≡ repeats q x d) where
    pub join-repeat : b₂ ≡ true → (r : Turn) → r ≡ answering s.place used next O.Repeat
        → left r s.row s.marks s.store s.out ≡ joining h s time used next q x d
    unfolding joining
    join-repeat t r e = no _ _ (sym l₁ ∙ f₁) (yes _ _ (sym l₂ ∙ t) (rw e))

    module _ (f₂ : b₂ ≡ false) (b₃ : Bool) (l₃ : b₃ ≡ conflicts q x) where
      pub join-conflict : b₃ ≡ true → (r : Turn) → r ≡ answering s.place used next (O.Refused R.Conflict)
          → left r s.row s.marks s.store s.out ≡ joining h s time used next q x d
      unfolding joining
      join-conflict t r e = no _ _ (sym l₁ ∙ f₁) (no _ _ (sym l₂ ∙ f₂) (yes _ _ (sym l₃ ∙ t) (rw e)))

      module _ (f₃ : b₃ ≡ false) (b₄ : Bool) (l₄ : b₄ ≡ oversize q x (length d)) where
        pub join-size : b₄ ≡ true → (r : Turn) → r ≡ answering s.place used next (O.Refused R.Size)
            → left r s.row s.marks s.store s.out ≡ joining h s time used next q x d
        unfolding joining
        join-size t r e = no _ _ (sym l₁ ∙ f₁) (no _ _ (sym l₂ ∙ f₂) (no _ _ (sym l₃ ∙ f₃) (yes _ _ (sym l₄ ∙ t) (rw e))))

        module _ (f₄ : b₄ ≡ false) (b₅ : Bool) (l₅ : b₅ ≡ six s.place h) where
          module _ (f₅ : b₅ ≡ false) (b₆ : Bool) (l₆ : b₆ ≡ used_up s.place h) where
            pub join_kept : b₆ ≡ false → (p : Place) → p ≡ kept q x d → (a : After) → a ≡ completed s time used next p
                → a ≡ joining h s time used next q x d
            unfolding joining
            join_kept t p k a e =
                no _ _ (sym l₁ ∙ f₁)
                (no _ _ (sym l₂ ∙ f₂)
                (no _ _ (sym l₃ ∙ f₃) (no _ _ (sym l₄ ∙ f₄) (no _ _ (sym l₅ ∙ f₅) (no _ _ (sym l₆ ∙ t) (rw (e, k)))))))
