-- The two walks from character to character, turn by turn: what a turn of the code's loops does, and how they end. Assumes nothing.
use Rattle.std.specs.Prelude.{ℕ, zero, suc, ◌+◌, ◌-◌, ◌<◌, ◌≤◌, ◌≡◌, refl, true, false, List, length, drop}
use Rattle.std.proofs.Common.{arith, sym, ap, ◌∙◌, length-drop, drop-drop}
use Rattle.laws.specs.Rows.{◌⇒◌⁏◌, ◌<?◌, ◌=?◌, yes, no, lt, ge, eq, ne, ne_of, below}
use Rattle.text.specs.Unicode.{character, well_within, well_formed, reach_within, reach}
use Rattle.text.proofs.Finder.{character-within}

-- behind a character less is left
pub behind : (U : ℕ) (s : List ℕ) (n : ℕ) → length s ≤ suc n → (character U s =? 0) ≡ false → length (drop (character U s) s) ≤ n
behind U s n h k = let q = ne_of _ _ k in simp length-drop (omega arith)

-- as many turns as there are bytes are enough
well-fuel : (n m U : ℕ) (s : List ℕ) → length s ≤ n → length s ≤ m → well_within n U s ≡ well_within m U s
unfolding well_within
well-fuel zero zero U s h k = refl
well-fuel zero (suc m) U s h k = yes _ _ (eq _ _ (omega arith)) refl
well-fuel (suc n) zero U s h k = sym (yes _ _ (eq _ _ (omega arith)) refl)
well-fuel (suc n) (suc m) U s h k =
    below _ _ _ _ (λ a. below _ _ _ _ (λ b. well-fuel n m U (drop (character U s) s) (behind U s n h b) (behind U s m k b)))

pub well-turn : (U : ℕ) (s : List ℕ)
    → well_formed U s ≡ (length s =? 0 ⇒ true ⁏ character U s =? 0 ⇒ false ⁏ well_formed U (drop (character U s) s))
unfolding well_formed well_within
well-turn U s =
    let rest = drop (character U s) s in
    well-fuel (length s) (suc (length s)) U s (omega arith) (omega arith)
    ∙ below _ _ _ _ (λ a. below _ _ _ _ (λ b.
    well-fuel (length s) (length rest) U rest (behind U s (length s) (omega arith) b) (omega arith)))

-- a turn of the loop at i, its early end, and its end
module _ (U : ℕ) (s : List ℕ) (i k : ℕ) (found : k ≡ character U (drop i s)) where
  pub well-on : i < length s → 0 < k → well_formed U (drop i s) ≡ well_formed U (drop (i + k) s)
  well-on h l =
      well-turn U (drop i s)
      ∙ sym
      (no _ _ (ne _ _ (λ e. omega (arith, length-drop i s)))
      (no _ _ (ne _ _ (λ e. omega arith))
      (rw (← found) (ap (well_formed U) (sym (drop-drop k i s))))))

  pub well-not : i < length s → k ≡ 0 → false ≡ well_formed U (drop i s)
  well-not h e =
      rw (well-turn U (drop i s))
      (no _ _ (ne _ _ (λ e. omega (arith, length-drop i s))) (yes _ _ (eq _ _ (sym found ∙ e)) refl))

pub well-end : (U : ℕ) (s : List ℕ) (i : ℕ) → length s ≤ i → true ≡ well_formed U (drop i s)
well-end U s i h = rw (well-turn U (drop i s)) (yes _ _ (eq _ _ (omega (arith, length-drop i s))) refl)

-- as many turns as there are bytes are enough
reach-fuel : (n m U : ℕ) (s : List ℕ) (limit : ℕ) → length s ≤ n → length s ≤ m → reach_within n U s limit ≡ reach_within m U s limit
unfolding reach_within
reach-fuel zero zero U s limit h k = refl
reach-fuel zero (suc m) U s limit h k = let w = character-within U s in yes _ _ (eq _ _ (omega arith)) refl
reach-fuel (suc n) zero U s limit h k = let w = character-within U s in sym (yes _ _ (eq _ _ (omega arith)) refl)
reach-fuel (suc n) (suc m) U s limit h k =
    below _ _ _ _ (λ b. below _ _ _ _ (λ t. ap (λ (x : ℕ). character U s + x)
    (reach-fuel n m U (drop (character U s) s) (limit - character U s) (behind U s n h b) (behind U s m k b))))

pub reach-turn : (U : ℕ) (s : List ℕ) (limit : ℕ)
    → reach U s limit
    ≡ (character U s =? 0 ⇒ 0
    ⁏ limit <? character U s ⇒ 0
    ⁏ character U s + reach U (drop (character U s) s) (limit - character U s))
unfolding reach reach_within
reach-turn U s limit =
    let rest = drop (character U s) s in
    reach-fuel (length s) (suc (length s)) U s limit (omega arith) (omega arith)
    ∙ below _ _ _ _ (λ b. below _ _ _ _ (λ t. ap (λ (x : ℕ). character U s + x)
    (reach-fuel (length s) (length rest) U rest (limit - character U s) (behind U s (length s) (omega arith) b) (omega arith))))

-- a turn of the loop at e, its two early ends, and its end
module _ (U : ℕ) (s : List ℕ) (limit e k : ℕ) (found : k ≡ character U (drop e s)) where
  pub reach-on : 0 < k → k ≤ limit - e → e + reach U (drop e s) (limit - e) ≡ e + k + reach U (drop (e + k) s) (limit - (e + k))
  reach-on h l =
      let q : limit - e - k ≡ limit - (e + k) = omega arith in
      let t : k + reach U (drop (e + k) s) (limit - (e + k)) ≡ reach U (drop e s) (limit - e) =
      rw (reach-turn U (drop e s) (limit - e))
      (no _ _ (ne _ _ (λ z. omega arith)) (no _ _ (ge _ _ (omega arith)) (rw (← found, drop-drop k e s, q)))) in
      omega arith

  pub reach-none : k ≡ 0 → e ≡ e + reach U (drop e s) (limit - e)
  reach-none h =
      let t : 0 ≡ reach U (drop e s) (limit - e) = rw (reach-turn U (drop e s) (limit - e)) (yes _ _ (eq _ _ (sym found ∙ h)) refl) in
      omega arith

  pub reach-over : limit - e < k → e ≡ e + reach U (drop e s) (limit - e)
  reach-over h =
      let t : 0 ≡ reach U (drop e s) (limit - e) =
      rw (reach-turn U (drop e s) (limit - e))
      (no _ _ (ne _ _ (λ z. omega arith)) (yes _ _ (lt _ _ (omega arith)) refl)) in
      omega arith

pub reach-end : (U : ℕ) (s : List ℕ) (limit e : ℕ) → limit ≤ e → e ≡ e + reach U (drop e s) (limit - e)
reach-end U s limit e h = go (character U (drop e s)) refl
  where
    go : (k : ℕ) → k ≡ character U (drop e s) → e ≡ e + reach U (drop e s) (limit - e)
    go zero f = reach-none U s limit e 0 f refl
    go (suc k) f = reach-over U s limit e (suc k) f (omega arith)
