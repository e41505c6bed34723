-- UTF-8: the chart's rule and the encodings of the scalar values are one rule, for every list. Assumes nothing.
use Rattle.std.specs.Prelude.{ℕ, zero, suc, ◌+◌, ◌-◌, ◌*◌, ◌/◌, ◌%◌, ◌<◌, ◌≤◌, ◌≡◌, ◌⊎◌, Bool, true, false, length}
use native.Mathlib.Omega.{arith}
use Rattle.std.proofs.Math.Path.{refl}
use Rattle.std.proofs.Common.{sym, ◌∙◌, true≢false}
use Rattle.std.proofs.Math.Logic.{inl, inr, ⊎_elim}
use mathlib.Core.List.{List, [], ◌∷◌, ◌++◌}
use Rattle.laws.specs.Rows.{◌⇒◌⁏◌, ◌<?◌, ◌=?◌, yes, no, lt, ge, ne, lt_of, ge-of, eq_of, each, and-of, or-of}
use Rattle.laws.specs.Exactly.{Exactly}
use Rattle.octets.specs.Be.{u8_at}
use Rattle.text.specs.declared.Row.{Row}
use Rattle.text.specs.Chart.{◌to◌, row, chart, charted}
use Rattle.text.specs.Unicode.{scalar, utf8}
use Rattle.text.specs.Laws.{took}
use Rattle.text.proofs.Encoding.{scalar-of, scalar_is, scalar-top, utf8-some}
use Rattle.text.specs.Front.{Front}
use Rattle.text.proofs.Front.{exactly}
use Rattle.text.specs.Ranges.{In}
use Rattle.text.proofs.Ranges.{within_of, within-is, within-not, none, follows_of, follows_is}
use Rattle.text.specs.Numbers.{more, number, first, last, ranged, fair, next, climbs}
use Rattle.text.proofs.Numbers.{chart-climbs}
use Rattle.text.specs.Eight.{Rule, Ranged, Gathered, Climbs}

module _ (m b : ℕ) (h : In (0x80 to 0xBF) b) where
  more-div : more m b / 0x40 ≡ m
  unfolding more
  more-div = omega arith

  more-mod : 0x80 + more m b % 0x40 ≡ b
  unfolding more
  more-mod = omega arith

more-mono : (m n b c : ℕ) → m ≤ n → b ≤ c → more m b ≤ more n c
unfolding more
more-mono m n b c h k = omega arith

-- a number between two, without its last six bits
more-from : (m k : ℕ) → more m 0x80 ≤ k → m ≤ k / 0x40
unfolding more
more-from m k h = omega arith

more-to : (m k : ℕ) → k ≤ more m 0xBF → k / 0x40 ≤ m
unfolding more
more-to m k h = omega arith

pub utf8-one : (c : ℕ) → c < 0x80 → utf8 c ≡ c ∷ []
unfolding utf8
utf8-one c h = sym (yes _ _ (lt _ _ h) refl)

utf8-two : (m : ℕ) → 0x80 ≤ m → m < 0x800 → utf8 m ≡ (0xC0 + m / 0x40) ∷ (0x80 + m % 0x40) ∷ []
unfolding utf8
utf8-two m h k = sym (no _ _ (ge _ _ h) (yes _ _ (lt _ _ k) refl))

utf8-three : (c m : ℕ) → c / 0x40 ≡ m → 0x800 ≤ c → c < 0x10000
    → utf8 c ≡ (0xE0 + m / 0x40) ∷ (0x80 + m % 0x40) ∷ (0x80 + c % 0x40) ∷ []
unfolding utf8
utf8-three c m e h k =
    let q : c / 0x1000 ≡ m / 0x40 = omega arith in
    sym (no _ _ (ge _ _ (omega arith)) (no _ _ (ge _ _ h) (yes _ _ (lt _ _ k) (rw (q, e)))))

utf8-four : (c n m : ℕ) → c / 0x40 ≡ n → n / 0x40 ≡ m → 0x10000 ≤ c
    → utf8 c ≡ (0xF0 + m / 0x40) ∷ (0x80 + m % 0x40) ∷ (0x80 + n % 0x40) ∷ (0x80 + c % 0x40) ∷ []
unfolding utf8
utf8-four c n m e f h =
    let p : c / 0x1000 ≡ m = omega arith in
    let q : c / 0x40000 ≡ m / 0x40 = omega arith in
    sym (no _ _ (ge _ _ (omega arith)) (no _ _ (ge _ _ (omega arith)) (no _ _ (ge _ _ h) (rw (q, p, e)))))

ranged-of : (l r a b c d n : ℕ) → ranged (l to r) (row (a to b) (c to d) n) ≡ true → Ranged l r a b c d
unfolding ranged
ranged-of l r a b c d n h =
    let t = and-of _ _ h in
    let u = and-of _ _ t.1 in
    let v = and-of _ _ u.1 in
    let w = and-of _ _ v.1 in
    record {
      lead-from = within_of (l to r) a t.0;
      lead-to = within_of (l to r) b u.0;
      second_from = within_of (0x80 to 0xBF) c v.0;
      second-to = within_of (0x80 to 0xBF) d w.0;
      full = ⊎_elim (λ p. inl (eq_of _ _ p)) (λ p. let q = and-of _ _ p in inr (eq_of _ _ q.0, eq_of _ _ q.1)) (or-of _ _ w.1);
    }

module _ (l r a b c d : ℕ) (g : Ranged l r a b c d) where
  gathered : (x y : ℕ) → In (a to b) x → In (c to d) y → Gathered l r a b c d x y (more (x - l) y)
  gathered x y i j =
      let k : In (0x80 to 0xBF) y = (omega (arith, j, g.second_from), omega (arith, j, g.second-to)) in
      let e = more-div (x - l) y k in
      record {
        lead = rw e (omega (arith, i, g.lead-from));
        second = more-mod (x - l) y k;
        from = more-mono (a - l) (x - l) c y (omega (arith, i)) j.0;
        upto = more-mono (x - l) (b - l) y d (omega (arith, i)) j.1;
        top = rw e (omega (arith, i, g.lead-to));
      }

  -- and back, of a number between a row's first and last
  spread : (m : ℕ) → more (a - l) c ≤ m → m ≤ more (b - l) d → In (a to b) (l + m / 0x40) × In (c to d) (0x80 + m % 0x40)
  unfolding more
  spread m from upto =
      go (a - l) (b - l) (c - 0x80) (d - 0x80) (omega (arith, g.lead-from)) (omega (arith, g.lead-to))
      (omega (arith, g.second_from)) (omega (arith, g.second-to)) from upto
    where
      go : (x y z w : ℕ) → a ≡ l + x → b ≡ l + y → c ≡ 0x80 + z → d ≡ 0x80 + w → x * 0x40 + z ≤ m → m ≤ y * 0x40 + w
          → In (a to b) (l + m / 0x40) × In (c to d) (0x80 + m % 0x40)
      go x y z w ea eb ec ed f t =
          let i = g.second_from in
          let j = g.second-to in
          ⊎_elim
          (λ e. ((omega arith, omega arith), (omega (arith, i, j), omega (arith, i, j))))
          (λ e. ((omega arith, omega arith), (omega arith, omega arith)))
          g.full

module _ (a b c d : ℕ) where
  one : b < 0x80 → Rule (row (a to b) (c to d) 1)
  unfolding first last number ◌⇒◌⁏◌ ◌=?◌
  one h =
      record {
        sound = λ s l f.
            let e = utf8-one (u8_at s 0) (omega (arith, l.1)) in
            record {
              value = u8_at s 0;
              good = scalar_is (u8_at s 0) (inl (omega (arith, l.1)));
              size = rw e refl;
              front = rw e (sym (took 0 s 0 0 [] f.long refl));
            };
        fits = λ x rest k l.
            rw (utf8-one x (omega arith)) (
              (k, l),
              (
                record {
                  long = omega arith;
                  second = none 1 2 (omega arith);
                  third = none 1 3 (omega arith);
                  fourth = none 1 4 (omega arith);
                },
                refl,
              ),
            );
      }

  two : Ranged 0xC0 0xDF a b c d → 0x80 ≤ first (row (a to b) (c to d) 2) → Rule (row (a to b) (c to d) 2)
  unfolding first last number ◌⇒◌⁏◌ ◌=?◌
  two g h =
      record {
        sound = λ s l f.
            let m = more (u8_at s 0 - 0xC0) (u8_at s 1) in
            let q = gathered 0xC0 0xDF a b c d g (u8_at s 0) (u8_at s 1) l (f.second (omega arith)) in
            let e = utf8-two m (omega (arith, q.from)) (omega (arith, q.top)) in
            record {
              value = m;
              good = scalar_is m (inl (omega (arith, q.top)));
              size = rw e refl;
              front = rw (e, q.lead, q.second) (sym (took 0 s 0 1 _ (omega (arith, f.long)) (took 0 s 1 0 [] f.long refl)));
            };
        fits = λ x rest k l.
            let w = spread 0xC0 0xDF a b c d g x k l in
            rw (utf8-two x (omega arith) (omega (arith, w.0, g.lead-to))) (
              w.0,
              (
                record {
                  long = omega arith;
                  second = λ z. w.1;
                  third = none 2 3 (omega arith);
                  fourth = none 2 4 (omega arith);
                },
                refl,
              ),
            );
      }

  three : Ranged 0xE0 0xEF a b c d → 0x800 ≤ first (row (a to b) (c to d) 3)
      → (last (row (a to b) (c to d) 3) < 0xD800) ⊎ (0xDFFF < first (row (a to b) (c to d) 3)) → Rule (row (a to b) (c to d) 3)
  unfolding first last number ◌⇒◌⁏◌ ◌=?◌
  three g h free =
      record {
        sound = λ s l f.
            let m = more (u8_at s 0 - 0xE0) (u8_at s 1) in
            let q = gathered 0xE0 0xEF a b c d g (u8_at s 0) (u8_at s 1) l (f.second (omega arith)) in
            let t = f.third (omega arith) in
            let v = more m (u8_at s 2) in
            let low = more-mono _ m 0x80 (u8_at s 2) q.from t.0 in
            let high = more-mono m _ (u8_at s 2) 0xBF q.upto t.1 in
            let n = more-div m (u8_at s 2) t in
            let e = utf8-three v m n (omega arith) (omega (arith, q.top)) in
            record {
              value = v;
              good = scalar_is v (⊎_elim (λ y. inl (omega arith)) (λ y. inr (omega arith, omega (arith, q.top))) free);
              size = rw e refl;
              front = rw (e, q.lead, q.second, more-mod m (u8_at s 2) t)
                  (sym (took 0 s 0 2 _ (omega (arith, f.long)) (took 0 s 1 1 _ (omega (arith, f.long))
                  (took 0 s 2 0 [] f.long refl))));
            };
        fits = λ x rest k l.
            let w = spread 0xE0 0xEF a b c d g (x / 0x40) (more-from _ x k) (more-to _ x l) in
            rw (utf8-three x (x / 0x40) refl (omega arith) (omega (arith, w.0, g.lead-to))) (
              w.0,
              (
                record {
                  long = omega arith;
                  second = λ z. w.1;
                  third = λ z. (omega arith, omega arith);
                  fourth = none 3 4 (omega arith);
                },
                refl,
              ),
            );
      }

  four : Ranged 0xF0 0xF7 a b c d → 0x10000 ≤ first (row (a to b) (c to d) 4) → last (row (a to b) (c to d) 4) < 0x110000
      → Rule (row (a to b) (c to d) 4)
  unfolding first last number ◌⇒◌⁏◌ ◌=?◌
  four g h top =
      record {
        sound = λ s l f.
            let m = more (u8_at s 0 - 0xF0) (u8_at s 1) in
            let q = gathered 0xF0 0xF7 a b c d g (u8_at s 0) (u8_at s 1) l (f.second (omega arith)) in
            let t = f.third (omega arith) in
            let u = f.fourth (omega arith) in
            let n = more m (u8_at s 2) in
            let v = more n (u8_at s 3) in
            let low = more-mono _ n 0x80 (u8_at s 3) (more-mono _ m 0x80 (u8_at s 2) q.from t.0) u.0 in
            let high = more-mono n _ (u8_at s 3) 0xBF (more-mono m _ (u8_at s 2) 0xBF q.upto t.1) u.1 in
            let e = utf8-four v n m (more-div n (u8_at s 3) u) (more-div m (u8_at s 2) t) (omega arith) in
            record {
              value = v;
              good = scalar_is v (inr (omega arith, omega arith));
              size = rw e refl;
              front = rw (e, q.lead, q.second, more-mod m (u8_at s 2) t, more-mod n (u8_at s 3) u)
                  (sym (took 0 s 0 3 _ (omega (arith, f.long)) (took 0 s 1 2 _ (omega (arith, f.long))
                  (took 0 s 2 1 _ (omega (arith, f.long)) (took 0 s 3 0 [] f.long refl)))));
            };
        fits = λ x rest k l.
            let y = x / 0x40 in
            let w = spread 0xF0 0xF7 a b c d g (y / 0x40) (more-from _ y (more-from _ x k)) (more-to _ y (more-to _ x l)) in
            rw (utf8-four x y (y / 0x40) refl refl (omega arith)) (
              w.0,
              (
                record {
                  long = omega arith;
                  second = λ z. w.1;
                  third = λ z. (omega arith, omega arith);
                  fourth = λ z. (omega arith, omega arith);
                },
                refl,
              ),
            );
      }

longer : (r : Row) → 4 < r.2 → fair r ≡ false
unfolding fair
longer r h =
    sym
    (no _ _ (ne _ _ (λ e. omega arith))
    (no _ _ (ne _ _ (λ e. omega arith)) (no _ _ (ne _ _ (λ e. omega arith)) (no _ _ (ne _ _ (λ e. omega arith)) refl))))

rule-of : (a b c d n : ℕ) → fair (row (a to b) (c to d) n) ≡ true → Rule (row (a to b) (c to d) n)
unfolding fair ◌⇒◌⁏◌ ◌=?◌
rule-of a b c d zero h = absurd (true≢false (sym h))
rule-of a b c d (suc zero) h = one a b c d (lt_of _ _ h)
rule-of a b c d (suc (suc zero)) h =
    let t = and-of (ranged (0xC0 to 0xDF) (row (a to b) (c to d) 2)) _ h in
    two a b c d (ranged-of 0xC0 0xDF a b c d 2 t.0) (lt_of _ _ t.1)
rule-of a b c d (suc (suc (suc zero))) h =
    let t = and-of (ranged (0xE0 to 0xEF) (row (a to b) (c to d) 3)) _ h in
    let u = and-of (0x7FF <? first (row (a to b) (c to d) 3)) _ t.1 in
    three a b c d (ranged-of 0xE0 0xEF a b c d 3 t.0) (lt_of _ _ u.0)
    (⊎_elim (λ p. inl (lt_of _ _ p)) (λ p. inr (lt_of _ _ p)) (or-of (last (row (a to b) (c to d) 3) <? 0xD800) _ u.1))
rule-of a b c d (suc (suc (suc (suc zero)))) h =
    let t = and-of (ranged (0xF0 to 0xF7) (row (a to b) (c to d) 4)) _ h in
    let u = and-of (0xFFFF <? first (row (a to b) (c to d) 4)) _ t.1 in
    four a b c d (ranged-of 0xF0 0xF7 a b c d 4 t.0) (lt_of _ _ u.0) (lt_of _ _ u.1)
rule-of a b c d (suc (suc (suc (suc (suc n))))) h =
    absurd (true≢false (sym h ∙ longer (row (a to b) (c to d) (suc (suc (suc (suc (suc n)))))) (omega arith)))

pub rule : (r : Row) → fair r ≡ true → Rule r
rule r h = rule-of r.0.0 r.0.1 r.1.0 r.1.1 r.2 h

climbs-of : (lead from : ℕ) (r : Row) (rs : List Row) → climbs lead from (r ∷ rs) ≡ true → Climbs lead from r rs
unfolding climbs
climbs-of lead from r rs h =
    let t = and-of _ _ h in
    let u = and-of _ _ t.1 in
    let v = and-of _ _ u.1 in
    record { here = rule r t.0; starts = eq_of _ _ u.0; leads = within_of (lead to r.0.1) r.0.0 v.0; on = v.1 }

rows-sound : (rs : List Row) (lead from : ℕ) (s : List ℕ) → climbs lead from rs ≡ true → 0 < charted rs s → Front utf8 s (charted rs s)
unfolding charted
rows-sound [] lead from s h = λ k. absurd (omega arith)
rows-sound (r ∷ rs) lead from s h =
    let c = climbs-of lead from r rs h in
    each (λ n. 0 < n → Front utf8 s n) _ _ _
    (λ l. each (λ n. 0 < n → Front utf8 s n) _ _ _
    (λ f k. c.here.sound s (within_of r.0 (u8_at s 0) l) (follows_of r s f))
    (λ f k. absurd (omega arith)))
    (λ l. rows-sound rs (suc r.0.1) (next (last r)) s c.on)

-- no scalar value lies between c and the next one
next-scalar : (c x : ℕ) → scalar x ≡ true → c < x → next c ≤ x
unfolding next
next-scalar c x good h =
    each (λ n. n ≤ x) _ _ _
    (λ e. let q = eq_of _ _ e in ⊎_elim (λ low. omega arith) (λ high. omega arith) (scalar-of x good))
    (λ e. h)

rows-complete : (rs : List Row) (lead from c : ℕ) (rest : List ℕ) → climbs lead from rs ≡ true → scalar c ≡ true → from ≤ c
    → (lead ≤ u8_at (utf8 c ++ rest) 0) × (charted rs (utf8 c ++ rest) ≡ length (utf8 c))
unfolding charted climbs
rows-complete [] lead from c rest h good k = absurd (omega (arith, eq_of _ _ h, scalar-top c good))
rows-complete (r ∷ rs) lead from c rest h good k =
    go (last r <? c) refl
    (λ l. rows-complete rs (suc r.0.1) (next (last r)) c rest g.on good (next-scalar (last r) c good l))
  where
    g : Climbs lead from r rs
    g = climbs-of lead from r rs h

    go : (b : Bool) → (last r <? c) ≡ b
        → (last r < c → (suc r.0.1 ≤ u8_at (utf8 c ++ rest) 0) × (charted rs (utf8 c ++ rest) ≡ length (utf8 c)))
        → (lead ≤ u8_at (utf8 c ++ rest) 0) × (charted (r ∷ rs) (utf8 c ++ rest) ≡ length (utf8 c))
    go false e later =
        let f = g.here.fits c rest (omega (arith, g.starts)) (ge-of _ _ e) in
        (omega (arith, g.leads, f.0), sym (yes _ _ (within-is r.0 _ f.0) (yes _ _ (follows_is r _ f.1.0) (sym f.1.1))))
    go true e later =
        let f = later (lt_of _ _ e) in
        (omega (arith, g.leads, f.0), sym (no _ _ (within-not r.0 _ f.0) (sym f.1)))

-- what the chart finds is the encoding of a scalar value in front, and as long
pub chart-sound : (s : List ℕ) → 0 < charted chart s → Front utf8 s (charted chart s)
chart-sound s h = rows-sound chart 0 0 s chart-climbs h

-- and where a list begins with the encoding of a scalar value, the chart finds it
pub chart-complete : (c : ℕ) (rest : List ℕ) → scalar c ≡ true → charted chart (utf8 c ++ rest) ≡ length (utf8 c)
chart-complete c rest good = (rows-complete chart 0 0 c rest chart-climbs good (omega arith)).1

-- so a list begins with n bytes that the chart finds exactly if it begins with n bytes that are the encoding of a scalar value
pub chart-exactly : (s : List ℕ) (n : ℕ) → Exactly ((0 < n) × (charted chart s ≡ n)) (Front utf8 s n)
chart-exactly = exactly utf8 (charted chart) utf8-some chart-sound chart-complete
