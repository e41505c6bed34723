-- A place and the ledger's page of its sample tally: what is kept is what was entered. It is so of a closed place and a blank page, and
-- stays so when a part is kept and entered. Assumes nothing.
use Rattle.std.specs.Prelude.{ℕ, suc, ◌-◌, ◌≡◌, refl, Bool, true, false, List, length}
use Rattle.std.proofs.Common.{arith, sym, ◌∙◌, true≢false}
use Rattle.std.proofs.Math.Path.{ap}
use Rattle.std.proofs.Math.Option.{Option, none, some}
use Rattle.laws.specs.Rows.{◌=?◌, each, eq_of, ne_of}
use Rattle.laws.specs.Sums.{sum_same}
use Rattle.laws.specs.Table.{bit}
use Rattle.paper.specs.Limits.{parts_most}
use Rattle.unit.specs.declared.Part as P
use Rattle.unit.specs.Reads.{Counts}
use Rattle.sample.specs.declared.Place.{Place}
use Rattle.sample.specs.Place.{bare, closed, kept_at, missing, pieces_of, kept, oversize}
use Rattle.sample.specs.Kept.{Fresh, kept-none, opened-none, closed_none, keep-adds, keep-others}
use Rattle.sample.specs.Made.{closed-made, opened-made, keep-made}
use Rattle.sample.specs.Missing.{is_kept, missing-is, missing-none}
use Rattle.sample.specs.Arrival.{arrival, in-order-same}
use Rattle.sample.specs.Repeat.{Agrees, agrees-of}
use Rattle.sample.specs.Told.{Name, Word, word_of, keep-named, keep-string, keep-modifiers}
use Rattle.desk.specs.Desk.{sample_of, conflicts}
use Rattle.good.specs.Leaves.{fresh-part, agreed}
use Rattle.joined.specs.Ledger.{Entry, entry, Parts, nothing, adding, is_entered, entered_piece, in_this_order, different, Complete}
use Rattle.joined.specs.Tallies.{Tallies}

pub nothing-there : {A : Type 0} {e : Entry} → none ≡ some e → A
nothing-there q = let z : ◌≡◌ {A = ℕ} 0 1 = cc in absurd (omega arith)

entered-is : (o : Option Entry) → is_kept (entered_piece o) ≡ is_entered o
entered-is none = refl
entered-is (some e) = refl

none-entered : (o : Option Entry) → none ≡ entered_piece o → o ≡ none
none-entered none q = refl
none-entered (some e) q = let z : ◌≡◌ {A = ℕ} 0 1 = cc in absurd (omega arith)

-- ---- a closed place and a blank page
pub closed-tallies : Tallies closed nothing
closed-tallies = record {
  made = closed-made;
  free = λ u. refl;
  pieces = closed_none;
  agree = λ k e q. nothing-there q;
  tell = λ k e q. nothing-there q;
  told = λ k e q. nothing-there q;
}

-- ---- the sample that a part belongs to: the opened one, or the one that it opens
module _ (p : Place) (E : Parts) (t : Tallies p E) where
  blank-page : p.used ≡ false → (k : ℕ) → E k ≡ none
  blank-page u k = none-entered (E k) (sym (closed_none k) ∙ ap (λ (y : Place). kept_at y k) (sym (t.free u)) ∙ t.pieces k)

  pub sample-tallies : (desk time : ℕ) (x : P.Part) → Counts x → Tallies (sample_of p desk time x) E
  unfolding sample_of bare
  sample-tallies desk time x c =
      each (λ (q : Place). Tallies q E) p.used p _ (λ u. t)
      (λ u.
      let b = blank-page u in
      record {
        made = opened-made desk time x c.most;
        free = λ f. absurd (true≢false f);
        pieces = λ k. opened-none desk time x k ∙ ap entered_piece (sym (b k));
        agree = λ k e q. nothing-there (sym (b k) ∙ q);
        tell = λ k e q. nothing-there (sym (b k) ∙ q);
        told = λ k e q. nothing-there (sym (b k) ∙ q);
      })

  -- ---- what a place that tallies says of the page
  pub missing-different : missing p ≡ p.total - different E
  missing-different =
      missing-is p t.made
      ∙ ap (λ (n : ℕ). p.total - n)
      (sum_same parts_most (λ k. bit (is_kept (kept_at p (suc k)))) (λ k. bit (is_entered (E (suc k))))
      (λ k l. ap bit (ap is_kept (t.pieces (suc k)) ∙ entered-is (E (suc k)))))

  pub none-missing : missing p ≡ 0 → Complete E p.total
  none-missing z k a b = sym (entered-is (E k)) ∙ ap is_kept (sym (t.pieces k)) ∙ missing-none p t.made z k a b

  pub pieces-in-order : pieces_of p ≡ in_this_order E p.total
  pieces-in-order = arrival p t.made ∙ in-order-same (kept_at p) (λ k. entered_piece (E k)) p.total 1 (λ k l r. t.pieces k)

-- ---- a part that is kept and entered
module _ (q : Place) (E : Parts) (t : Tallies q E) (opened : q.used ≡ true) (x : P.Part) (d : List ℕ) (c : Counts x)
    (a : conflicts q x ≡ false) (b : oversize q x (length d) ≡ false) where
  f : Fresh q x d
  f = fresh-part q x d c a b

  abbrev pub p : Place
  p = kept q x d

  its : Agrees q x
  its = agrees-of q x (agreed q x a)

  pub total-stays : p.total ≡ x.total
  total-stays = ap (λ (n : Name). n.total) (keep-named q x d) ∙ its.total

  pub sdur-stays : p.sdur ≡ x.sdur
  sdur-stays = ap (λ (n : Name). n.sdur) (keep-named q x d) ∙ its.sdur

  -- it was not kept before
  pub not_entered : E x.this ≡ none
  not_entered = none-entered (E x.this) (sym (kept-none q x.this f.new) ∙ t.pieces x.this)

  -- what the place was told, it was told: a TYPE 2 part says the same
  record Stays : Type 0 where
    told : p.told ≡ true
    u : p.u ≡ q.u
    sidx : p.sidx ≡ q.sidx
    slen : p.slen ≡ q.slen

  string-word : x.kind ≡ 2 → word_of p ≡ record { told = true; u = x.u; sidx = x.sidx; slen = x.slen }
  string-word k = keep-string q x d f.from (omega (arith, c.to, c.most)) k (agreed q x a)

  stays : q.told ≡ true → Stays
  stays h = go (x.kind =? 2) refl
    where
      go : (y : Bool) → (x.kind =? 2) ≡ y → Stays
      go true e =
          let w = string-word (eq_of _ _ e) in
          let l = its.strings (eq_of _ _ e) h in
          record {
            told = ap (λ (z : Word). z.told) w;
            u = ap (λ (z : Word). z.u) w ∙ sym l.u;
            sidx = ap (λ (z : Word). z.sidx) w ∙ sym l.sidx;
            slen = ap (λ (z : Word). z.slen) w ∙ sym l.slen;
          }
      go false e =
          let w = keep-modifiers q x d f.from (omega (arith, c.to, c.most)) (ne_of _ _ e) in
          record {
            told = ap (λ (z : Word). z.told) w ∙ h;
            u = ap (λ (z : Word). z.u) w;
            sidx = ap (λ (z : Word). z.sidx) w;
            slen = ap (λ (z : Word). z.slen) w;
          }

  -- what is entered is the part, or was entered before
  split : {A : Type 0} (k : ℕ) (e : Entry) → adding E x d k ≡ some e → (e ≡ entry x d → A) → (E k ≡ some e → A) → A
  split {A} k e q new old =
      each (λ (o : Option Entry). o ≡ some e → A) (k =? x.this) (some (entry x d)) (E k) (λ y h. new (same-entry h)) (λ y h. old h) q
    where
      same-entry : some (entry x d) ≡ some e → e ≡ entry x d
      same-entry h = cc

  pub kept-tallies : Tallies p (adding E x d)
  kept-tallies = record {
    made = keep-made q t.made x d f;
    free = λ u. absurd (true≢false (sym (ap (λ (n : Name). n.used) (keep-named q x d) ∙ opened) ∙ u));
    pieces = λ k.
        each (λ (o : Option Entry). kept_at p k ≡ entered_piece o) (k =? x.this) (some (entry x d)) (E k)
        (λ e. ap (kept_at p) (eq_of k x.this e) ∙ keep-adds q t.made x d f)
        (λ e. keep-others q t.made x d f k (ne_of k x.this e) ∙ t.pieces k);
    agree = λ k e h.
        split k e h (λ n. (ap (λ (y : Entry). y.part.total) n ∙ sym total-stays, ap (λ (y : Entry). y.part.sdur) n ∙ sym sdur-stays))
        (λ o.
        let g = t.agree k e o in
        (g.0 ∙ sym (ap (λ (n : Name). n.total) (keep-named q x d)), g.1 ∙ sym (ap (λ (n : Name). n.sdur) (keep-named q x d))));
    tell = λ k e h m.
        split k e h
        (λ n.
        let w = string-word (sym (ap (λ (y : Entry). y.part.kind) n) ∙ m) in (
          ap (λ (y : Entry). y.part.u) n ∙ sym (ap (λ (z : Word). z.u) w),
          ap (λ (y : Entry). y.part.sidx) n ∙ sym (ap (λ (z : Word). z.sidx) w),
          ap (λ (y : Entry). y.part.slen) n ∙ sym (ap (λ (z : Word). z.slen) w),
        ))
        (λ o.
        let s = stays (t.told k e o m) in
        let g = t.tell k e o m in
        (g.0 ∙ sym s.u, g.1 ∙ sym s.sidx, g.2 ∙ sym s.slen));
    told = λ k e h m.
        split k e h (λ n. ap (λ (z : Word). z.told) (string-word (sym (ap (λ (y : Entry). y.part.kind) n) ∙ m)))
        (λ o. (stays (t.told k e o m)).told);
  }
