-- One call that counts: it gets what is due to it, and the desk has afterwards what the next stage says. Assumes nothing.
use Prim.Native.Nat.{ℕ, ◌+◌, ◌≤◌, ◌<◌}
use Rattle.std.proofs.Common.{arith, ap, ◌∙◌, true≢false}
use Rattle.std.specs.Prelude.{◌≡◌, length, drop, Some}
use Rattle.std.proofs.Math.Path.{refl, sym, subst}
use Rattle.std.proofs.Math.Bool.{Bool, true, false, not}
use mathlib.Core.List.{List, [], ◌++◌}
use Rattle.std.proofs.Math.ListN.{length-set}
use Rattle.std.proofs.lemmas.List.Edits.{sets, sets-eq}
use Rattle.std.proofs.Math.Seq.{get_or-set_same}
use Rattle.laws.specs.Rows.{◌=?◌, ◌<?◌, each, yes, no, eq, lt, ge, eq_of, lt_of, ge-of}
use Rattle.paper.specs.Limits.{sample_most, finished_most}
use Rattle.paper.specs.declared.Refusal.TheVariants as R
use Rattle.paper.specs.Time.{Time}
use Rattle.paper.specs.declared.Outcome.{Outcome}
use Rattle.paper.specs.declared.Outcome.TheVariants as O
use Rattle.unit.specs.declared.Part as P
use Rattle.unit.specs.declared.Unit as U
use Rattle.unit.specs.declared.Unit.TheVariants.{End, Skipped, Refused, Whole, Part, Description}
use Rattle.writer.specs.Write.{Caption, sample, long, count, uncut}
use Rattle.writer.specs.Returns.{Writable}
use Rattle.writer.proofs.Returns.{whole-count}
use Rattle.sample.specs.declared.Place.{Place}
use Rattle.sample.specs.Place.{closed, kept, missing}
use Rattle.finished.specs.Times.{marked_used}
use Rattle.finished.specs.Marks.{row_after, used_after}
use Rattle.finished.proofs.Marks.{length-kept}
use Rattle.desk.specs.Desk.{is_text, Own, After, own, says, stay, in_use, finish, facts, whole_taken, sample_of, conflicts, six, used_up}
use Rattle.desk.specs.Desk.{completed, joining, taken}
use Rattle.desk.specs.Effects.{asks_part}
use Rattle.good.specs.View.{View, own_in, seen_after}
use Rattle.peace.specs.Run.{Few}
use Rattle.peace.specs.Alone.{lone}
use Rattle.once.specs.Due.{hands_out, Stage, gathering, finished, with, awaited, due, brought}
use Rattle.once.specs.Keeping.{Bears, Gathered, Only}
use Rattle.once.proofs.Keeping.{with-only, missing-awaited, word-all, sound-all, together-all, string-all}
use Rattle.once.proofs.Adding.{agrees-ours, repeats-ours, no-repeat, fresh, kept-gathered}
use Rattle.once.specs.Others.{Fit, Timely}
use Rattle.once.proofs.Others.{since-late}
use Rattle.once.specs.Steps.{whole_of, Stands, Standing, Holds, Serves}

pub each-case : {P : Type 0} (b : Bool) → (b ≡ true → P) → (b ≡ false → P) → P
each-case true h k = h refl
each-case false h k = k refl

pub with-again : (came : ℕ → Bool) (k : ℕ) → came k ≡ true → with came k ≡ came
with-again came k e = λ i j. each (λ (b : Bool). b ≡ came j) (j =? k) true (came j) (λ q. sym (ap came (eq_of j k q) ∙ e)) (λ q. refl) i

module _ (c : Caption) (M time : ℕ) (v : View) (out : List ℕ) where
  stood : (o : Own) → (seen_after v (Some time) o).at time ≡ o.place
  stood o = sym (yes _ _ (eq time time refl) refl)

  -- ---- the row, the marks and the place as they were
  same-holds : (s : Stage) → Holds c M time v s → Holds c M time (seen_after v (Some time) (own_in v (Some time) out)) s
  same-holds s h = record {
    fit = record { row = h.fit.row; marks = h.fit.marks };
    timely = same-timely s h.timely;
    standing = subst (λ (p : Place). Standing c M time p s) (sym (stood (own_in v (Some time) out))) h.standing;
  }
    where
      same-timely : (s : Stage) → Timely v time s → Timely (seen_after v (Some time) (own_in v (Some time) out)) time s
      same-timely (gathering came) t = t
      same-timely (finished since) t = record {
        row = t.row;
        used = t.used;
        more = t.more;
        long = t.long;
        row_is = t.row_is;
        used-is = t.used-is;
        many = t.many;
      }

  -- the sample is finished
  ended-holds : Fit v → (p : Place) (o : List ℕ)
      → Holds c M time (seen_after v (Some time) (finish (own_in v (Some time) out) time p o)) (finished 0)
  unfolding row_after used_after
  ended-holds f p o = record {
    fit = record {
      row = omega (arith, length-kept v.row (in_use v.marks) time, f.row);
      marks = omega (arith, length-set v.marks 0 (marked_used (in_use v.marks)), f.marks);
    };
    timely = record {
      row = v.row;
      used = in_use v.marks;
      more = [];
      long = f.row;
      row_is = refl;
      used-is = get_or-set_same v.marks 0 _ 0 f.marks;
      many = refl;
    };
    standing = tt;
  }

  -- ---- an answer that changes nothing; and the sample handed out
  stayed : (s : Stage) → Holds c M time v s → (used : ℕ) (next : Time) (x : Outcome) → hands_out x ≡ false
      → Serves c M time v out x s (stay (own_in v (Some time) out) used next x)
  stayed s h used next x e = record { outcome = refl; left = no _ _ e refl; holds = same-holds s h }

  given : Fit v → length (sample c) ≤ sample_most → sample_most ≤ length out → (p : Place) (used : ℕ) (next : Time) (x : Outcome)
      → hands_out x ≡ true → Serves c M time v out x (finished 0)
      (record { own = finish (own_in v (Some time) out) time p (sets out 0 (sample c)); answer = says used next x })
  given f small room p used next x e =
      let z : 0 + length (sample c) ≡ length (sample c) = omega arith in
      let front : sets out 0 (sample c) ≡ sample c ++ drop (length (sample c)) out =
      sets-eq (sample c) out 0 (omega arith) ∙ ap (λ (n : ℕ). sample c ++ drop n out) z in
      record { outcome = refl; left = yes _ _ e front; holds = ended-holds f p (sets out 0 (sample c)) }

  -- the same outcome, stage and remains in other words
  pub same-served : {x y : Outcome} {s t : Stage} {a b : After} → x ≡ y → s ≡ t → a ≡ b → Serves c M time v out x s a → Serves c M time v out y t b
  same-served {x} {y} {s} {t} {a} {b} e f g h =
      subst (λ (z : Outcome). Serves c M time v out z t b) e (subst (λ (z : Stage). Serves c M time v out x z b) f (subst (Serves c M time v out x s) g h))

  -- ---- after it is finished: refusal 6
  pub late-served : (since : ℕ) → Holds c M time v (finished since) → since < finished_most
      → (desk used : ℕ) (rest : List ℕ) (x : U.Unit) → is_text x ≡ true
      → Serves c M time v out (O.Refused R.Late) (finished since) (taken (lone v) (own_in v (Some time) out) desk (Some time) used rest x)
  unfolding whole_taken joining
  late-served since h soon desk used rest End b = absurd (true≢false (sym b))
  late-served since h soon desk used rest (Skipped t) b = absurd (true≢false (sym b))
  late-served since h soon desk used rest (Refused r) b = absurd (true≢false (sym b))
  late-served since h soon desk used rest (Whole w) b =
      subst (Serves c M time v out (O.Refused R.Late) (finished since)) (yes _ _ (since-late v time since h.timely soon) refl)
      (stayed (finished since) h used _ (O.Refused R.Late) refl)
  late-served since h soon desk used rest (Part x) b =
      subst (Serves c M time v out (O.Refused R.Late) (finished since)) (yes _ _ (since-late v time since h.timely soon) refl)
      (stayed (finished since) h used _ (O.Refused R.Late) refl)
  late-served since h soon desk used rest (Description w) b = absurd (true≢false (sym b))

  module _ (room : ℕ) (writable : Writable c M room) (u : uncut c M ≡ false) (came : ℕ → Bool) (h : Holds c M time v (gathering came)) (space : sample_most ≤ length out) where
    -- ---- a sample that is not cut is whole
    module _ (l : long c M ≡ false) where
      one-lacks : awaited (count c M) (with came 1) ≡ 0
      unfolding awaited
      one-lacks =
          let e : with came 1 1 ≡ true = sym (yes _ _ (eq 1 1 refl) refl) in
          let n : count c M ≡ 1 = whole-count c M l in
          rw (n, e)

      pub whole-served : (used : ℕ) (next : Time) (d : List ℕ) → d ≡ sample c
          → Serves c M time v out (due c M time (gathering came) 1) (brought c M (gathering came) 1)
          (whole_taken (own_in v (Some time) out) time used next (whole_of c) d)
      unfolding whole_taken
      whole-served used next d e =
          let n = h.standing.uncut l in
          let none-lacks : (0 <? awaited (count c M) (with came 1)) ≡ false = ge _ _ (omega (arith, one-lacks)) in
          let f = O.Whole (facts time c.U c.SIDX c.SDUR (length c.string) (length (sample c))) in
          let a : List ℕ → After =
          λ y. record { own = finish (own_in v (Some time) out) time (v.at time) (sets out 0 y); answer = says used next f } in
          same-served (no _ _ (n.1 1) (no _ _ none-lacks (no _ _ l refl))) (no _ _ none-lacks refl)
          (no _ _ h.timely (no _ _ n.0 (no _ _ (ge _ _ writable.small) (ap a (sym e)))))
          (given h.fit writable.small space (v.at time) used next f refl)

    -- ---- a part of one that is cut; q is the sample that it belongs to
    module _ (l : long c M ≡ true) (desk used : ℕ) (next : Time) (k : ℕ) (x : P.Part) (d : List ℕ) (b : Bears c M k x d) where
      abbrev pub q : Place
      q = sample_of (v.at time) desk time x

      g : Gathered c M came q
      g = h.standing.cut l desk x b.agrees.total b.agrees.sdur

      abbrev pub Served : After → Type 0
      Served = Serves c M time v out (due c M time (gathering came) k) (brought c M (gathering came) k)

      -- it came before
      pub again-served : came k ≡ true → Served (joining (lone v) (own_in v (Some time) out) time used next q x d)
      unfolding joining
      again-served e =
          let w = with-again came k e in
          let m : 0 < awaited (count c M) (with came k) = subst (λ (f : ℕ → Bool). 0 < awaited (count c M) f) (sym w) h.standing.some in
          same-served (yes _ _ e refl) (yes _ _ (lt _ _ m) (ap gathering (sym w)))
          (no _ _ h.timely (yes _ _ (repeats-ours c M room writable u l came q g k x d b e) refl)) (stayed (gathering came) h used next O.Repeat refl)

      module _ (new : came k ≡ false) where
        abbrev p : Place
        p = kept q x d

        g' : Gathered c M (with came k) p
        g' = kept-gathered c M room writable u l came q g k x d b new

        in-it : Only (count c M) (with came k)
        in-it = with-only (count c M) came k h.standing.only b.from b.to

        lacks : missing p ≡ awaited (count c M) (with came k)
        lacks = missing-awaited c M room writable u l (with came k) p g' in-it

        -- some are missing still
        kept-served : (0 <? awaited (count c M) (with came k)) ≡ true → Served (completed (own_in v (Some time) out) time used next p)
        unfolding completed sample_of
        kept-served e =
            let m = awaited (count c M) (with came k) in
            let a : ℕ → After = λ n. record { own = own p v.row v.marks v.store out; answer = says used next (O.Kept n) } in
            same-served (no _ _ new (yes _ _ e refl)) (yes _ _ e refl) (yes _ _ (lt _ _ (omega (arith, lacks, lt_of _ _ e))) (ap a (sym lacks)))
            (record {
              outcome = refl;
              left = no _ _ refl refl;
              holds = record {
                fit = record { row = h.fit.row; marks = h.fit.marks };
                timely = h.timely;
                standing =
                    subst (λ (z : Place). Stands c M time z (with came k)) (sym (stood (a m).own))
                    (record {
                      only = in-it;
                      some = lt_of _ _ e;
                      cut = λ t desk x i j. subst (Gathered c M (with came k)) (yes _ _ g'.used refl) g';
                      uncut = λ t. absurd (true≢false (sym l ∙ t));
                    });
              };
            })

        -- it was the last
        joined-served : (0 <? awaited (count c M) (with came k)) ≡ false → Served (completed (own_in v (Some time) out) time used next p)
        unfolding completed
        joined-served e =
            let z : awaited (count c M) (with came k) ≡ 0 = omega (arith, ge-of _ _ e) in
            let w = word-all c M room writable u l (with came k) p g' z in
            let t = together-all c M room writable u l (with came k) p g' z in
            let r = string-all c M room writable u l (with came k) p g' z in
            let f = O.Joined (facts time c.U c.SIDX c.SDUR (length c.string) (length (sample c))) in
            same-served (no _ _ new (no _ _ e (yes _ _ l refl))) (no _ _ e refl)
            (no _ _ (ge _ _ (omega (arith, lacks, z)))
            (yes _ _ (sound-all c M room writable u l (with came k) p g' z) (rw (t, r, w.0, w.1, g'.sdur))))
            (given h.fit writable.small space closed used next f refl)

        pub new-served : (asks_part (own_in v (Some time) out) time q x d ≡ true → Few v.opens)
            → Served (joining (lone v) (own_in v (Some time) out) time used next q x d)
        unfolding joining asks_part six used_up conflicts
        new-served sparing =
            let r = no-repeat c M room writable u l came q g k x d b new in
            let f = fresh c M room writable u l came q g k x d b new in
            let n : conflicts q x ≡ false = sym (no _ _ f.new (sym (ap not (agrees-ours c M room writable u l came q g k x d b)))) in
            let few : (v.at time).used ≡ false → Few v.opens = λ e. sparing (sym (no _ _ h.timely (no _ _ r (no _ _ n (no _ _ f.fits (sym (ap not e))))))) in
            let z : Bool → Type 0 = λ t. t ≡ false in
            subst Served
            (no _ _ h.timely
            (no _ _ r
            (no _ _ n
            (no _ _ f.fits
            (no _ _ (each z (v.at time).used _ _ (λ e. refl) (λ e. ge _ _ (omega (arith, few e))))
            (no _ _ (each z (v.at time).used _ _ (λ e. refl) (λ e. sym (yes _ _ (lt _ _ (few e)) refl))) refl))))))
            (each-case (0 <? awaited (count c M) (with came k)) kept-served joined-served)
