-- A call that does not count: it leaves the sample as it was, and its time is late afterwards as the next stage says. Assumes nothing.
use Rattle.desk.specs.GivenUp.{Freed}
use Rattle.std.specs.Prelude.{ℕ, suc, ◌≤◌, ◌<◌, ◌≡◌, Bool, List, [], ◌∷◌, ◌++◌, length, Some, Ok, Err}
use Rattle.std.proofs.Common.{arith, subst, ◌∙◌, true≢false, ⊎_elim}
use Rattle.std.proofs.Math.Path.{refl, sym, ap}
use Rattle.std.proofs.Math.Bool.{true, false}
use Rattle.std.proofs.Math.ListN.{length-append}
use Rattle.laws.specs.Rows.{◌⇒◌⁏◌, ◌=?◌, each, yes, eq, eq_of}
use Rattle.paper.specs.Limits.{finished_most}
use Rattle.paper.specs.Time.{Time}
use Rattle.sample.specs.declared.Place.{Place}
use Rattle.finished.specs.Times.{late, marked_row, marked_used}
use Rattle.finished.specs.Marks.{row_after, used_after}
use Rattle.finished.proofs.Marks.{length-kept}
use Rattle.finished.proofs.Until.{found-until, no_other}
use Rattle.desk.specs.GivenUp.{GivenUp}
use Rattle.desk.specs.Desk.{Own, in_use, Given, given_up}
use Rattle.memory.specs.Table.{is_time}
use Rattle.memory.specs.Relay.{yielded}
use Rattle.good.specs.Places.{time-of}
use Rattle.good.specs.View.{View, seen_at, own_in, seen_after, receives, gives_up}
use Rattle.peace.specs.Run.{Call, receive, give-up, lookup, released}
use Rattle.peace.specs.Alone.{lone, own_got, own_view}
use Rattle.once.specs.Ours.{counts, NotGivenUp}
use Rattle.once.specs.Due.{Stage, gathering, finished, finishing, freeing, passed}
use Rattle.once.specs.Marks.{Marks, Idles}
use Rattle.once.proofs.Marks.{receive-marks, receive-idles, give-up-marks}
use Rattle.once.specs.Others.{Fit, Since, Timely, Passes}

pub since-late : (v : View) (time n : ℕ) → Since v time n → n < finished_most → late v.row (in_use v.marks) time ≡ true
since-late v time n s h =
    (λ i. late (s.row_is i) (s.used-is i) time) ∙ found-until s.row s.used time s.long s.more (omega (arith, s.many))

more-marked : (ts row : List ℕ) (used at : ℕ)
    → (row_after row used (ts ++ (at ∷ [])) ≡ marked_row (row_after row used ts) (used_after used ts) at)
    × (used_after used (ts ++ (at ∷ [])) ≡ marked_used (used_after used ts))
unfolding row_after used_after
more-marked [] row used at = (refl, refl)
more-marked (t ∷ ts) row used at = more-marked ts (marked_row row used t) (marked_used used) at

not_late : (row : List ℕ) (used at time : ℕ) → finished_most ≤ length row → (at ≡ time → ⊥) → late row used time ≡ false
    → late (marked_row row used at) (marked_used used) time ≡ false
not_late row used at time long n h = go (late (marked_row row used at) (marked_used used) time) refl
  where
    go : (b : Bool) → late (marked_row row used at) (marked_used used) time ≡ b → b ≡ false
    go true e = absurd (⊎_elim (λ q. n (sym q)) (λ q. true≢false (sym q ∙ h)) (no_other row used at long time e))
    go false e = refl

module _ (v : View) (t : Time) (out : List ℕ) (o : Own) (time : ℕ) (f : Fit v) where
  after-fit : (b : Bool) → Marks (own_in v t out) t b o → Fit (seen_after v t o)
  after-fit b m = record {
    row =
        subst (λ (l : List ℕ). finished_most ≤ length l) (sym m.row)
        (each (λ (l : List ℕ). finished_most ≤ length l) b _ _
        (λ e. omega (arith, length-kept v.row (in_use v.marks) m.at, f.row)) (λ e. f.row));
    marks = omega (arith, m.long, f.marks);
  }

  after-early : (b : Bool) → Marks (own_in v t out) t b o → (b ≡ true → is_time t time ≡ true → ⊥)
      → late v.row (in_use v.marks) time ≡ false → late o.row (in_use o.marks) time ≡ false
  unfolding ◌⇒◌⁏◌
  after-early true m n h =
      (λ i. late (m.row i) (m.used i) time)
      ∙ not_late v.row (in_use v.marks) m.at time f.row
      (λ q. n refl (ap (λ (u : Time). is_time u time) (m.known refl) ∙ eq time m.at (sym q))) h
  after-early false m n h = (λ i. late (m.row i) (m.used i) time) ∙ h

  after-since : (b : Bool) → Marks (own_in v t out) t b o → (n : ℕ) → Since v time n
      → Timely (seen_after v t o) time (b ⇒ finished (suc n) ⁏ finished n)
  unfolding ◌⇒◌⁏◌
  after-since true m n s =
      let e = more-marked (time ∷ s.more) s.row s.used m.at in
      record {
        row = s.row;
        used = s.used;
        more = s.more ++ (m.at ∷ []);
        long = s.long;
        row_is = m.row ∙ (λ i. marked_row (s.row_is i) (s.used-is i) m.at) ∙ sym e.0;
        used-is = m.used ∙ ap marked_used s.used-is ∙ sym e.1;
        many = length-append s.more (m.at ∷ []) ∙ omega (arith, s.many);
      }
  after-since false m n s =
      record {
        row = s.row;
        used = s.used;
        more = s.more;
        long = s.long;
        row_is = m.row ∙ s.row_is;
        used-is = m.used ∙ s.used-is;
        many = s.many;
      }

-- ---- a give-up that frees nothing leaves all as it was
is-freed : (a : GivenUp) → freeing a ≡ true → a ≡ Freed
is-freed (Ok u) e = refl
is-freed (Err r) e = absurd (true≢false (sym e))

unfreed : (v : View) (at : ℕ) → ((gives_up v at).answer ≡ Freed → ⊥) → (gives_up v at).own ≡ own_in v (Some at) []
unfolding yielded given_up
unfreed v at = each Stays _ _ _ (λ q n. refl) (λ q. each Stays _ _ _ (λ u n. absurd (n refl)) (λ u n. refl))
  where
    Stays : Given → Type 0
    Stays a = (a.answer ≡ Freed → ⊥) → a.own ≡ own_in v (Some at) []

module _ (time : ℕ) (v : View) (f : Fit v) where
  timely-receive : (desk : ℕ) (at : Time) (rest out : List ℕ)
      → (finishing (receives (lone v) v desk at rest out).answer.outcome ≡ true → is_time at time ≡ true → ⊥)
      → (s : Stage) → Timely v time s → Timely (own_view v (receive desk at rest out)) time (passed s (own_got v (receive desk at rest out)))
  timely-receive desk at rest out n (gathering came) h = after-early v at out _ time f _ (receive-marks (lone v) v desk at rest out f.marks) n h
  timely-receive desk at rest out n (finished since) h = after-since v at out _ time f _ (receive-marks (lone v) v desk at rest out f.marks) since h

  timely-give-up : (desk at : ℕ) → NotGivenUp time (give-up desk at) (own_got v (give-up desk at)) → (s : Stage) → Timely v time s
      → Timely (own_view v (give-up desk at)) time (passed s (own_got v (give-up desk at)))
  timely-give-up desk at n (gathering came) h =
      after-early v (Some at) [] _ time f _ (give-up-marks v at f.marks)
      (λ e q. n (sym (eq_of time at q)) (ap released (is-freed (gives_up v at).answer e))) h
  timely-give-up desk at n (finished since) h = after-since v (Some at) [] _ time f _ (give-up-marks v at f.marks) since h

  timely-lookup : (desk index : ℕ) (book : List ℕ) (s : Stage) → Timely v time s → Timely v time (passed s (own_got v (lookup desk index book)))
  unfolding ◌⇒◌⁏◌
  timely-lookup desk index book (gathering came) h = h
  timely-lookup desk index book (finished since) h = h

  pub passes : (x : Call) → counts time x ≡ false → NotGivenUp time x (own_got v x) → (s : Stage) → Timely v time s → Passes time v x s
  passes (receive desk at rest out) n g s h =
      let quiet : is_time at time ≡ true → Idles (own_in v at out) (receives (lone v) v desk at rest out) =
      λ e. receive-idles (lone v) v desk at rest out (yes _ _ e refl ∙ n) in
      record {
        place =
            each (λ (p : Place). p ≡ v.at time) (is_time at time) _ _
            (λ e. (quiet e).place ∙ ap (seen_at v) (time-of at time e)) (λ e. refl);
        fit = after-fit v at out _ time f _ (receive-marks (lone v) v desk at rest out f.marks);
        timely = timely-receive desk at rest out (λ e q. true≢false (sym e ∙ (quiet q).idle.0)) s h;
        none = each (λ (b : Bool). b ≡ false) (is_time at time) _ false (λ e. (quiet e).idle.1) (λ e. refl);
      }
  passes (give-up desk at) n g s h = record {
    place =
        each (λ (p : Place). p ≡ v.at time) (time =? at) _ _
        (λ e.
        let q = sym (eq_of time at e) in
        ap (λ (o : Own). o.place) (unfreed v at (λ z. g q (ap released z))) ∙ ap v.at q) (λ e. refl);
    fit = after-fit v (Some at) [] _ time f _ (give-up-marks v at f.marks);
    timely = timely-give-up desk at g s h;
    none = refl;
  }
  passes (lookup desk index book) n g s h = record { place = refl; fit = f; timely = timely-lookup desk index book s h; none = refl }
