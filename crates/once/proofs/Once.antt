-- Handed out once: a sample whose payloads all come to a modest desk is handed out at exactly one call, whatever all others do.
-- Assumes nothing.
use Rattle.memory.specs.Started.{Ready}
use Rattle.writer.specs.Written.{packed, packed-count}
use Rattle.std.specs.Prelude.{ℕ, suc, ◌+◌, ◌<◌, ◌≡◌, Bool, List, [], ◌∷◌, length, replicate, Err}
use native.Mathlib.Omega.{arith}
use Rattle.std.proofs.Math.Path.{refl, ap, subst}
use Rattle.std.proofs.Common.{sym, ◌∙◌, true≢false, ⊎_elim}
use Rattle.std.proofs.Math.Bool.{true, false}
use Rattle.std.proofs.Math.ListN.{length-replicate}
use Rattle.laws.specs.Rows.{◌⇒◌⁏◌, ◌<?◌, each, yes, no, eq, lt, ge, ne_of, or-none}
use Rattle.laws.specs.Sums.{sum-zero, sum_ones}
use Rattle.laws.specs.Table.{bit}
use Rattle.paper.specs.Limits.{finished_most}
use Rattle.paper.specs.declared.Refusal.{Refusal}
use Rattle.paper.specs.Time.{Time}
use Rattle.paper.specs.declared.Outcome.{Outcome}
use Rattle.unit.specs.Layout.{read_of}
use Rattle.writer.specs.Write.{Caption, long, count, uncut, unwritable, After, written}
use Rattle.writer.specs.Returns.{Writable}
use Rattle.writer.proofs.Returns.{writable}
use Rattle.writer.proofs.Payloads.{total}
use Rattle.sample.specs.Place.{bare}
use Rattle.finished.proofs.Until.{none-late}
use Rattle.desk.specs.Desk.{sample_of}
use Rattle.memory.specs.Table.{is_time}
use Rattle.memory.specs.Relay.{Tables, set_up}
use Rattle.good.specs.Good.{set-up-good}
use Rattle.good.specs.View.{View, view}
use Rattle.good.specs.Fresh.{fresh_view, set-up-view}
use Rattle.peace.specs.Run.{Call, receive, give-up, lookup, Got, run, to, only, Modest}
use Rattle.peace.specs.Alone.{own_got, own_view, alone, Frugal}
use Rattle.peace.proofs.Alone.{modest-frugal, as-frugal}
use Rattle.once.specs.Ours.{counts, payload_number, Every, EachGot, Ours, NotGivenUp, Brings}
use Rattle.once.specs.Due.{Stage, gathering, finished, with, hands_out, finishes, due, brought, passed, onward, AllSoon, AllDue, handings, start, Coming, HandedOnce}
use Rattle.once.specs.Due as W
use Rattle.once.specs.Keeping.{Gathered}
use Rattle.once.proofs.Keeping.{opened-gathered}
use Rattle.once.specs.Steps.{Holds}
use Rattle.once.proofs.Steps.{each-case, with-again}
use Rattle.once.specs.Calls.{handing_due}
use Rattle.once.proofs.Calls.{begins-told, step}
use Rattle.once.specs.Once.{remaining, Awaits}

-- what the writer was not refused
written_is : (c : Caption) (M k : ℕ) (out : List ℕ) (len N : ℕ) → (written c M k out).answer ≡ packed len N
    → (unwritable c M (length out) ≡ false) × (uncut c M ≡ false) × (N ≡ count c M)
unfolding written
written_is c M k out len N =
    each G _ _ _ (λ q e. never e)
    (λ q1. each G _ _ _ (λ q e. never e) (λ q2. each G _ _ _ (λ q e. never e) (λ q3. each G _ _ _ (λ q e. never e) (λ q4 e. (q1, q2, sym (packed-count e))))))
  where
    Good : Type 0
    Good = (unwritable c M (length out) ≡ false) × (uncut c M ≡ false) × (N ≡ count c M)

    G : After → Type 0
    G a = a.answer ≡ packed len N → Good

    never : {r : Refusal} → Err r ≡ packed len N → Good
    never e = let z : ◌≡◌ {A = ℕ} 0 1 = cc in absurd (omega arith)

module _ (c : Caption) (M room : ℕ) (w : Writable c M room) (u : uncut c M ≡ false) (time : ℕ) where
  -- ---- from set-up on
  fresh_holds : Holds c M time fresh_view start
  unfolding bare sample_of W.awaited
  fresh_holds = record {
    fit = record { row = omega (arith, length-replicate {A = ℕ} finished_most 0); marks = omega arith };
    timely = none-late (replicate finished_most 0) time;
    standing = record {
      only = λ k e. absurd (true≢false (sym e));
      some = omega (arith, total c M room w u, sum-zero (count c M) (λ i. 0) (λ i. refl));
      cut = λ l desk x t s. subst (Gathered c M (λ k. false)) (no _ _ refl refl) (opened-gathered c M room w u l desk time x t s (λ k. false) (λ k. refl));
      uncut = λ l. (refl, λ k. refl);
    };
  }

  -- ---- every call that counts gets what is due
  all-due : (xs : List Call) (v : View) (s : Stage) → Holds c M time v s → Frugal v xs → Every (Ours c M time) xs → EachGot (NotGivenUp time) xs (alone v xs)
      → AllSoon c M time s xs (alone v xs) → AllDue c M time s xs (alone v xs)
  all-due [] v s h f o k soon = tt
  all-due (x ∷ xs) v s h f o k soon =
      let t = step c M room w u time v x f.0 o.0 k.0 s h soon.0 in
      (t.gets, all-due xs (own_view v x) (onward c M time s x (own_got v x)) t.holds f.1 o.1 k.1 soon.1)

  -- ---- the count
  brought-moves : (v : View) (s : Stage) → Holds c M time v s → (k : ℕ) → bit (hands_out (due c M time s k)) + remaining (brought c M s k) ≡ remaining s
  brought-moves v (gathering came) h k =
      each-case (came k)
      (λ e.
      let m = subst (λ (f : ℕ → Bool). 0 < W.awaited (count c M) f) (sym (with-again came k e)) h.standing.some in
      go (yes _ _ e refl) (yes _ _ (lt _ _ m) refl) refl)
      (λ e. each-case (0 <? W.awaited (count c M) (with came k)) (λ m. go (no _ _ e (yes _ _ m refl)) (yes _ _ m refl) refl)
      (λ m. go (no _ _ e (no _ _ m refl)) (no _ _ m refl) (each (λ (y : Outcome). bit (hands_out y) + 0 ≡ 1) (long c M) _ _ (λ l. refl) (λ l. refl))))
    where
      go : {y : Outcome} {t : Stage} → y ≡ due c M time (gathering came) k → t ≡ brought c M (gathering came) k → bit (hands_out y) + remaining t ≡ 1
          → bit (hands_out (due c M time (gathering came) k)) + remaining (brought c M (gathering came) k) ≡ 1
      go p q e = (λ i. bit (hands_out (sym p i)) + remaining (sym q i)) ∙ e
  brought-moves v (finished since) h k = refl

  passed-moves : (s : Stage) (g : Got) → 0 + remaining (passed s g) ≡ remaining s
  passed-moves (gathering came) g = refl
  passed-moves (finished since) g = each (λ (t : Stage). 0 + remaining t ≡ 0) (finishes g) _ _ (λ e. refl) (λ e. refl)

  moves : (v : View) (s : Stage) → Holds c M time v s → (x : Call) (g : Got) → bit (handing_due c M time s x) + remaining (onward c M time s x g) ≡ remaining s
  unfolding ◌⇒◌⁏◌
  moves v s h (receive desk at rest out) g = go (counts time (receive desk at rest out))
    where
      go : (b : Bool) → bit (b ⇒ hands_out (due c M time s (payload_number (read_of rest).unit)) ⁏ false)
          + remaining (b ⇒ brought c M s (payload_number (read_of rest).unit) ⁏ passed s g) ≡ remaining s
      go true = brought-moves v s h (payload_number (read_of rest).unit)
      go false = passed-moves s g
  moves v s h (give-up desk at) g = passed-moves s g
  moves v s h (lookup desk index book) g = passed-moves s g

  brings-counts : (k : ℕ) (x : Call) → Brings c M time k x → counts time x ≡ true
  brings-counts k (receive desk at rest out) b =
      sym (yes _ _ (ap (λ (a : Time). is_time a time) b.0 ∙ eq time time refl)
      (no _ _ (ge _ _ b.1) (sym (begins-told c M room w u k rest b.2).0)))
  brings-counts k (give-up desk at) b = absurd b
  brings-counts k (lookup desk index book) b = absurd b

  passed-awaits : (s : Stage) (x : Call) (g : Got) (xs : List Call) → counts time x ≡ false → Awaits c M time s (x ∷ xs)
      → Awaits c M time (passed s g) xs
  passed-awaits (gathering came) x g xs n a = λ k i j e. ⊎_elim (λ b. absurd (true≢false (sym (brings-counts k x b) ∙ n))) (λ t. t) (a k i j e)
  passed-awaits (finished since) x g xs n a = each (λ (t : Stage). Awaits c M time t xs) (finishes g) _ _ (λ e. tt) (λ e. tt)

  brought-awaits : (s : Stage) (desk : ℕ) (at : Time) (rest out : List ℕ) (xs : List Call)
      → Awaits c M time s (receive desk at rest out ∷ xs) → Awaits c M time (brought c M s (payload_number (read_of rest).unit)) xs
  brought-awaits (gathering came) desk at rest out xs a =
      each (λ (t : Stage). Awaits c M time t xs) _ _ _
      (λ m k i j e.
      let n = or-none _ _ e in
      ⊎_elim (λ b. absurd (ne_of _ _ n.0 (sym (begins-told c M room w u k rest b.2).1))) (λ t. t) (a k i j n.1))
      (λ m. tt)
  brought-awaits (finished since) desk at rest out xs a = tt

  onward-awaits : (s : Stage) (x : Call) (g : Got) (xs : List Call) → Awaits c M time s (x ∷ xs) → Awaits c M time (onward c M time s x g) xs
  onward-awaits s (receive desk at rest out) g xs a =
      each (λ (t : Stage). Awaits c M time t xs) (counts time (receive desk at rest out)) _ _ (λ e. brought-awaits s desk at rest out xs a)
      (λ e. passed-awaits s (receive desk at rest out) g xs e a)
  onward-awaits s (give-up desk at) g xs a = passed-awaits s (give-up desk at) g xs refl a
  onward-awaits s (lookup desk index book) g xs a = passed-awaits s (lookup desk index book) g xs refl a

  -- as long as a payload is missing, it is still to come
  none_left : (v : View) (s : Stage) → Holds c M time v s → Awaits c M time s [] → 0 ≡ remaining s
  unfolding W.awaited
  none_left v (gathering came) h a =
      let all : (i : ℕ) → i < count c M → bit (came (suc i)) ≡ 1 =
      λ i l. each-case (came (suc i)) (λ e. ap bit e) (λ e. absurd (a (suc i) (omega arith) (omega arith) e)) in
      absurd (omega (arith, h.standing.some, sum_ones (count c M) (λ i. bit (came (suc i))) all))
  none_left v (finished since) h a = refl

  all_once : (xs : List Call) (v : View) (s : Stage) → Holds c M time v s → Frugal v xs → Every (Ours c M time) xs → EachGot (NotGivenUp time) xs (alone v xs)
      → AllSoon c M time s xs (alone v xs) → Awaits c M time s xs → handings time xs (alone v xs) ≡ remaining s
  all_once [] v s h f o k soon a = none_left v s h a
  all_once (x ∷ xs) v s h f o k soon a =
      let t = step c M room w u time v x f.0 o.0 k.0 s h soon.0 in
      let g = own_got v x in
      let ih = all_once xs (own_view v x) (onward c M time s x g) t.holds f.1 o.1 k.1 soon.1 (onward-awaits s x g xs a) in
      (λ i. bit (t.hands i) + ih i) ∙ moves v s h x g

-- ---- the desk alone, from set-up on
fresh-once : (c : Caption) (M N time : ℕ) (xs : List Call) → Frugal fresh_view xs → Coming c M N time xs (alone fresh_view xs)
    → HandedOnce c M time xs (alone fresh_view xs)
fresh-once c M N time xs f p =
    let g = written_is c M p.writes.number p.writes.out p.writes.len N p.writes.answer in
    let w = writable c M (length p.writes.out) g.0 in
    record {
      due = all-due c M _ w g.1 time xs fresh_view start (fresh_holds c M _ w g.1 time) f p.ours p.kept-up p.soon;
      once =
          all_once c M _ w g.1 time xs fresh_view start (fresh_holds c M _ w g.1 time) f p.ours p.kept-up p.soon
          (λ k i j e. p.each k i (omega (arith, g.2)));
    }

-- In any run from set-up, among all others: what a modest desk is told of a sample whose payloads come to it.
pub handed-out-once : (n d : ℕ) → d < n → (s : Tables) → (set_up n s).answer ≡ Ready → (xs : List Call) → Modest d (set_up n s).tables xs
    → (c : Caption) (M N time : ℕ) → Coming c M N time (only d xs) (to d (run (set_up n s).tables xs))
    → HandedOnce c M time (only d xs) (to d (run (set_up n s).tables xs))
handed-out-once n d h s e xs m c M N time p =
    let v : view n d (set_up n s).tables ≡ fresh_view = set-up-view n d s e h in
    let g = set-up-good n s e in
    let f : Frugal (view n d (set_up n s).tables) (only d xs) = modest-frugal n d h xs (set_up n s).tables g m in
    let q : to d (run (set_up n s).tables xs) ≡ alone fresh_view (only d xs) =
    as-frugal n d h xs (set_up n s).tables g f ∙ ap (λ (z : View). alone z (only d xs)) v in
    subst (HandedOnce c M time (only d xs)) (sym q)
    (fresh-once c M N time (only d xs) (subst (λ (z : View). Frugal z (only d xs)) v f) (subst (Coming c M N time (only d xs)) q p))
