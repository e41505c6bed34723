-- One call of the desk, whichever it is: if it counts it gets what is due to it, and the desk has afterwards what the next stage says.
-- Assumes nothing.
use Rattle.std.specs.Prelude.{ℕ, ◌≤◌, ◌≡◌, Bool, true, false, List, ◌++◌, length, Some}
use Rattle.std.proofs.Common.{arith, sym, ap, subst, ◌∙◌, true≢false}
use Rattle.std.proofs.Math.Path.{refl}
use Rattle.laws.specs.Rows.{◌<?◌, each, yes, no, eq, ge, ge-of, and-of}
use Rattle.paper.specs.Limits.{sample_most}
use Rattle.paper.specs.Time.{Time}
use Rattle.unit.specs.declared.Part as P
use Rattle.unit.specs.declared.Unit as U
use Rattle.unit.specs.declared.Unit.TheVariants.{Part}
use Rattle.unit.specs.Layout.{read_of, data_of}
use Rattle.writer.specs.Write.{Caption, sample, long, payload, uncut, whole_unit}
use Rattle.writer.specs.Returns.{Writable}
use Rattle.writer.proofs.Returns.{whole-count}
use Rattle.again.specs.Again as A
use Rattle.sample.specs.declared.Place.{Place}
use Rattle.desk.specs.Desk.{is_text, later_part, taken, received}
use Rattle.desk.specs.Effects.{asks}
use Rattle.memory.specs.Table.{is_time}
use Rattle.memory.specs.Relay.{ordered}
use Rattle.good.specs.Places.{time-of}
use Rattle.good.specs.View.{View, own_in, receives}
use Rattle.peace.specs.Run.{Call, receive, give-up, lookup, Got, Few}
use Rattle.peace.specs.Alone.{lone, own_got, own_view, Sparing}
use Rattle.once.specs.Ours.{offers, counts, payload_number, Begins, OneOf, Ours, NotGivenUp}
use Rattle.once.specs.Due.{Stage, gathering, finished, hands_out, finishes, due, Due, brought, passed, onward, Soon, handing}
use Rattle.once.specs.Keeping.{Bears}
use Rattle.once.specs.Others.{Passes}
use Rattle.once.proofs.Others.{passes}
use Rattle.once.specs.Steps.{Standing, Holds, Serves}
use Rattle.once.proofs.Steps.{each-case, same-served, late-served, whole-served, again-served, new-served}
use Rattle.once.specs.Calls.{handing_due}

module _ (c : Caption) (M room : ℕ) (writable : Writable c M room) (u : uncut c M ≡ false) where
  -- ---- what is read of a payload
  record Reads (k : ℕ) (rest : List ℕ) : Type 0 where
    part : P.Part
    is : (read_of rest).unit ≡ Part part
    bears : Bears c M k part (data_of rest (Part part))

  reads-part : long c M ≡ true → (k : ℕ) (rest : List ℕ) → Begins c M k rest → Reads k rest
  reads-part l k rest b =
      subst (Reads k) (sym b.is)
      (let s = payload c M k ++ b.more in
      let j = A.parts-agree c M room writable u l (λ i. b.more) k b.from b.to in
      record {
        part = j.part;
        is = j.is;
        bears = record {
          from = b.from;
          to = b.to;
          agrees = j.agrees;
          is = ap (A.piece_of s) (sym j.is) ∙ A.part-read c M room writable u l (λ i. b.more) k b.from b.to;
        };
      })

  reads_whole : long c M ≡ false → (k : ℕ) (rest : List ℕ) → Begins c M k rest
      → ((read_of rest).unit ≡ whole_unit c) × (data_of rest (whole_unit c) ≡ sample c) × (k ≡ 1)
  reads_whole l k rest b =
      let e : k ≡ 1 = omega (arith, b.from, b.to, whole-count c M l) in
      let r = A.again-whole c M room writable u l b.more in
      let i : payload c M 1 ++ b.more ≡ rest = sym (b.is ∙ ap (λ (j : ℕ). payload c M j ++ b.more) e) in
      subst (λ (s : List ℕ). ((read_of s).unit ≡ whole_unit c) × (data_of s (whole_unit c) ≡ sample c) × (k ≡ 1)) i (r.0, r.1, e)

  -- its unit has TYPE 1 to 4 and tells its number
  pub begins-told : (k : ℕ) (rest : List ℕ) → Begins c M k rest
      → (is_text (read_of rest).unit ≡ true) × (payload_number (read_of rest).unit ≡ k)
  begins-told k rest b =
      each-case (long c M)
      (λ l. let r = reads-part l k rest b in (ap is_text r.is, ap payload_number r.is ∙ r.bears.agrees.this))
      (λ l. let r = reads_whole l k rest b in (ap is_text r.0, ap payload_number r.0 ∙ sym r.2))

  module _ (time : ℕ) (v : View) where
    -- ---- a call that counts
    module _ (desk : ℕ) (rest out : List ℕ) (space : sample_most ≤ length out) where
      received_as : (x : U.Unit) → (read_of rest).unit ≡ x
          → taken (lone v) (own_in v (Some time) out) desk (Some time) (read_of rest).used rest x
          ≡ receives (lone v) v desk (Some time) rest out
      unfolding ordered received
      received_as x e =
          no _ _ refl (no _ _ (ge _ _ space)
          (ap (taken (lone v) (own_in v (Some time) out) desk (Some time) (read_of rest).used rest) (sym e)))

      -- it is due what payload number k is in stage s
      abbrev Reached : Stage → (k : ℕ) → Type 0
      Reached s k = Serves c M time v out (due c M time s k) (brought c M s k) (receives (lone v) v desk (Some time) rest out)

      module _ (k : ℕ) (b : Begins c M k rest) where
        cut-served : Sparing v (receive desk (Some time) rest out) → long c M ≡ true → (came : ℕ → Bool)
            → Holds c M time v (gathering came) → Reached (gathering came) k
        cut-served sparing l came h =
            let r = reads-part l k rest b in
            let x = r.part in
            let d = data_of rest (Part x) in
            let used = (read_of rest).used in
            let few : asks (own_in v (Some time) out) desk (Some time) rest (Part x) ≡ true → Few v.opens =
            λ a. sparing (sym (no _ _ (ge _ _ space) (sym (ap (asks (own_in v (Some time) out) desk (Some time) rest) r.is ∙ a)))) in
            same-served c M time v out refl refl (received_as (Part x) r.is)
            (each-case (came k) (again-served c M time v out room writable u came h space l desk used (later_part time x) k x d r.bears)
            (λ new. new-served c M time v out room writable u came h space l desk used (later_part time x) k x d r.bears new few))

        uncut-served : long c M ≡ false → (came : ℕ → Bool) → Holds c M time v (gathering came) → Reached (gathering came) k
        uncut-served l came h =
            let r = reads_whole l k rest b in
            same-served c M time v out (ap (due c M time (gathering came)) (sym r.2)) (ap (brought c M (gathering came)) (sym r.2))
            (received_as (whole_unit c) r.0) (whole-served c M time v out room writable u came h space l (read_of rest).used _ _ r.1)

        served : Sparing v (receive desk (Some time) rest out) → (s : Stage) → Holds c M time v s → Soon s
            → Reached s (payload_number (read_of rest).unit)
        served sparing (gathering came) h soon =
            let t = sym (begins-told k rest b).1 in
            same-served c M time v out (ap (due c M time (gathering came)) t) (ap (brought c M (gathering came)) t) refl
            (each-case (long c M) (λ l. cut-served sparing l came h) (λ l. uncut-served l came h))
        served sparing (finished since) h soon =
            same-served c M time v out refl refl (received_as (read_of rest).unit refl)
            (late-served c M time v out since h soon desk (read_of rest).used rest (read_of rest).unit (begins-told k rest b).0)

    -- ---- any call
    pub record Step (x : Call) (s : Stage) : Type 0 where
      pub gets : counts time x ≡ true → Due c M time s x (own_got v x)
      pub holds : Holds c M time (own_view v x) (onward c M time s x (own_got v x))
      pub hands : handing time x (own_got v x) ≡ handing_due c M time s x

    passed-standing : (p : Place) (s : Stage) (g : Got) → Standing c M time p s → Standing c M time p (passed s g)
    passed-standing p (gathering came) g h = h
    passed-standing p (finished since) g h = each (Standing c M time p) (finishes g) _ _ (λ e. tt) (λ e. tt)

    passed-holds : (x : Call) (s : Stage) → Holds c M time v s → Passes time v x s → Holds c M time (own_view v x) (passed s (own_got v x))
    passed-holds x s h p = record {
      fit = p.fit;
      timely = p.timely;
      standing =
          subst (λ (z : Place). Standing c M time z (passed s (own_got v x))) (sym p.place)
          (passed-standing (v.at time) s (own_got v x) h.standing);
    }

    counted : (desk : ℕ) (rest out : List ℕ) → offers rest out ≡ true → Sparing v (receive desk (Some time) rest out) → OneOf c M rest
        → (s : Stage) → Holds c M time v s → Soon s → Step (receive desk (Some time) rest out) s
    counted desk rest out r sparing one s h soon =
        let space : sample_most ≤ length out = each-case (length out <? sample_most) (λ e. absurd (true≢false (sym r ∙ sym (yes _ _ e refl)))) (λ e. ge-of _ _ e) in
        let n : counts time (receive desk (Some time) rest out) ≡ true = sym (yes _ _ (eq time time refl) (sym r)) in
        let a = served desk rest out space one.number one.begins sparing s h soon in
        record {
          gets = λ e. (a.outcome, a.left);
          holds = subst (Holds c M time (own_view v (receive desk (Some time) rest out))) (yes _ _ n refl) a.holds;
          hands = sym (yes _ _ (eq time time refl) (sym (ap hands_out a.outcome))) ∙ yes _ _ n refl;
        }

    pub step : (x : Call) → Sparing v x → Ours c M time x → NotGivenUp time x (own_got v x) → (s : Stage) → Holds c M time v s → (counts time x ≡ true → Soon s)
        → Step x s
    step (receive desk at rest out) sparing ours kept-up s h soon =
        each-case (counts time (receive desk at rest out))
        (λ e.
        let b = and-of (is_time at time) (offers rest out) e in
        subst (λ (a : Time). Sparing v (receive desk a rest out) → Step (receive desk a rest out) s) (sym (time-of at time b.0))
        (λ k. counted desk rest out b.1 k (ours e) s h (soon e)) sparing)
        (λ e.
        let p = passes time v h.fit (receive desk at rest out) e kept-up s h.timely in
        record {
          gets = λ t. absurd (true≢false (sym t ∙ e));
          holds = subst (Holds c M time (own_view v (receive desk at rest out))) (no _ _ e refl) (passed-holds (receive desk at rest out) s h p);
          hands = p.none ∙ no _ _ e refl;
        })
    step (give-up desk at) sparing ours kept-up s h soon =
        let p = passes time v h.fit (give-up desk at) refl kept-up s h.timely in
        record { gets = λ t. tt; holds = passed-holds (give-up desk at) s h p; hands = refl }
    step (lookup desk index book) sparing ours kept-up s h soon =
        let p = passes time v h.fit (lookup desk index book) refl kept-up s h.timely in
        record { gets = λ t. tt; holds = passed-holds (lookup desk index book) s h p; hands = refl }
