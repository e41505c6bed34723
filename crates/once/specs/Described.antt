-- What the writer writes for a description is shown as it: in good tables a desk that receives it, whatever follows it in the payload, and
-- is not refused, looks it up byte for byte. Assumes nothing.
use Rattle.writer.specs.Written.{packed}
use Rattle.std.specs.Prelude.{ℕ, ◌*◌, ◌≤◌, ◌<◌, ◌≡◌, false, ◌⊎◌, List, ◌++◌, length, take}
use Rattle.std.proofs.Common.{arith, sym, ◌∙◌, ⊎_elim, get_or-set_same}
use Rattle.std.proofs.Math.Path.{ap, subst}
use Rattle.laws.specs.Rows.{each}
use Rattle.laws.specs.Region.{length-cell}
use Rattle.paper.specs.Limits.{window, record_size, head_size, marks_each, store_size}
use Rattle.paper.specs.Words.{kind_of}
use Rattle.paper.specs.Time.{Time}
use Rattle.paper.specs.declared.Outcome.{Outcome}
use Rattle.paper.specs.declared.Outcome.TheVariants as O
use Rattle.unit.specs.declared.Description as D
use Rattle.unit.specs.declared.Reading.{Reading}
use Rattle.writer.specs.Write.{described}
use Rattle.again.specs.Described.{DescribedAgain, described-again}
use Rattle.style.specs.Store.{noted}
use Rattle.style.specs.Shown as S
use Rattle.desk.specs.declared.Shares.{Shares}
use Rattle.desk.specs.Desk.{Own, After, newest_of, description_taken, taken, received}
use Rattle.memory.specs.Relay.{Tables, places_of, shares_of, ordered, Done}
use Rattle.good.specs.Cells.{length_front}
use Rattle.good.specs.Good.{Good}
use Rattle.good.specs.View.{View, view, own_in, receives, receive-is, receive-own, lookup-is}
use Rattle.peace.specs.Run.{receive, lookup, Got, answered, released, shown, got, next}
use Rattle.peace.proofs.Alone.{next-good}

-- described, or a repeat
abbrev pub Noted : Outcome → Type 0
Noted x = (x ≡ O.Described) ⊎ (x ≡ O.Repeat)

not_noted : {A : Type 0} (x : Outcome) → (kind_of x ≡ 4 → ⊥) → (kind_of x ≡ 5 → ⊥) → Noted x → A
not_noted x a b n = ⊎_elim (λ e. absurd (b (ap kind_of e))) (λ e. absurd (a (ap kind_of e))) n

-- ---- one call: p is the payload that was written for the description d of SIDX, and more follows it
module _ (SIDX : ℕ) (d p : List ℕ) (len N : ℕ) (w : DescribedAgain SIDX d p len N) (more book : List ℕ)
    (h : Shares) (s : Own) (desk : ℕ) (t : Time) (two : 1 < length s.marks) (long : window * record_size ≤ length s.store) where
  abbrev unit : D.Description
  unit = record { sidx = SIDX; start = 4; len = length d }

  is-taken : received h s desk t (p ++ more) ≡ description_taken s t len unit d
  unfolding received
  is-taken =
      ap (λ (r : Reading). taken h s desk t r.used (p ++ more) r.unit) (w.read more)
      ∙ ap (description_taken s t len unit) (w.bytes more)

  abbrev Shows : After → Type 0
  Shows a = Noted a.answer.outcome → S.shown book a.own.store (newest_of a.own.marks) SIDX ≡ d

  taken-shows : Shows (description_taken s t len unit d)
  unfolding description_taken
  taken-shows n =
      let x = noted s.store (newest_of s.marks) SIDX d in
      ap (λ (k : ℕ). S.shown book x.store k SIDX) (get_or-set_same s.marks 1 x.answer.newest 0 two)
      ∙ w.shows book s.store (newest_of s.marks) long n

  pub received-shows : Shows (ordered false h s desk t (p ++ more))
  unfolding ordered
  received-shows =
      each Shows _ _ _ (λ e. not_noted _ (λ k. omega arith) (λ k. omega arith))
      (λ e. each Shows _ _ _ (λ e. not_noted _ (λ k. omega arith) (λ k. omega arith)) (λ e. subst Shows (sym is-taken) taken-shows))

-- ---- in good tables, which set-up makes and every call keeps
abbrev pub NotedGot : Got → Type 0
NotedGot (answered a out) = Noted a.outcome
NotedGot (released a) = ⊥
NotedGot (shown x) = ⊥

pub shown-as-written : (n desk : ℕ) → desk < n → (s : Tables) → Good n s → (SIDX : ℕ) (d : List ℕ) (M k : ℕ) (lent : List ℕ) (len N : ℕ)
    → (described SIDX d M k lent).answer ≡ packed len N → (t : Time) (more out book : List ℕ)
    → let c = receive desk t (take len (described SIDX d M k lent).out ++ more) out in
    NotedGot (got s c) → got (next s c) (lookup desk SIDX book) ≡ shown d
shown-as-written n desk l s g SIDX d M k lent len N e t more out book q =
    let p = take len (described SIDX d M k lent).out in
    let c = receive desk t (p ++ more) out in
    let v = view n desk s in
    let a = receives (shares_of n desk (places_of n s)) v desk t (p ++ more) out in
    let o = receive-own n s g desk l t (p ++ more) out in
    let two : 1 < length v.marks = omega (arith, length-cell head_size marks_each n desk s.marks g.marks l) in
    let long : window * record_size ≤ length v.store = omega (arith, length_front store_size n desk s.stores g.stores l) in
    let w = described-again SIDX d M k lent len N e in
    let r = received-shows SIDX d p len N w more book (shares_of n desk (places_of n s)) (own_in v t out) desk t two long in
    let b : Noted a.answer.outcome =
    subst (λ (z : Done). Noted z.answer.outcome) (receive-is n s g desk l t (p ++ more) out) q in
    ap shown
    (lookup-is n (next s c) (next-good n s g c) desk l SIDX book
    ∙ ap (λ (z : View). S.shown book z.store (newest_of z.marks) SIDX) o
    ∙ r b)
