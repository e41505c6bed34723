-- The laws of the listing's code: set-up is not refused, each call goes on, one turn of the loop, and its end. Assumes nothing.
use Rattle.memory.specs.Started.{Ready}
use Rattle.std.specs.Prelude.{ℕ, zero, suc, ◌+◌, ◌-◌, ◌<◌, ◌≤◌, ◌≡◌, refl, Bool, true, false, List, ◌++◌, length, take, drop, replicate, Some}
use Rattle.std.proofs.Common.{arith, sym, ◌∙◌, length-drop, drop-drop}
use Rattle.std.proofs.Math.Path.{ap}
use Rattle.std.proofs.lemmas.List.{length-replicate}
use Rattle.laws.specs.Rows.{◌⇒◌⁏◌, ◌or◌, ◌<?◌, ◌=?◌, yes, no, lt, ge, eq, ne}
use Rattle.laws.specs.Region.{tail-is}
use Rattle.paper.specs.Limits.{sample_most, places_most, rows_need, marks_need, stores_need}
use Rattle.paper.specs.Time.{Time}
use Rattle.sample.specs.declared.Place.{Place}
use Rattle.sample.specs.Place.{closed}
use Rattle.desk.specs.Desk.{Own, received}
use Rattle.desk.proofs.Effects.{progress}
use Rattle.memory.specs.Relay.{Tables, Prepared, Done, tables, places_of, own_of, shares_of, improper, short, lacking, set_up, settled}
use Rattle.memory.specs.Relay.{ordered, received_at, sender}
use Rattle.good.specs.Good.{Good, ready-exactly, set-up-good, receive-good}
use Rattle.good.specs.View.{own-seen, receive-is}
use Rattle.lines.specs.Line.{line_of}
use Rattle.lines.specs.Typed.{Page, page, typed, more}
use Rattle.list.specs.Listed.{payload_most, end_line, too_long, blank, fresh, called, lines_from, listed}

neither : (a b : Bool) → a ≡ false → b ≡ false → (a or b) ≡ false
neither a b p q = sym (no a true p (sym q))

-- ---- set-up
proper : improper 1 ≡ false
unfolding improper ◌⇒◌⁏◌ ◌<?◌ ◌=?◌
proper = refl

blank-enough : lacking 1 blank ≡ false
unfolding blank short
blank-enough =
    neither _ _
    (neither _ _ (ge _ _ (simp length-replicate (omega arith)))
    (neither _ _ (ge _ _ (simp length-replicate (omega arith))) (ge _ _ (simp length-replicate (omega arith)))))
    (ge _ _ (simp length-replicate (omega arith)))

blank-ready : (set_up 1 blank).answer ≡ Ready
blank-ready = (ready-exactly 1 blank).1 (neither _ _ proper blank-enough)

pub fresh-good : Good 1 fresh
unfolding fresh
fresh-good = set-up-good 1 blank blank-ready

-- in the code's own values: the places are lent as copies of p
abbrev lent_to : Place → Tables
lent_to p = tables (replicate places_most p) (replicate (rows_need 1) 0) (replicate (marks_need 1) 0) (replicate (stores_need 1) 0)

module _ (p : Place) (c : p ≡ closed) (m : Prepared) (e : m ≡ set_up 1 (lent_to p)) where
  begun : m ≡ set_up 1 blank
  unfolding blank
  begun = e ∙ ap (λ (q : Place). set_up 1 (lent_to q)) c

  pub begun_fresh : m.tables ≡ fresh
  unfolding fresh
  begun_fresh = ap (λ (n : Prepared). n.tables) begun

  pub begun-good : Good 1 m.tables
  begun-good = rw begun_fresh fresh-good

-- ---- a call of good tables is not refused by 1 and 2
pub called_is : (s : Tables) (t : Time) (rest : List ℕ) → Good 1 s
    → called s t rest
    ≡ settled 1 s 0 t (received (shares_of 1 0 (places_of 1 s)) (own_of 1 s 0 t (replicate sample_most 0)) 0 t rest)
unfolding ordered
called_is s t rest g =
    receive-is 1 s g 0 (omega arith) t rest (replicate sample_most 0)
    ∙ ap (λ (o : Own). settled 1 s 0 t (ordered false (shares_of 1 0 (places_of 1 s)) o 0 t rest))
    (sym (own-seen 1 0 s t (replicate sample_most 0)))
    ∙ ap (settled 1 s 0 t)
    (sym (no _ _ refl (no _ _ (ge _ _ (omega (arith, length-replicate {A = ℕ} sample_most 0))) refl)))

-- it uses a byte at least, and at most the rest
pub goes_on : (s : Tables) (t : Time) (rest : List ℕ) → Good 1 s → 0 < length rest
    → (0 < (called s t rest).answer.used) × ((called s t rest).answer.used ≤ length rest)
goes_on s t rest g l =
    let p = progress (shares_of 1 0 (places_of 1 s)) (own_of 1 s 0 t (replicate sample_most 0)) 0 t rest in
    rw (called_is s t rest g) (p.1 l, p.0)

-- in the code's own values: `&input[at..]` is lent
pub called_of : (d : Done) (s : Tables) (t : Time) (at : ℕ) (input : List ℕ)
    → d ≡ received_at s (sender 0 t) (take (length input - at) (drop at input)) (replicate sample_most 0) → d ≡ called s t (drop at input)
called_of d s t at input e = e ∙ ap (called s t) (tail-is input at)

-- ---- the lines of a rest
lines_end : (turns : ℕ) (s : Tables) (t : Time) (at : ℕ) (rest : List ℕ) → length rest ≡ 0 → lines_from turns s t at rest ≡ end_line
unfolding lines_from
lines_end zero s t at rest e = refl
lines_end (suc k) s t at rest e = sym (yes _ _ (eq _ _ e) refl)

lines-turn : (k : ℕ) (s : Tables) (t : Time) (at : ℕ) (rest : List ℕ) (d : Done) → 0 < length rest → d ≡ called s t rest
    → line_of at t d.answer ++ lines_from k d.tables d.answer.next (at + d.answer.used) (drop d.answer.used rest)
    ≡ lines_from (suc k) s t at rest
unfolding lines_from
lines-turn k s t at rest d l e = no _ _ (ne _ _ (λ z. omega arith)) (rw e)

-- ---- the loop: to write what is left is to write all. What is left begins at `at`, and its text at `next`
pub record Listing (all : Page) (input text : List ℕ) (s : Tables) (t : Time) (at next : ℕ) : Type 0 where
  pub inside : at ≤ length input
  pub good : Good 1 s
  pub turns : ℕ
  pub enough : length input ≤ at + turns
  pub same : typed text next (lines_from turns s t at (drop at input)) ≡ all

pub begin : (input text : List ℕ) (s : Tables) → Good 1 s
    → Listing (typed text 0 (lines_from (length input) s (Some 0) 0 input)) input text s (Some 0) 0 0
begin input text s g = record { inside = omega arith; good = g; turns = length input; enough = omega arith; same = refl }

module _ (all : Page) (input text : List ℕ) (s : Tables) (t : Time) (at next : ℕ) (l : Listing all input text s t at next) where
  pub turn-used : (d : Done) → at < length input → d ≡ called s t (drop at input)
      → (0 < d.answer.used) × (at + d.answer.used ≤ length input)
  turn-used d h e =
      let r : length (drop at input) ≡ length input - at = length-drop at input in
      let g = goes_on s t (drop at input) l.good (omega arith) in
      rw e (g.0, omega arith)

  pub turn : (d : Done) (after : List ℕ) (behind : ℕ) → at < length input → d ≡ called s t (drop at input)
      → page after behind ≡ typed text next (line_of at t d.answer)
      → Listing all input after d.tables d.answer.next (at + d.answer.used) behind
  turn d after behind h e w = go l.turns l.enough l.same
    where
      go : (k : ℕ) → length input ≤ at + k → typed text next (lines_from k s t at (drop at input)) ≡ all
          → Listing all input after d.tables d.answer.next (at + d.answer.used) behind
      go zero n q = absurd (omega arith)
      go (suc k) n q =
          let u = turn-used d h e in
          let r : length (drop at input) ≡ length input - at = length-drop at input in
          record {
            inside = u.1;
            good = rw e (receive-good 1 s l.good (sender 0 t) (drop at input) (replicate sample_most 0));
            turns = k;
            enough = omega arith;
            same = ap (λ (r : List ℕ). typed after behind (lines_from k d.tables d.answer.next (at + d.answer.used) r))
                (sym (drop-drop d.answer.used at input))
                ∙ more text next (line_of at t d.answer) _ after behind w
                ∙ ap (typed text next) (lines-turn k s t at (drop at input) d (omega arith) e)
                ∙ q;
          }

  pub finish : (after : List ℕ) (behind : ℕ) → length input ≤ at → page after behind ≡ typed text next end_line → page after behind ≡ all
  finish after behind h w =
      let r : length (drop at input) ≡ 0 = rw (length-drop at input) (omega arith) in
      w ∙ ap (typed text next) (sym (lines_end l.turns s t at (drop at input) r)) ∙ l.same

-- ---- the two answers of the listing
pub listed-long : (input text after : List ℕ) (behind : ℕ) → payload_most < length input → page after behind ≡ typed text 0 too_long
    → page after behind ≡ typed text 0 (listed input)
unfolding listed
listed-long input text after behind h e = e ∙ ap (typed text 0) (yes _ _ (lt _ _ h) refl)

pub listed-units : (input text after : List ℕ) (behind : ℕ) (s : Tables) → length input ≤ payload_most → s ≡ fresh
    → page after behind ≡ typed text 0 (lines_from (length input) s (Some 0) 0 input) → page after behind ≡ typed text 0 (listed input)
unfolding listed
listed-units input text after behind s h f e =
    e ∙ ap (typed text 0) (no _ _ (ge _ _ h) (ap (λ (r : Tables). lines_from (length input) r (Some 0) 0 input) f))
