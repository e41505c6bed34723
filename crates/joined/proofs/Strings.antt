-- A joined string is well-formed: in every run from set-up, whatever the rests are, an answer whole or joined leaves an output whose first
-- bytes, as many as it tells the string has, are well-formed in the U that it tells. Assumes nothing.
use Rattle.memory.specs.Started.{Ready}
use Rattle.std.specs.Prelude.{ℕ, ◌+◌, ◌≤◌, ◌≡◌, Bool, List, length, take, drop}
use Rattle.std.proofs.Common.{arith, sym, ap, ◌∙◌}
use Rattle.std.proofs.Math.Path.{subst}
use Rattle.std.proofs.lemmas.List.Edits.{sets, sets-eq}
use Rattle.std.proofs.Math.Seq.{length-sets}
use Rattle.std.proofs.lemmas.List.{take-append-le}
use Rattle.laws.specs.Rows.{◌or◌, each, ge-of}
use Rattle.paper.specs.Limits.{sample_most}
use Rattle.paper.specs.declared.Sender.{Sender}
use Rattle.paper.specs.Time.{Time}
use Rattle.text.specs.Unicode.{WellFormed}
use Rattle.joining.specs.Joining.{together, string_of}
use Rattle.joining.specs.Strings.{string-short}
use Rattle.unit.specs.declared.Whole as W
use Rattle.unit.specs.declared.Part as P
use Rattle.unit.specs.declared.Unit as U
use Rattle.unit.specs.declared.Unit.TheVariants.{End, Skipped, Refused, Whole, Part, Description}
use Rattle.unit.specs.Layout.{read_of, data_of}
use Rattle.unit.specs.Text.{WellText}
use Rattle.unit.specs.Reads.{Counts, Counted, SampleThere, SamplesThere}
use Rattle.unit.proofs.Readings.{reads-counted, reads-there, read-well}
use Rattle.sample.specs.declared.Place.{Place}
use Rattle.sample.specs.Place.{pieces_of}
use Rattle.sample.specs.Filled.{together-filled}
use Rattle.sample.specs.Sound.{sound-of}
use Rattle.sample.specs.Text.{Sane, joined-well}
use Rattle.style.specs.Store.{noted}
use Rattle.style.specs.Store as S
use Rattle.desk.specs.declared.Shares.{Shares}
use Rattle.desk.specs.Desk.{Own, After, whole_taken, sample_of, completed, joining, description_taken, taken, received}
use Rattle.desk.proofs.Effects.{at-times}
use Rattle.memory.specs.Relay.{Tables, own_of, stored_shares, stranger, lacking, set_up, ordered, received_among, received_at, sender}
use Rattle.good.specs.Good.{Good}
use Rattle.good.specs.Leaves.{part-sane}
use Rattle.peace.specs.Run.{Call, receive, give-up, lookup, got, run}
use Rattle.peace.specs.Always.{AllGet}
use Rattle.peace.proofs.Always.{good-get}
use Rattle.joined.specs.Strings.{HandsWell, GotWell}

-- ---- the first bytes of the output are those of what was put there
first-bytes : (out d : List ℕ) (n : ℕ) → n ≤ length d → length d ≤ length out → take n (sets out 0 d) ≡ take n d
first-bytes out d n h k = ap (take n) (sets-eq d out 0 (omega arith)) ∙ take-append-le n d (drop (0 + length d) out) h

module _ (h : Shares) (s : Own) (desk used : ℕ) (sane : Sane s.place) (room : sample_most ≤ length s.out) where
  abbrev Well : After → Type 0
  Well a = HandsWell a.answer.outcome a.own.out

  -- ---- a sample that came whole
  whole-hands-well : (time : ℕ) (next : Time) (rest : List ℕ) (w : W.Whole) → SampleThere rest w
      → WellText (Whole w) (data_of rest (Whole w)) → Well (whole_taken s time used next w (data_of rest (Whole w)))
  unfolding whole_taken
  whole-hands-well time next rest w k t =
      let d = data_of rest (Whole w) in
      each Well _ _ _ (λ q. tt)
      (λ q. each Well _ _ _ (λ q. tt)
      (λ q. each Well _ _ _ (λ q. tt)
      (λ q.
      let l = ge-of _ _ q in
      record {
        within = k.string;
        there = omega (arith, length-sets s.out 0 d);
        well =
            subst (WellFormed w.u)
            (sym (first-bytes s.out d w.tlen (omega (arith, k.sample, k.string)) (omega (arith, k.sample)))) t;
      })))

  -- ---- a sample that is joined; p has all that was kept, and the part
  completed-hands-well : (time : ℕ) (next : Time) (p : Place) → Sane p → Well (completed s time used next p)
  unfolding completed
  completed-hands-well time next p m =
      each Well _ _ _ (λ k. tt)
      (λ k. each Well _ _ _
      (λ g.
      let d = together (pieces_of p) in
      let l = together-filled p m.made in
      let o = string-short (pieces_of p) (sound-of p.slen (pieces_of p) g).0 in
      record {
        within = o;
        there = omega (arith, length-sets s.out 0 d, l, m.made.room);
        well =
            subst (WellFormed p.u)
            (sym (first-bytes s.out d (length (string_of (pieces_of p))) o (omega (arith, l, m.made.room))))
            (joined-well p m p.slen g);
      })
      (λ g. tt))

  part-hands-well : (time : ℕ) (next : Time) (x : P.Part) (d : List ℕ) → Counts x → WellText (Part x) d
      → Well (joining h s time used next (sample_of s.place desk time x) x d)
  unfolding joining
  part-hands-well time next x d c w =
      each Well _ _ _ (λ k. tt)
      (λ k. each Well _ _ _ (λ k. tt)
      (λ k. each Well _ _ _ (λ k. tt)
      (λ a. each Well _ _ _ (λ k. tt)
      (λ b. each Well _ _ _ (λ k. tt)
      (λ k. each Well _ _ _ (λ k. tt)
      (λ k. completed-hands-well time next _ (part-sane s.place sane desk time x d c w a b)))))))

  -- ---- any unit
  noted-hands-well : (store : List ℕ) (newest sidx : ℕ) (d out : List ℕ) → HandsWell (noted store newest sidx d).answer.outcome out
  unfolding noted
  noted-hands-well store newest sidx d out =
      each N _ _ _ (λ q. tt) (λ q. each N _ _ _ (λ q. tt) (λ q. each N _ _ _ (λ q. tt) (λ q. each N _ _ _ (λ q. tt) (λ q. tt))))
    where
      N : S.After → Type 0
      N a = HandsWell a.answer.outcome out

  taken-hands-well : (t : Time) (rest : List ℕ) (x : U.Unit) → Counted x → SamplesThere rest x → WellText x (data_of rest x)
      → Well (taken h s desk t used rest x)
  unfolding description_taken
  taken-hands-well t rest End c k w = tt
  taken-hands-well t rest (Skipped y) c k w = tt
  taken-hands-well t rest (Refused r) c k w = tt
  taken-hands-well t rest (Whole x) c k w = at-times (λ u. Well) s used _ (λ time. whole-hands-well time _ rest x k w) tt t
  taken-hands-well t rest (Part x) c k w =
      at-times (λ u. Well) s used _ (λ time. part-hands-well time _ x (data_of rest (Part x)) c w) tt t
  taken-hands-well t rest (Description x) c k w = noted-hands-well s.store _ x.sidx (data_of rest (Description x)) s.out

-- ---- a call, in good tables
ordered-hands-well : (one : Bool) (h : Shares) (s : Own) (desk : ℕ) (t : Time) (rest : List ℕ) → Sane s.place
    → let a = ordered one h s desk t rest in HandsWell a.answer.outcome a.own.out
unfolding ordered received
ordered-hands-well one h s desk t rest m =
    each A _ _ _ (λ q. tt)
    (λ q. each A _ _ _ (λ q. tt)
    (λ q.
    taken-hands-well h s desk (read_of rest).used m (ge-of _ _ q) t rest (read_of rest).unit (reads-counted rest) (reads-there rest)
    (read-well rest)))
  where
    A : After → Type 0
    A a = HandsWell a.answer.outcome a.own.out

good-hands-well : (n : ℕ) (s : Tables) → Good n s → (who : Sender) (rest out : List ℕ)
    → let a = received_at s who rest out in HandsWell a.answer.outcome a.out
unfolding received_among
good-hands-well n s g who rest out =
    subst (λ (k : ℕ). let a = received_among k s who.desk who.time rest out in HandsWell a.answer.outcome a.out) (sym g.head)
    (ordered-hands-well (stranger n who.desk or lacking n s) (stored_shares n who.desk s.marks)
    (own_of n s who.desk who.time out) who.desk who.time rest (g.well _).sane)

good-got : (n : ℕ) (s : Tables) (c : Call) → Good n s → GotWell (got s c)
good-got n s (receive desk t rest out) g = good-hands-well n s g (sender desk t) rest out
good-got n s (give-up desk time) g = tt
good-got n s (lookup desk index book) g = tt

-- in every run from set-up
pub joined-strings : (n : ℕ) (s : Tables) → (set_up n s).answer ≡ Ready → (xs : List Call) → AllGet GotWell (run (set_up n s).tables xs)
joined-strings n s e xs = good-get n s e xs GotWell (good-got n)
