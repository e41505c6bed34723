-- One law for each way that a sample ends or goes on, in the code's own values. Assumes nothing.
use Rattle.desk.specs.GivenUp.{Freed}
use Rattle.std.specs.Prelude.{ℕ, ◌<◌, ◌≤◌, ◌≡◌, Bool, true, false, List, length, replicate, set, Err}
use Rattle.std.proofs.Common.{sym, ◌∙◌, arith}
use Rattle.laws.specs.Rows.{◌⇒◌⁏◌, yes, lt, no, ge}
use Rattle.paper.specs.Limits.{sample_most, parts_most}
use Rattle.paper.specs.declared.Refusal.TheVariants as R
use Rattle.paper.specs.Time.{Time}
use Rattle.paper.specs.declared.Outcome.TheVariants as O
use Rattle.sample.specs.declared.Place.{Place}
use Rattle.sample.specs.Head.{Head, head_of, whole}
use Rattle.sample.specs.Place.{bare, closed, missing, pieces_of}
use Rattle.desk.specs.Desk.{Own, answering, left, completed, Turn, in_use, facts, freed, given_up}
use Rattle.std.proofs.lemmas.List.Edits.{sets}
use Rattle.joining.specs.Joining.{together, string_of, sound}
use Rattle.finished.specs.Times.{marked_row, marked_used}

-- ---- a closed place, from its numbers and arrays
pub cleared : (h : Head) (kinds starts lens bytes : List ℕ) → h ≡ head_of closed
    → kinds ≡ replicate parts_most 0 → starts ≡ replicate parts_most 0 → lens ≡ replicate parts_most 0 → bytes ≡ replicate sample_most 0
    → whole h kinds starts lens bytes ≡ closed
unfolding bare
cleared h kinds starts lens bytes e a b c d = rw (e, a, b, c, d)

-- ---- a part that is kept in q
module _ (s : Own) (time used : ℕ) (next : Time) (q : Place) (m : ℕ) (k : m ≡ missing q) where
  pub kept-some : 0 < m → (r : Turn) → r ≡ answering q used next (O.Kept m) → left r s.row s.marks s.store s.out
      ≡ completed s time used next q
  unfolding completed
  kept-some h r e = yes _ _ (lt _ _ (omega arith)) (rw (e, k))

  module _ (all : m ≤ 0) (b : Bool) (f : b ≡ sound q.slen (pieces_of q)) (p : Place) (c : p ≡ closed) (row marks : List ℕ)
      (a : row ≡ marked_row s.row (in_use s.marks) time) (g : marks ≡ set s.marks 0 (marked_used (in_use s.marks))) where
    pub kept-joined : b ≡ true → (string sample : ℕ) → string ≡ length (string_of (pieces_of q)) → sample ≡ length (together (pieces_of q))
        → (out : List ℕ) → out ≡ sets s.out 0 (together (pieces_of q))
        → (r : Turn) → r ≡ answering p used next (O.Joined (facts time q.u q.sidx q.sdur string sample))
        → left r row marks s.store out ≡ completed s time used next q
    unfolding completed
    kept-joined h x y u v out o r e = no _ _ (ge _ _ (omega arith)) (yes _ _ (sym f ∙ h) (rw (e, a, g, o, c, u, v)))

    pub kept-spoiled : b ≡ false → (r : Turn) → r ≡ answering p used next (O.Refused R.Spoiled)
        → left r row marks s.store s.out ≡ completed s time used next q
    unfolding completed
    kept-spoiled h r e = no _ _ (ge _ _ (omega arith)) (no _ _ (sym f ∙ h) (rw (e, a, g, c)))

-- ---- give-up: whether a sample is open is all that is asked of the place
pub given-freed : (s : Own) (time : ℕ) (b : Bool) → s.place.used ≡ b → b ≡ true → (row marks : List ℕ)
    → row ≡ marked_row s.row (in_use s.marks) time → marks ≡ set s.marks 0 (marked_used (in_use s.marks))
    → freed (b ⇒ closed ⁏ s.place) Freed row marks s.store s.out ≡ given_up s time
unfolding given_up ◌⇒◌⁏◌
given-freed s time b u h row marks a m = rw (u, h, a, m)

pub given-none : (s : Own) (time : ℕ) (b : Bool) → s.place.used ≡ b → b ≡ false
    → freed (b ⇒ closed ⁏ s.place) (Err R.NotOpen) s.row s.marks s.store s.out ≡ given_up s time
unfolding given_up ◌⇒◌⁏◌
given-none s time b u h = rw (u, h)
