-- What the writer writes for a description is read as it, and stored and shown as it. Assumes nothing.
use Rattle.writer.specs.Written.{packed}
use Rattle.std.specs.Prelude.{ℕ, ◌*◌, ◌≤◌, ◌≡◌, refl, false, ◌⊎◌, List, [], ◌++◌, length, take}
use Rattle.std.proofs.Common.{arith}
use Rattle.laws.specs.Exactly.{Exactly}
use Rattle.paper.specs.Limits.{record_size, window}
use Rattle.paper.specs.declared.Outcome.TheVariants as O
use Rattle.text.proofs.Strings.{empty-well}
use Rattle.unit.specs.Layout.{description, reading, read_of, data_of}
use Rattle.unit.specs.Again.{Proper, description-unit}
use Rattle.unit.proofs.Again.{unit-again, data-again}
use Rattle.writer.specs.Write.{described}
use Rattle.writer.specs.Answers.{DescriptionWritten}
use Rattle.writer.proofs.Answers.{described-written}
use Rattle.style.specs.Store.{held, noted}
use Rattle.style.specs.Shown.{shown}
use Rattle.style.specs.Window.{described-unless, stored-shown}

-- p is the payload that was written for the description d of the value SIDX, `len` bytes, one of N
pub record DescribedAgain (SIDX : ℕ) (d p : List ℕ) (len N : ℕ) : Type 0 where
  pub only : N ≡ 1
  -- whatever follows it, it is read as that description, and its data are d
  pub read : (more : List ℕ) → read_of (p ++ more) ≡ reading len (description SIDX (length d))
  pub bytes : (more : List ℕ) → data_of (p ++ more) (description SIDX (length d)) ≡ d
  -- whatever a desk holds, the unit is described exactly if the value is not held
  pub stored : (store : List ℕ) (newest : ℕ) → Exactly ((noted store newest SIDX d).answer.outcome ≡ O.Described) (held store newest SIDX ≡ false)
  -- and where it is described or a repeat, the value shows d from then on, in a store of 64 records or more
  pub shows : (book store : List ℕ) (newest : ℕ) → window * record_size ≤ length store
      → ((noted store newest SIDX d).answer.outcome ≡ O.Described) ⊎ ((noted store newest SIDX d).answer.outcome ≡ O.Repeat)
      → shown book (noted store newest SIDX d).store (noted store newest SIDX d).answer.newest SIDX ≡ d

pub described-again : (SIDX : ℕ) (d : List ℕ) (M k : ℕ) (out : List ℕ) (len N : ℕ) → (described SIDX d M k out).answer ≡ packed len N
    → DescribedAgain SIDX d (take len (described SIDX d M k out).out) len N
described-again SIDX d M k out len N e =
    let w : DescriptionWritten SIDX d M k out (described SIDX d M k out).out len N = described-written SIDX d M k out len N e in
    let x : Proper (description SIDX (length d)) d =
    record {
      fields = description-unit {d = d} w.sent.index w.sent.some (omega (arith, w.sent.few));
      text = empty-well 0 [] refl;
    } in
    record {
      only = w.only;
      read = λ more. rw (w.front, w.size) (unit-again (description SIDX (length d)) d more x);
      bytes = λ more. rw w.front (data-again (description SIDX (length d)) d more x.fields);
      stored = λ store newest. described-unless store newest SIDX d w.sent.index w.sent.some w.sent.few;
      shows = λ book store newest long. stored-shown store newest SIDX d book long;
    }
