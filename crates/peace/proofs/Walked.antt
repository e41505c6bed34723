-- Runs of the relay that walks, as it was before the numbers were stored: from set-up on, every call of every run gets what it gets there.
-- And after any list of calls the stored numbers are what a walk finds. Assumes nothing.
use Rattle.memory.specs.Started.{Ready}
use Rattle.std.specs.Prelude.{ℕ, ◌≡◌, refl, List, [], ◌∷◌}
use Rattle.std.proofs.Common.{ap, ap₂}
use Rattle.memory.specs.Relay.{Tables, places_of, set_up, sender}
use Rattle.good.specs.Counts.{Stored}
use Rattle.good.specs.Good.{name, Good, set-up-good}
use Rattle.good.specs.Walked.{Alike}
use Rattle.good.proofs.Walked.{itself, lookup-alike, receive-alike, give-up-alike}
use Rattle.peace.specs.Run.{Call, receive, give-up, lookup, caller, Got, answered, released, shown, got, next, run}
use Rattle.peace.proofs.Alone.{next-good}
use Rattle.peace.specs.Always.{tables_after}
use Rattle.peace.proofs.Always.{always-good}
use Rattle.peace.specs.Walked.{got_walked, next_walked, run_walked}

-- ---- one call, and all of them
module _ (n : ℕ) (s r : Tables) (g : Good n s) (a : Alike s r) where
  got-alike : (c : Call) → got s c ≡ got_walked r c
  got-alike (receive desk t rest out) =
      let w = receive-alike n s r g a (sender desk t) rest out in ap₂ answered w.answer w.out
  got-alike (give-up desk time) = ap released (give-up-alike n s r g a (name desk time)).answer
  got-alike (lookup desk index book) = ap shown (lookup-alike s r a desk index book)

  next-alike : (c : Call) → Alike (next s c) (next_walked r c)
  next-alike (receive desk t rest out) = (receive-alike n s r g a (sender desk t) rest out).tables
  next-alike (give-up desk time) = (give-up-alike n s r g a (name desk time)).tables
  next-alike (lookup desk index book) = a

run-alike : (n : ℕ) (xs : List Call) (s r : Tables) → Good n s → Alike s r → run s xs ≡ run_walked r xs
run-alike n [] s r g a = refl
run-alike n (c ∷ cs) s r g a =
    ap₂ (λ (x : Got) (l : List (ℕ × Got)). (caller c, x) ∷ l) (got-alike n s r g a c)
    (run-alike n cs (next s c) (next_walked r c) (next-good n s g c) (next-alike n s r g a c))

pub no-answer-changes : (n : ℕ) (s : Tables) → (set_up n s).answer ≡ Ready → (xs : List Call)
    → run (set_up n s).tables xs ≡ run_walked (set_up n s).tables xs
no-answer-changes n s e xs = run-alike n xs (set_up n s).tables (set_up n s).tables (set-up-good n s e) (itself (set_up n s).tables)

-- ---- each desk's stored number, and the common use
pub always-counted : (n : ℕ) (s : Tables) → (set_up n s).answer ≡ Ready → (xs : List Call)
    → let r = tables_after (set_up n s).tables xs in Stored n (places_of n r) r.marks
always-counted n s e xs = (always-good n s e xs).stored
