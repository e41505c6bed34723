-- What set-up makes and each call keeps holds after any list of calls. Assumes nothing.
use Rattle.memory.specs.Started.{Ready}
use Rattle.std.specs.Prelude.{ℕ, ◌≡◌, refl, List, [], ◌∷◌, ◌++◌}
use Rattle.std.proofs.Common.{ap}
use Rattle.memory.specs.Relay.{Tables, set_up}
use Rattle.good.specs.Good.{Good, set-up-good}
use Rattle.peace.specs.Run.{Call, Got, caller, got, next, run}
use Rattle.peace.proofs.Alone.{next-good}
use Rattle.peace.specs.Always.{tables_after, AllGet}

-- they are those that a run hands on
pub run-after : (xs ys : List Call) (s : Tables) → run s (xs ++ ys) ≡ run s xs ++ run (tables_after s xs) ys
run-after [] ys s = refl
run-after (c ∷ cs) ys s = ap (λ (l : List (ℕ × Got)). (caller c, got s c) ∷ l) (run-after cs ys (next s c))

module _ (P : Tables → Type 0) (keeps : (s : Tables) (c : Call) → P s → P (next s c)) where
  kept-after : (xs : List Call) (s : Tables) → P s → P (tables_after s xs)
  kept-after [] s p = p
  kept-after (c ∷ cs) s p = kept-after cs (next s c) (keeps s c p)

  all-get : (Q : Got → Type 0) → ((s : Tables) (c : Call) → P s → Q (got s c)) → (xs : List Call) (s : Tables) → P s → AllGet Q (run s xs)
  all-get Q gets [] s p = tt
  all-get Q gets (c ∷ cs) s p = (gets s c p, all-get Q gets cs (next s c) (keeps s c p))

  -- from set-up on
  module _ (n : ℕ) (makes : (s : Tables) → (set_up n s).answer ≡ Ready → P (set_up n s).tables) (s : Tables) (e : (set_up n s).answer ≡ Ready)
      (xs : List Call) where
    pub always : P (tables_after (set_up n s).tables xs)
    always = kept-after xs (set_up n s).tables (makes s e)

    -- and what every call gets wherever it holds, every call gets
    pub always-get : (Q : Got → Type 0) → ((s : Tables) (c : Call) → P s → Q (got s c)) → AllGet Q (run (set_up n s).tables xs)
    always-get Q gets = all-get Q gets xs (set_up n s).tables (makes s e)

-- so tables are good after any list of calls
pub always-good : (n : ℕ) (s : Tables) → (set_up n s).answer ≡ Ready → (xs : List Call) → Good n (tables_after (set_up n s).tables xs)
always-good n = always (Good n) (λ s c g. next-good n s g c) n (set-up-good n)

pub good-get : (n : ℕ) (s : Tables) → (set_up n s).answer ≡ Ready → (xs : List Call) (Q : Got → Type 0)
    → ((s : Tables) (c : Call) → Good n s → Q (got s c)) → AllGet Q (run (set_up n s).tables xs)
good-get n = always-get (Good n) (λ s c g. next-good n s g c) n (set-up-good n)
