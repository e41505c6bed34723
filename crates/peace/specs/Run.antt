-- A run: a list of calls of any desks, one after the other, on the same tables; what each call gets; and what a desk has to keep to
-- for the promise of its peace. Definitions only. Assumes nothing.
use Rattle.std.specs.Prelude.{ℕ, ◌<◌, ◌≡◌, Bool, true, false, List, [], ◌∷◌, length}
use Rattle.laws.specs.Rows.{◌⇒◌⁏◌, ◌or◌, ◌<?◌, ◌=?◌}
use Rattle.laws.specs.Table.{count}
use Rattle.paper.specs.Limits.{sample_most, own_places}
use Rattle.paper.specs.declared.Answer.{Answer}
use Rattle.paper.specs.Time.{Time}
use Rattle.unit.specs.Layout.{read_of}
use Rattle.desk.specs.GivenUp.{GivenUp}
use Rattle.desk.specs.Desk.{Own}
use Rattle.desk.specs.Effects.{asks}
use Rattle.memory.specs.Table.{mine}
use Rattle.memory.specs.Relay.{Tables, desks_of, places_of, own_of, stranger, lacking, received_at, given_up_at, looked_up, sender}
use Rattle.good.specs.Good.{name}

-- ---- a call with all that it is handed, the output and the style book lent for it included; the time of a receive may be unknown
pub data Call : Type 0 where
  receive : (desk : ℕ) → Time → (rest out : List ℕ) → Call
  give-up : (desk time : ℕ) → Call
  lookup : (desk index : ℕ) → (book : List ℕ) → Call

abbrev pub caller : Call → ℕ
caller (receive desk t rest out) = desk
caller (give-up desk time) = desk
caller (lookup desk index book) = desk

-- ---- what it gets: the answer and the output after the call; the answer alone; the description shown
pub data Got : Type 0 where
  answered : Answer → (out : List ℕ) → Got
  released : GivenUp → Got
  shown : (description : List ℕ) → Got

abbrev pub got : Tables → Call → Got
got s (receive desk t rest out) =
    answered (received_at s (sender desk t) rest out).answer (received_at s (sender desk t) rest out).out
got s (give-up desk time) = released (given_up_at s (name desk time)).answer
got s (lookup desk index book) = shown (looked_up s.marks s.stores desk index book)

-- the tables after it
abbrev pub next : Tables → Call → Tables
next s (receive desk t rest out) = (received_at s (sender desk t) rest out).tables
next s (give-up desk time) = (given_up_at s (name desk time)).tables
next s (lookup desk index book) = s

-- ---- a run hands the tables on, and collects for each call the desk and what it got
abbrev pub run : Tables → List Call → List (ℕ × Got)
run s [] = []
run s (c ∷ cs) = (caller c, got s c) ∷ run (next s c) cs

-- what is collected for desk d, and the calls of desk d
abbrev pub to : (d : ℕ) → List (ℕ × Got) → List Got
to d [] = []
to d (g ∷ gs) = g.0 =? d ⇒ g.1 ∷ to d gs ⁏ to d gs

abbrev pub only : (d : ℕ) → List Call → List Call
only d [] = []
only d (c ∷ cs) = caller c =? d ⇒ c ∷ only d cs ⁏ only d cs

-- ---- modest: no call of the desk reaches the test of the shares while two or more of its own samples are open
-- with what the desk has, the rest reaches that test: 2 lets it through, then the desk's own order
abbrev pub arrives : Own → (desk : ℕ) → Time → (rest : List ℕ) → Bool
arrives o desk t rest =
    length o.out <? sample_most ⇒ false
    ⁏ asks o desk t rest (read_of rest).unit

-- and so does the call, where 1 lets it through
abbrev pub reaches : Tables → Call → Bool
reaches s (receive desk t rest out) =
    stranger (desks_of s.marks) desk or lacking (desks_of s.marks) s ⇒ false
    ⁏ arrives (own_of (desks_of s.marks) s desk t out) desk t rest
reaches s (give-up desk time) = false
reaches s (lookup desk index book) = false

abbrev pub Few : (opens : ℕ) → Type 0
Few opens = opens < own_places

abbrev pub Modest : (d : ℕ) → Tables → List Call → Type 0
Modest d s [] = Unit {0}
Modest d s (c ∷ cs) =
    (caller c ≡ d → reaches s c ≡ true → Few (count (mine d) (places_of (desks_of s.marks) s))) × Modest d (next s c) cs
