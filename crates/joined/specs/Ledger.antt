-- A ledger: what was kept of a desk's samples, told from its calls and what they got and from nothing else; and what is said by it: how
-- many parts are missing, and which bytes are handed out. Definitions only. Assumes nothing.
use Rattle.std.specs.Prelude.{ℕ, suc, ◌-◌, ◌≤◌, ◌<◌, ◌≡◌, Bool, true, false, ◌⊎◌, List, [], ◌∷◌, ◌++◌, length, drop, Some, None, Ok, Err}
use Rattle.std.proofs.Math.Option.{Option, none, some}
use Rattle.laws.specs.Rows.{◌⇒◌⁏◌, ◌=?◌}
use Rattle.laws.specs.Sums.{sum}
use Rattle.laws.specs.Table.{bit}
use Rattle.paper.specs.Limits.{sample_most, parts_most}
use Rattle.paper.specs.Words.{number_of, by_time}
use Rattle.paper.specs.declared.Facts.{Facts}
use Rattle.paper.specs.Time.{Time}
use Rattle.paper.specs.declared.Outcome.{Outcome}
use Rattle.paper.specs.declared.Outcome.TheVariants as O
use Rattle.joining.specs.Joining.{Piece, piece, kinds, together, string_of, ordered, sound}
use Rattle.unit.specs.declared.Part as P
use Rattle.unit.specs.declared.Unit as U
use Rattle.unit.specs.declared.Unit.TheVariants.{End, Skipped, Refused, Whole, Part, Description}
use Rattle.unit.specs.Layout.{read_of, data_of}
use Rattle.sample.specs.Arrival.{in_order}
use Rattle.desk.specs.GivenUp.{GivenUp}
use Rattle.memory.specs.Table.{is_time}
use Rattle.peace.specs.Run.{Call, receive, give-up, lookup, Got, answered, released, shown}

-- ---- a part that was kept, with its data; what was kept of one sample, by THIS; and of each of the desk's samples, by its time
pub record Entry : Type 0 where
  pub part : P.Part
  pub bytes : List ℕ

abbrev pub entry : P.Part → List ℕ → Entry
entry x d = record { part = x; bytes = d }

abbrev pub Parts : Type 0
Parts = ℕ → Option Entry

abbrev pub Ledger : Type 0
Ledger = ℕ → Parts

abbrev pub nothing : Parts
nothing = λ k. none

-- the page that a call is about; at an unknown time nothing is kept
abbrev pub page_at : Ledger → Time → Parts
page_at L t = by_time t L nothing

-- part x with the data d is kept as well
abbrev pub adding : Parts → P.Part → List ℕ → Parts
adding E x d = λ k. k =? x.this ⇒ some (entry x d) ⁏ E k

-- ---- the ledger after a call that got an answer
-- it brought the part x with the data d: one that is kept is entered; a sample that is joined or spoiled is open no more
abbrev pub entered : Parts → P.Part → List ℕ → Outcome → Parts
entered E x d O.End = E
entered E x d (O.Whole f) = E
entered E x d (O.Joined f) = nothing
entered E x d (O.Kept n) = adding E x d
entered E x d O.Repeat = E
entered E x d O.Described = E
entered E x d (O.Skipped t) = E
entered E x d (O.Refused r) = number_of r =? 10 ⇒ nothing ⁏ E

-- no other unit enters anything
abbrev pub entered_by : Parts → (rest : List ℕ) → U.Unit → Outcome → Parts
entered_by E rest End o = E
entered_by E rest (Skipped t) o = E
entered_by E rest (Refused r) o = E
entered_by E rest (Whole w) o = E
entered_by E rest (Part x) o = entered E x (data_of rest (Part x)) o
entered_by E rest (Description w) o = E

-- a sample that was given up is open no more
abbrev pub given_up_by : Parts → GivenUp → Parts
given_up_by E (Ok u) = nothing
given_up_by E (Err r) = E

abbrev pub ledger_after : Ledger → Call → Got → Ledger
ledger_after L (receive desk at rest out) (answered a o) = λ t. is_time at t ⇒ entered_by (L t) rest (read_of rest).unit a.outcome ⁏ L t
ledger_after L (receive desk at rest out) (released a) = L
ledger_after L (receive desk at rest out) (shown d) = L
ledger_after L (give-up desk at) (answered a o) = L
ledger_after L (give-up desk at) (released a) = λ t. t =? at ⇒ given_up_by (L t) a ⁏ L t
ledger_after L (give-up desk at) (shown d) = L
ledger_after L (lookup desk index book) g = L

-- ---- what the ledger says of a sample
abbrev pub is_entered : Option Entry → Bool
is_entered none = false
is_entered (some e) = true

abbrev pub entered_piece : Option Entry → Option Piece
entered_piece none = none
entered_piece (some e) = some (piece e.part.kind e.bytes)

-- the parts 1 to TOTAL in THIS order, whatever order they came in
abbrev pub in_this_order : Parts → (TOTAL : ℕ) → List Piece
in_this_order E TOTAL = in_order (λ k. entered_piece (E k)) 1 TOTAL

-- how many different parts were kept
abbrev pub different : Parts → ℕ
different E = sum parts_most (λ k. bit (is_entered (E (suc k))))

abbrev pub Complete : Parts → (TOTAL : ℕ) → Type 0
Complete E TOTAL = (k : ℕ) → 1 ≤ k → k ≤ TOTAL → is_entered (E k) ≡ true

-- each TYPE 2 part of it tells this U, SIDX and SLEN
abbrev pub Tell : Parts → (U SIDX SLEN : ℕ) → Type 0
Tell E U SIDX SLEN =
    (k : ℕ) (e : Entry) → E k ≡ some e → e.part.kind ≡ 2 → (e.part.u ≡ U) × (e.part.sidx ≡ SIDX) × (e.part.slen ≡ SLEN)

-- ---- what a call that brings the part x with the data d is told; E is what was kept of the sample before it
-- kept: the part is new, and n is TOTAL less the different parts kept, with it; the output is as it was
pub record KeptSays (E : Parts) (x : P.Part) (d out : List ℕ) (n : ℕ) (o : List ℕ) : Type 0 where
  pub new : E x.this ≡ none
  pub some-missing : 0 < n
  pub missing : n ≡ x.total - different (adding E x d)
  pub out_stays : o ≡ out

-- joined: all parts are there and make a sample; its bytes, in THIS order, stand at the front of the output, which they fit
pub record JoinedSays (E : Parts) (time : ℕ) (x : P.Part) (d out : List ℕ) (f : Facts) (o : List ℕ) : Type 0 where
  pub complete : Complete (adding E x d) x.total
  pub in_order : ordered (kinds (in_this_order (adding E x d) x.total)) ≡ true
  pub tell : Tell (adding E x d) f.u f.sidx f.sample
  pub at : f.time ≡ time
  pub lasting : f.sdur ≡ x.sdur
  pub string : f.string ≡ length (string_of (in_this_order (adding E x d) x.total))
  pub sample : f.sample ≡ length (together (in_this_order (adding E x d) x.total))
  pub fits : (f.sample ≤ sample_most) × (sample_most ≤ length out)
  pub handed : o ≡ together (in_this_order (adding E x d) x.total) ++ drop f.sample out

-- spoiled: all parts are there, and make no sample of any length that its TYPE 2 parts tell
pub record SpoiledSays (E : Parts) (x : P.Part) (d : List ℕ) : Type 0 where
  pub complete : Complete (adding E x d) x.total
  pub no-sample : (U SIDX SLEN : ℕ) → Tell (adding E x d) U SIDX SLEN → sound SLEN (in_this_order (adding E x d) x.total) ≡ false

-- by the outcome; of a repeat, that it was kept before, with this TYPE and these data
abbrev pub SaysPart : Parts → (time : ℕ) → P.Part → (d out : List ℕ) → Outcome → (o : List ℕ) → Type 0
SaysPart E time x d out O.End o = ⊥
SaysPart E time x d out (O.Whole f) o = ⊥
SaysPart E time x d out (O.Joined f) o = JoinedSays E time x d out f o
SaysPart E time x d out (O.Kept n) o = KeptSays E x d out n o
SaysPart E time x d out O.Repeat o = (entered_piece (E x.this) ≡ some (piece x.kind d)) × (o ≡ out)
SaysPart E time x d out O.Described o = ⊥
SaysPart E time x d out (O.Skipped t) o = ⊥
SaysPart E time x d out (O.Refused r) o = number_of r ≡ 10 → SpoiledSays E x d

-- any other unit is not kept, joins nothing and spoils nothing
abbrev pub NoPart : Outcome → Type 0
NoPart O.End = Prim.Unit {0}
NoPart (O.Whole f) = Prim.Unit {0}
NoPart (O.Joined f) = ⊥
NoPart (O.Kept n) = ⊥
NoPart O.Repeat = Prim.Unit {0}
NoPart O.Described = Prim.Unit {0}
NoPart (O.Skipped t) = Prim.Unit {0}
NoPart (O.Refused r) = number_of r ≡ 10 → ⊥

-- a part at an unknown time is not taken: it is refused, by 1, 2 or 18
abbrev pub Early : (number : ℕ) → Type 0
Early number = (number ≡ 1) ⊎ ((number ≡ 2) ⊎ (number ≡ 18))

abbrev pub Untaken : Outcome → Type 0
Untaken O.End = ⊥
Untaken (O.Whole f) = ⊥
Untaken (O.Joined f) = ⊥
Untaken (O.Kept n) = ⊥
Untaken O.Repeat = ⊥
Untaken O.Described = ⊥
Untaken (O.Skipped t) = ⊥
Untaken (O.Refused r) = Early (number_of r)

abbrev pub SaysUnit : Parts → Time → (rest out : List ℕ) → U.Unit → Outcome → (o : List ℕ) → Type 0
SaysUnit E t rest out End x o = NoPart x
SaysUnit E t rest out (Skipped y) x o = NoPart x
SaysUnit E t rest out (Refused r) x o = NoPart x
SaysUnit E t rest out (Whole w) x o = NoPart x
SaysUnit E (Some time) rest out (Part p) x o = SaysPart E time p (data_of rest (Part p)) out x o
SaysUnit E None rest out (Part p) x o = Untaken x
SaysUnit E t rest out (Description w) x o = NoPart x

-- ---- a desk's calls one after the other, and what each got
abbrev pub SaysCall : Ledger → Call → Got → Type 0
SaysCall L (receive desk at rest out) (answered a o) = SaysUnit (page_at L at) at rest out (read_of rest).unit a.outcome o
SaysCall L (receive desk at rest out) (released a) = ⊥
SaysCall L (receive desk at rest out) (shown d) = ⊥
SaysCall L (give-up desk at) g = Prim.Unit {0}
SaysCall L (lookup desk index book) g = Prim.Unit {0}

abbrev pub AllSay : Ledger → List Call → List Got → Type 0
AllSay L [] gs = Prim.Unit {0}
AllSay L (x ∷ xs) [] = ⊥
AllSay L (x ∷ xs) (g ∷ gs) = SaysCall L x g × AllSay (ledger_after L x g) xs gs

-- nothing was kept yet
abbrev pub blank_ledger : Ledger
blank_ledger = λ t. nothing
