-- The relay: document 01, 'Shares of the places', refusals 1 and 2, and what a call of one desk does to the memory of all. The desk's
-- own definition (`received`) settles the call from its own things; this page says which they are, and puts them back. Assumes nothing.
use Rattle.memory.specs.Started.{Ready}
use Rattle.std.specs.Prelude.{ℕ, zero, suc, ◌+◌, ◌-◌, ◌*◌, Bool, not, List, [], ◌∷◌, ◌++◌, length, take, drop, get_or, set, replicate, Some, Ok, Err}
use Rattle.std.proofs.lemmas.List.Edits.{sets}
use Rattle.laws.specs.Rows.{◌⇒◌⁏◌, ◌or◌, ◌and◌, ◌<?◌, ◌=?◌}
use Rattle.laws.specs.Region.{part, splice}
use Rattle.laws.specs.Table.{bit, seek, count}
use Rattle.laws.specs.Sums.{sum}
use Rattle.paper.specs.Limits.{sample_most, finished_most, in_band, desks_most, own_places, marks_each, store_size, head_size, desks_at, common_at}
use Rattle.paper.specs.Limits.{opens_at, mark_most, places, rows_need, marks_need, stores_need}
use Rattle.paper.specs.Words.{number_of}
use Rattle.paper.specs.declared.Refusal.TheVariants as R
use Rattle.paper.specs.declared.Answer.{Answer}
use Rattle.paper.specs.declared.Name.{Name}
use Rattle.paper.specs.declared.Sender.{Sender}
use Rattle.paper.specs.Time.{Time}
use Rattle.sample.specs.declared.Place.{Place}
use Rattle.sample.specs.Place.{closed}
use Rattle.style.specs.Shown.{shown}
use Rattle.desk.specs.declared.Shares.{Shares}
use Rattle.desk.specs.GivenUp.{GivenUp}
use Rattle.desk.specs.Desk.{Own, After, Given, own, refuse, newest_of, received, given_up}
use Rattle.memory.specs.Table.{vacant, mine, is_at}
use Rattle.memory.specs.Started.{Started}

-- ---- the lent memory, and what of it is whose
pub record Tables : Type 0 where
  pub places : List Place
  pub rows : List ℕ
  pub marks : List ℕ
  pub stores : List ℕ

abbrev pub tables : List Place → (rows marks stores : List ℕ) → Tables
tables places rows marks stores = record { places = places; rows = rows; marks = marks; stores = stores }

-- how many desks there are: set-up puts it down in the head of the marks, and every call reads it there
abbrev pub desks_of : (marks : List ℕ) → ℕ
desks_of marks = get_or marks desks_at 0

-- the 4n places
abbrev pub places_of : (n : ℕ) → Tables → List Place
places_of n s = take (places n) s.places

-- a desk's own row of finished times, marks and store
abbrev pub row_of : (desk : ℕ) → List ℕ → List ℕ
row_of desk rows = part (finished_most * desk) finished_most rows

abbrev pub marks_of : (desk : ℕ) → List ℕ → List ℕ
marks_of desk marks = part (head_size + marks_each * desk) marks_each marks

abbrev pub store_of : (desk : ℕ) → List ℕ → List ℕ
store_of desk stores = part (store_size * desk) store_size stores

-- the desk's open sample of a time; a closed place where there is none
abbrev pub open_at : (desk : ℕ) → Time → List Place → Place
open_at desk t l = get_or l (seek (is_at desk t) l) closed

abbrev pub own_of : (n : ℕ) → Tables → (desk : ℕ) → Time → (out : List ℕ) → Own
own_of n s desk t out =
    own (open_at desk t (places_of n s)) (row_of desk s.rows) (marks_of desk s.marks) (store_of desk s.stores) out

-- ---- the shares: the common use is the sum, over all desks, of open samples beyond two
abbrev pub common_use : (n : ℕ) → List Place → ℕ
common_use n l = sum n (λ (e : ℕ). count (mine e) l - own_places)

-- as a walk over the places finds them
abbrev pub shares_of : (n desk : ℕ) → List Place → Shares
shares_of n desk l = record { opens = count (mine desk) l; common = common_use n l; desks = n }

-- as they are stored in the head of the marks, from where a call takes them: the common use, and how many samples a desk has open
abbrev pub common_of : (marks : List ℕ) → ℕ
common_of marks = get_or marks common_at 0

abbrev pub opens_of : (desk : ℕ) → (marks : List ℕ) → ℕ
opens_of desk marks = get_or marks (opens_at + desk) 0

abbrev pub stored_shares : (n desk : ℕ) → (marks : List ℕ) → Shares
stored_shares n desk marks = record { opens = opens_of desk marks; common = common_of marks; desks = n }

-- ---- what becomes of the tables
-- p is from now on the desk's sample of this time: it stands where that stood; where none stood, in the lowest free place
unfoldable pub stands_at : (desk : ℕ) → Time → Place → List Place → ℕ
stands_at desk t p l =
    seek (is_at desk t) l <? length l ⇒ seek (is_at desk t) l
    ⁏ p.used ⇒ seek vacant l
    ⁏ length l

abbrev pub placed : (desk : ℕ) → Time → Place → List Place → List Place
placed desk t p l = set l (stands_at desk t p l) p

-- the desk's sample of this time is open, before the call; and after it, in the place where it stands
abbrev pub was_open : (desk : ℕ) → Time → List Place → Bool
was_open desk t l = (open_at desk t l).used

abbrev pub is_open : (desk : ℕ) → Time → Place → List Place → Bool
is_open desk t p l = (get_or (placed desk t p l) (stands_at desk t p l) closed).used

-- a number of open places, by one that was open or not and is now or not. In tables that nobody set up 0 does not fall and the largest
-- number does not rise
unfoldable pub stepped : (was is : Bool) → (k : ℕ) → ℕ
stepped was is k =
    was and is ⇒ k
    ⁏ was ⇒ k - 1
    ⁏ is and k <? mark_most ⇒ k + 1
    ⁏ k

-- the common use changes where, with this one, the desk has more than two open
unfoldable pub common_stepped : (was is : Bool) → (opens k : ℕ) → ℕ
common_stepped was is opens k = own_places <? opens + bit (not was) ⇒ stepped was is k ⁏ k

-- both numbers, put down
abbrev pub recounted : (desk : ℕ) → (was is : Bool) → (marks : List ℕ) → List ℕ
recounted desk was is marks =
    set (set marks (opens_at + desk) (stepped was is (opens_of desk marks))) common_at
    (common_stepped was is (opens_of desk marks) (common_of marks))

-- the desk's own things put back; what lies beyond the 4n places is not touched
abbrev pub put_own : (n : ℕ) → Tables → (desk : ℕ) → Time → Own → Tables
put_own n s desk t o =
    tables (placed desk t o.place (places_of n s) ++ drop (places n) s.places)
    (splice (finished_most * desk) finished_most o.row s.rows)
    (splice (head_size + marks_each * desk) marks_each o.marks s.marks)
    (splice (store_size * desk) store_size o.store s.stores)

-- and its place counted
abbrev pub put_back : (n : ℕ) → Tables → (desk : ℕ) → Time → Own → Tables
put_back n s desk t o =
    let r = put_own n s desk t o in
    tables r.places r.rows
    (recounted desk (was_open desk t (places_of n s)) (is_open desk t o.place (places_of n s)) r.marks) r.stores

-- ---- refusal 1: n is not 1 to 8, the desk is not below n, or something lent is shorter than n needs
unfoldable pub improper : (n : ℕ) → Bool
improper n = n =? 0 or desks_most <? n

unfoldable pub stranger : (n desk : ℕ) → Bool
stranger n desk = improper n or not (desk <? n)

unfoldable pub short : (need have : ℕ) → Bool
short need have = have <? need

-- give-up is lent three of the tables; of each, how many elements
abbrev pub lacks_three : (n table rows marks : ℕ) → Bool
lacks_three n table rows marks = short (places n) table or short (rows_need n) rows or short (marks_need n) marks

abbrev pub lacks : (n table rows marks stores : ℕ) → Bool
lacks n table rows marks stores = lacks_three n table rows marks or short (stores_need n) stores

abbrev pub lacking : (n : ℕ) → Tables → Bool
lacking n s = lacks n (length s.places) (length s.rows) (length s.marks) (length s.stores)

-- ---- set-up: exactly what n desks need is made fresh
pub record Prepared : Type 0 where
  pub tables : Tables
  pub answer : Started

-- the head: n, and no sample open; the marks of n desks: no finished time in use, no newest value
abbrev pub head : (n : ℕ) → List ℕ
head n = n ∷ 0 ∷ replicate desks_most 0

unfoldable pub own_marks : (n : ℕ) → List ℕ
own_marks zero = []
own_marks (suc n) = 0 ∷ in_band ∷ own_marks n

abbrev pub fresh_marks : (n : ℕ) → List ℕ
fresh_marks n = head n ++ own_marks n

abbrev pub fresh_tables : (n : ℕ) → Tables → Tables
fresh_tables n s =
    tables (sets s.places 0 (replicate (places n) closed)) (sets s.rows 0 (replicate (rows_need n) 0))
    (sets s.marks 0 (fresh_marks n)) (sets s.stores 0 (replicate (stores_need n) 0))

abbrev pub prepared : Tables → Started → Prepared
prepared s a = record { tables = s; answer = a }

-- 0, or the refusal's number
abbrev pub started_number : Started → ℕ
started_number (Ok u) = 0
started_number (Err r) = number_of r

unfoldable pub set_up : (n : ℕ) → Tables → Prepared
set_up n s =
    improper n or lacking n s ⇒ prepared s (Err R.Desk)
    ⁏ prepared (fresh_tables n s) Ready

-- ---- receive: 1, 2, then the desk's own order
pub record Done : Type 0 where
  pub tables : Tables
  pub out : List ℕ
  pub answer : Answer

abbrev pub done : Tables → (out : List ℕ) → Answer → Done
done s out a = record { tables = s; out = out; answer = a }

-- 1 (`one` says whether), 2, then what the desk makes of it; 1 and 2 use no bytes
abbrev pub gated : (one : Bool) → Own → Time → After → After
gated one s t a =
    one ⇒ refuse s 0 t R.Desk
    ⁏ length s.out <? sample_most ⇒ refuse s 0 t R.Output
    ⁏ a

-- and that is the desk's own order
unfoldable pub ordered : (one : Bool) → Shares → Own → (desk : ℕ) → Time → (rest : List ℕ) → After
ordered one h s desk t rest = gated one s t (received h s desk t rest)

-- the desk's own things as the call leaves them, put back
abbrev pub settled : (n : ℕ) → Tables → (desk : ℕ) → Time → After → Done
settled n s desk t a = done (put_back n s desk t a.own) a.own.out a.answer

-- among n desks
unfoldable pub received_among : (n : ℕ) → Tables → (desk : ℕ) → Time → (rest out : List ℕ) → Done
received_among n s desk t rest out =
    settled n s desk t
    (ordered (stranger n desk or lacking n s) (stored_shares n desk s.marks) (own_of n s desk t out) desk t rest)

-- who sends a unit
abbrev pub sender : (desk : ℕ) → Time → Sender
sender desk t = record { desk = desk; time = t }

abbrev pub received_at : Tables → Sender → (rest out : List ℕ) → Done
received_at s who rest out = received_among (desks_of s.marks) s who.desk who.time rest out

-- 1 or 2 shuts a call out
abbrev pub shut_out : Tables → (desk : ℕ) → (out : List ℕ) → Bool
shut_out s desk out = let n = desks_of s.marks in (stranger n desk or lacking n s) or length out <? sample_most

-- ---- give-up, of a sample, whose time is known: 1, 11, or the place is freed and the time marked. It is lent no store and no output
pub record Released : Type 0 where
  pub tables : Tables
  pub answer : GivenUp

abbrev pub released : Tables → GivenUp → Released
released s a = record { tables = s; answer = a }

unfoldable pub yielded : (one : Bool) → Own → (time : ℕ) → Given
yielded one s time = one ⇒ record { own = s; answer = Err R.Desk } ⁏ given_up s time

abbrev pub returned : (n : ℕ) → Tables → (desk time : ℕ) → Given → Released
returned n s desk time a = released (put_back n s desk (Some time) a.own) a.answer

unfoldable pub given_up_among : (n : ℕ) → Tables → (desk time : ℕ) → Released
given_up_among n s desk time =
    returned n s desk time
    (yielded (stranger n desk or lacks_three n (length s.places) (length s.rows) (length s.marks))
    (own_of n s desk (Some time) []) time)

abbrev pub given_up_at : Tables → Name → Released
given_up_at s who = given_up_among (desks_of s.marks) s who.desk who.time

-- ---- lookup: it is lent the marks and the stores alone
unfoldable pub looked_up_among : (n : ℕ) → (marks stores : List ℕ) → (desk index : ℕ) → (book : List ℕ) → List ℕ
looked_up_among n marks stores desk index book =
    stranger n desk or short (marks_need n) (length marks) or short (stores_need n) (length stores) ⇒ []
    ⁏ shown book (store_of desk stores) (newest_of (marks_of desk marks)) index

abbrev pub looked_up : (marks stores : List ℕ) → (desk index : ℕ) → (book : List ℕ) → List ℕ
looked_up marks stores desk index book = looked_up_among (desks_of marks) marks stores desk index book
