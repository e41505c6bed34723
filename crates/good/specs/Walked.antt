-- The relay that walks: as it was before the numbers were stored, a call counts the desk's open samples and the common use by a walk over
-- the places, and puts no number down. In good tables every call is answered as it answers it, and leaves all that it leaves; but for the
-- numbers. Assumes nothing.
use Rattle.std.specs.Prelude.{ℕ, ◌≡◌, List, [], length, drop, Some}
use Rattle.laws.specs.Rows.{◌or◌}
use Rattle.paper.specs.Limits.{head_size}
use Rattle.paper.specs.declared.Name.{Name}
use Rattle.paper.specs.declared.Sender.{Sender}
use Rattle.paper.specs.Time.{Time}
use Rattle.desk.specs.Desk.{After, Given}
use Rattle.memory.specs.Relay.{Tables, desks_of, places_of, own_of, shares_of}
use Rattle.memory.specs.Relay.{put_own, stranger, lacks_three, lacking, ordered}
use Rattle.memory.specs.Relay.{Done, done, Released, released, yielded}

-- ---- receive, by the shares as a walk finds them; the desk's own things are put back, and nothing is counted
abbrev pub walked_settled : (n : ℕ) → Tables → (desk : ℕ) → Time → After → Done
walked_settled n s desk t a = done (put_own n s desk t a.own) a.own.out a.answer

unfoldable pub walked_among : (n : ℕ) → Tables → (desk : ℕ) → Time → (rest out : List ℕ) → Done
walked_among n s desk t rest out =
    walked_settled n s desk t
    (ordered (stranger n desk or lacking n s) (shares_of n desk (places_of n s)) (own_of n s desk t out) desk t rest)

abbrev pub walked_at : Tables → Sender → (rest out : List ℕ) → Done
walked_at s who rest out = walked_among (desks_of s.marks) s who.desk who.time rest out

-- ---- give-up
abbrev pub walked_returned : (n : ℕ) → Tables → (desk time : ℕ) → Given → Released
walked_returned n s desk time a = released (put_own n s desk (Some time) a.own) a.answer

unfoldable pub walked_given_up_among : (n : ℕ) → Tables → (desk time : ℕ) → Released
walked_given_up_among n s desk time =
    walked_returned n s desk time
    (yielded (stranger n desk or lacks_three n (length s.places) (length s.rows) (length s.marks))
    (own_of n s desk (Some time) []) time)

abbrev pub walked_given_up : Tables → Name → Released
walked_given_up s who = walked_given_up_among (desks_of s.marks) s who.desk who.time

-- ---- tables alike, but for the numbers in the head of the marks
pub record Alike (s r : Tables) : Type 0 where
  pub places : s.places ≡ r.places
  pub rows : s.rows ≡ r.rows
  pub stores : s.stores ≡ r.stores
  pub desks : desks_of s.marks ≡ desks_of r.marks
  pub long : length s.marks ≡ length r.marks
  pub behind : drop head_size s.marks ≡ drop head_size r.marks

-- the same answer and output, and such tables
pub record AsWalked (a w : Done) : Type 0 where
  pub answer : a.answer ≡ w.answer
  pub out : a.out ≡ w.out
  pub tables : Alike a.tables w.tables

pub record GivenUpAsWalked (a w : Released) : Type 0 where
  pub answer : a.answer ≡ w.answer
  pub tables : Alike a.tables w.tables
