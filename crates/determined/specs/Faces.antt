-- Determined, one line for each public function: the relay by value, with all its memory in one value, for C and Rust, and as text.
-- Assumes nothing.
use Rattle.std.specs.Prelude.{ℕ, ◌≡◌, refl, Bool, List, [], length, drop, set, replicate}
use Rattle.std.proofs.lemmas.List.Edits.{sets}
use Rattle.laws.specs.Exactly.{Determines, determined, equation, determined-by-two}
use Rattle.paper.specs.Limits.{sample_most}
use Rattle.paper.specs.declared.Answer.{Answer}
use Rattle.paper.specs.declared.Name.{Name}
use Rattle.paper.specs.declared.Sender.{Sender}
use Rattle.paper.specs.Time.{Time}
use Rattle.text.specs.Unicode.{character, well_formed}
use Rattle.boxes.specs.Found.{Found}
use Rattle.boxes.specs.Step.{step_of}
use Rattle.style.specs.Checked.{Checked}
use Rattle.style.specs.Book.{check_of}
use Rattle.writer.specs.Written.{Written}
use Rattle.writer.specs.Write.{caption, written, described}
use Rattle.desk.specs.GivenUp.{GivenUp}
use Rattle.desk.specs.Desk.{given_up_number}
use Rattle.memory.specs.Started.{Started}
use Rattle.sample.specs.declared.Place.{Place}
use Rattle.memory.specs.Relay.{Tables, tables, Prepared, prepared, set_up, Done, done, received_at, Released, released, given_up_at, looked_up}
use Rattle.memory.specs.Relay.{started_number}
use Rattle.held.specs.Held.{Begun, Called, Yielded, begun, called, yielded}
use Rattle.hall.specs.declared.Hall.{Hall}
use Rattle.hall.specs.Hall.{Heard, Freed, tables_of, lent, heard, freed}
use Rattle.export.specs.Export.{Numbered, numbered, started_as, released_as, Rowed, rowed, done_as, Wrote, wrote, written_as}
use Rattle.numbers.specs.Numbers.{checked_row, written_row, stepped_row, name_of, sent_by}
use Rattle.answers.specs.Answers.{answer_row, row_most}
use Rattle.sizes.specs.Sizes.{place_size, needed}
use Rattle.lines.specs.Typed.{Page, page, typed}
use Rattle.lines.specs.Digits.{digits}
use Rattle.lines.specs.Line.{line_of}
use Rattle.list.specs.Listed.{listed}
use Rattle.determined.specs.Leaves.{two}

-- ---- held: the rows, marks and stores are lent, the places come back in the answer
pub held-set-up : (n : ℕ) (s : Tables)
    → Determines (λ (x : Begun × List ℕ × List ℕ × List ℕ).
    prepared (tables x.0.places x.1 x.2 x.3) x.0.answer ≡ set_up n s)
held-set-up n s =
    determined (λ x. prepared (tables x.0.places x.1 x.2 x.3) x.0.answer)
    (λ (m : Prepared). (begun m.tables.places m.answer, m.tables.rows, m.tables.marks, m.tables.stores)) (λ x. refl)
    (set_up n s)

pub held-receive : (s : Tables) (who : Sender) (rest out : List ℕ)
    → Determines (λ (x : Called × List ℕ × List ℕ × List ℕ × List ℕ).
    done (tables x.0.places x.1 x.2 x.3) x.4 x.0.answer ≡ received_at s who rest out)
held-receive s who rest out =
    determined (λ x. done (tables x.0.places x.1 x.2 x.3) x.4 x.0.answer)
    (λ (d : Done). (called d.tables.places d.answer, d.tables.rows, d.tables.marks, d.tables.stores, d.out)) (λ x. refl)
    (received_at s who rest out)

pub held-give-up : (places : List Place) (rows marks : List ℕ) (who : Name)
    → Determines (λ (x : Yielded × List ℕ × List ℕ). (stores : List ℕ)
    → released (tables x.0.places x.1 x.2 stores) x.0.answer ≡ given_up_at (tables places rows marks stores) who)
held-give-up places rows marks who =
    λ x y a b.
    determined (λ x. released (tables x.0.places x.1 x.2 []) x.0.answer)
    (λ (r : Released). (yielded r.tables.places r.answer, r.tables.rows, r.tables.marks)) (λ x. refl)
    (given_up_at (tables places rows marks []) who) x y (a []) (b [])

-- ---- hall: all the memory comes back in the answer
abbrev hall_of : Tables → List ℕ → Hall
hall_of t o = record { places = t.places; rows = t.rows; marks = t.marks; stores = t.stores; out = o }

pub hall-set-up : (n : ℕ) → Determines (λ (r : Hall). (tables_of r ≡ (set_up n lent).tables) × (r.out ≡ replicate sample_most 0))
hall-set-up n = determined-by-two tables_of (λ r. r.out) hall_of (λ r. refl) (set_up n lent).tables (replicate sample_most 0)

pub hall-receive : (h : Hall) (who : Sender) (rest : List ℕ)
    → Determines (λ (r : Heard). heard r ≡ received_at (tables_of h) who rest h.out)
hall-receive h who rest =
    determined heard (λ (d : Done). record { hall = hall_of d.tables d.out; answer = d.answer }) (λ r. refl)
    (received_at (tables_of h) who rest h.out)

pub hall-give-up : (h : Hall) (who : Name)
    → Determines (λ (r : Freed). (freed r ≡ given_up_at (tables_of h) who) × (r.hall.out ≡ h.out))
hall-give-up h who =
    determined-by-two freed (λ r. r.hall.out) (λ (d : Released) o. record { hall = hall_of d.tables o; answer = d.answer }) (λ r. refl)
    (given_up_at (tables_of h) who) h.out

-- ---- numbers: the row is lent
pub numbers-put-at : (row : List ℕ) (i v : ℕ) → Determines (λ (l : List ℕ). l ≡ set row i v)
numbers-put-at row i v = equation (set row i v)

pub numbers-put-all : (row : List ℕ) (at : ℕ) (vs : List ℕ) → Determines (λ (l : List ℕ). l ≡ sets row at vs)
numbers-put-all row at vs = equation (sets row at vs)

pub numbers-put-checked : (row : List ℕ) (c : Checked) → Determines (λ (l : List ℕ). l ≡ sets row 0 (checked_row c))
numbers-put-checked row c = equation (sets row 0 (checked_row c))

pub numbers-put-written : (row : List ℕ) (w : Written) → Determines (λ (l : List ℕ). l ≡ sets row 0 (written_row w))
numbers-put-written row w = equation (sets row 0 (written_row w))

pub numbers-put-stepped : (row : List ℕ) (next : ℕ) (f : Found) → Determines (λ (l : List ℕ). l ≡ sets row 0 (stepped_row next f))
numbers-put-stepped row next f = equation (sets row 0 (stepped_row next f))

pub numbers-name-of : (desk time : ℕ) → Determines (λ (r : Name). r ≡ name_of desk time)
numbers-name-of desk time = equation (name_of desk time)

pub numbers-sent-by : (desk known time : ℕ) → Determines (λ (r : Sender). r ≡ sent_by desk known time)
numbers-sent-by desk known time = equation (sent_by desk known time)

pub numbers-started-number : (s : Started) → Determines (λ (r : ℕ). r ≡ started_number s)
numbers-started-number s = equation (started_number s)

pub numbers-given-up-number : (g : GivenUp) → Determines (λ (r : ℕ). r ≡ given_up_number g)
numbers-given-up-number g = equation (given_up_number g)

-- ---- answers
pub answers-put-answer : (row : List ℕ) (a : Answer) → Determines (λ (x : ℕ × List ℕ). (x.0 ≡ a.used) × (x.1 ≡ sets row 0 (answer_row a)))
answers-put-answer row a = two a.used (sets row 0 (answer_row a))

-- ---- sizes
pub sizes-place : Determines (λ (r : ℕ). r ≡ place_size)
sizes-place = equation place_size

-- places, rows, marks, stores
pub sizes-needed : (need : ℕ → ℕ) (n : ℕ) → Determines (λ (r : ℕ). r ≡ needed need n)
sizes-needed need n = equation (needed need n)

-- ---- export
pub export-place-size : Determines (λ (r : ℕ). r ≡ place_size)
export-place-size = equation place_size

pub export-output : Determines (λ (r : ℕ). r ≡ sample_most)
export-output = equation sample_most

pub export_row : Determines (λ (r : ℕ). r ≡ row_most)
export_row = equation row_most

-- places, rows, marks, stores
pub export-sizes : (need : ℕ → ℕ) (n : ℕ) → Determines (λ (r : ℕ). r ≡ needed need n)
export-sizes need n = equation (needed need n)

pub export-set-up : (n : ℕ) (s : Tables) → Determines (λ (x : Tables × ℕ). numbered x.0 x.1 ≡ started_as (set_up n s))
export-set-up n s = determined (λ x. numbered x.0 x.1) (λ (m : Numbered). (m.tables, m.number)) (λ x. refl) (started_as (set_up n s))

pub export-receive : (s : Tables) (desk known time : ℕ) (rest out row : List ℕ)
    → Determines (λ (x : ℕ × Tables × List ℕ × List ℕ).
    rowed x.0 x.1 x.2 x.3 ≡ done_as (received_at s (sent_by desk known time) rest out) row)
export-receive s desk known time rest out row =
    determined (λ x. rowed x.0 x.1 x.2 x.3) (λ (r : Rowed). (r.used, r.tables, r.out, r.row)) (λ x. refl)
    (done_as (received_at s (sent_by desk known time) rest out) row)

pub export-give-up : (places : List Place) (rows marks : List ℕ) (desk time : ℕ)
    → Determines (λ (x : List Place × List ℕ × List ℕ × ℕ). (stores : List ℕ)
    → numbered (tables x.0 x.1 x.2 stores) x.3
    ≡ released_as (given_up_at (tables places rows marks stores) (name_of desk time)))
export-give-up places rows marks desk time =
    λ x y a b.
    determined (λ x. numbered (tables x.0 x.1 x.2 []) x.3)
    (λ (r : Numbered). (r.tables.places, r.tables.rows, r.tables.marks, r.number)) (λ x. refl)
    (released_as (given_up_at (tables places rows marks []) (name_of desk time))) x y (a []) (b [])

pub export-lookup : (marks stores : List ℕ) (desk index : ℕ) (book out : List ℕ)
    → Determines (λ (x : ℕ × List ℕ).
    (x.0 ≡ length (looked_up marks stores desk index book)) × (x.1 ≡ sets out 0 (looked_up marks stores desk index book)))
export-lookup marks stores desk index book out =
    two (length (looked_up marks stores desk index book)) (sets out 0 (looked_up marks stores desk index book))

pub export-check : (book row : List ℕ) → Determines (λ (l : List ℕ). l ≡ sets row 0 (checked_row (check_of book)))
export-check book row = equation (sets row 0 (checked_row (check_of book)))

pub export-write : (u sidx sdur : ℕ) (string modifiers : List ℕ) (m k : ℕ) (out row : List ℕ)
    → Determines (λ (x : List ℕ × List ℕ). wrote x.0 x.1 ≡ written_as (written (caption u sidx sdur string modifiers) m k out) row)
export-write u sidx sdur string modifiers m k out row =
    determined (λ x. wrote x.0 x.1) (λ (w : Wrote). (w.out, w.row)) (λ x. refl)
    (written_as (written (caption u sidx sdur string modifiers) m k out) row)

pub export-describe : (sidx : ℕ) (d : List ℕ) (m k : ℕ) (out row : List ℕ)
    → Determines (λ (x : List ℕ × List ℕ). wrote x.0 x.1 ≡ written_as (described sidx d m k out) row)
export-describe sidx d m k out row =
    determined (λ x. wrote x.0 x.1) (λ (w : Wrote). (w.out, w.row)) (λ x. refl) (written_as (described sidx d m k out) row)

pub export-box : (modifiers : List ℕ) (at : ℕ) (row : List ℕ)
    → Determines (λ (l : List ℕ). l ≡ sets row 0 (stepped_row (step_of modifiers at).next (step_of modifiers at).found))
export-box modifiers at row = equation (sets row 0 (stepped_row (step_of modifiers at).next (step_of modifiers at).found))

pub export-character : (u : ℕ) (s : List ℕ) (at : ℕ) → Determines (λ (r : ℕ). r ≡ character u (drop at s))
export-character u s at = equation (character u (drop at s))

pub export-well-formed : (u : ℕ) (s : List ℕ) → Determines (λ (r : Bool). r ≡ well_formed u s)
export-well-formed u s = equation (well_formed u s)

-- ---- lines, list: the output and the place behind the text
pub lines-put-text : (out : List ℕ) (at : ℕ) (text : List ℕ) → Determines (λ (x : List ℕ × ℕ). page x.0 x.1 ≡ typed out at text)
lines-put-text out at text = determined (λ x. page x.0 x.1) (λ (p : Page). (p.out, p.next)) (λ x. refl) (typed out at text)

pub lines-put-number : (out : List ℕ) (at n : ℕ) → Determines (λ (x : List ℕ × ℕ). page x.0 x.1 ≡ typed out at (digits n))
lines-put-number out at n = lines-put-text out at (digits n)

pub lines-put-line : (out : List ℕ) (at place : ℕ) (t : Time) (a : Answer)
    → Determines (λ (x : List ℕ × ℕ). page x.0 x.1 ≡ typed out at (line_of place t a))
lines-put-line out at place t a = lines-put-text out at (line_of place t a)

pub list-list : (input text : List ℕ) → Determines (λ (x : List ℕ × ℕ). page x.0 x.1 ≡ typed text 0 (listed input))
list-list input text = lines-put-text text 0 (listed input)
