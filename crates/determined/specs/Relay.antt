-- Determined, one line for each public function of the relay. Give-up is lent no store, and says the same of every store there could be.
-- Assumes nothing.
use Rattle.std.specs.Prelude.{ℕ, ◌≡◌, refl, List, []}
use Rattle.laws.specs.Exactly.{Determines, determined, equation}
use Rattle.paper.specs.declared.Answer.{Answer}
use Rattle.paper.specs.declared.Name.{Name}
use Rattle.paper.specs.declared.Sender.{Sender}
use Rattle.sample.specs.declared.Place.{Place}
use Rattle.desk.specs.GivenUp.{GivenUp}
use Rattle.memory.specs.Started.{Started}
use Rattle.memory.specs.Relay.{Tables, tables, Prepared, prepared, set_up, Done, done, received_at, Released, released, given_up_at, looked_up}

pub relay-set-up : (n : ℕ) (s : Tables) → Determines (λ (x : Tables × Started). prepared x.0 x.1 ≡ set_up n s)
relay-set-up n s = determined (λ x. prepared x.0 x.1) (λ (m : Prepared). (m.tables, m.answer)) (λ x. refl) (set_up n s)

pub relay-receive : (s : Tables) (who : Sender) (rest out : List ℕ)
    → Determines (λ (x : Tables × List ℕ × Answer). done x.0 x.1 x.2 ≡ received_at s who rest out)
relay-receive s who rest out =
    determined (λ x. done x.0 x.1 x.2) (λ (d : Done). (d.tables, d.out, d.answer)) (λ x. refl) (received_at s who rest out)

-- the places, rows and marks after the call, and the answer
abbrev pub Freed : Type 0
Freed = List Place × List ℕ × List ℕ × GivenUp

abbrev pub freed_in : Freed → (stores : List ℕ) → Released
freed_in x stores = released (tables x.0 x.1 x.2 stores) x.3

pub relay-give-up : (places : List Place) (rows marks : List ℕ) (who : Name)
    → Determines (λ (x : Freed). (stores : List ℕ) → freed_in x stores ≡ given_up_at (tables places rows marks stores) who)
relay-give-up places rows marks who =
    λ x y a b.
    determined (λ x. freed_in x []) (λ (r : Released). (r.tables.places, r.tables.rows, r.tables.marks, r.answer)) (λ x. refl)
    (given_up_at (tables places rows marks []) who) x y (a []) (b [])

pub relay-lookup : (marks stores : List ℕ) (desk index : ℕ) (book : List ℕ)
    → Determines (λ (bytes : List ℕ). bytes ≡ looked_up marks stores desk index book)
relay-lookup marks stores desk index book = equation (looked_up marks stores desk index book)
