-- A relay with all its memory in one value, and what a call leaves of it. Assumes nothing.
use Rattle.std.specs.Prelude.{ℕ, ◌≡◌, refl, true, replicate}
use Rattle.std.proofs.Common.{sym, ap, ◌∙◌}
use Rattle.laws.specs.Rows.{◌⇒◌⁏◌, ◌or◌, ◌<?◌, ◌=?◌, yes}
use Rattle.paper.specs.Limits.{places_most, rows_most, marks_most, stores_most}
use Rattle.paper.specs.declared.Answer.{Answer}
use Rattle.sample.specs.Place.{closed}
use Rattle.desk.specs.GivenUp.{GivenUp}
use Rattle.memory.specs.Relay.{Tables, tables, Done, done, Released, released, Prepared, desks_of, improper, stranger, lacking, set_up}
use Rattle.hall.specs.declared.Hall.{Hall}
use Rattle.hall.specs.declared.Told.{Told}

abbrev pub Heard : Type 0
Heard = Told Answer

abbrev pub Freed : Type 0
Freed = Told GivenUp

abbrev pub tables_of : Hall → Tables
tables_of h = tables h.places h.rows h.marks h.stores

-- memory as it is lent to set-up, with something in it, and a head that names no relay
abbrev pub lent : Tables
lent = tables (replicate places_most closed) (replicate rows_most 7) (replicate marks_most 9) (replicate stores_most 7)

-- what a call answers, with the memory that it leaves
abbrev pub heard : Heard → Done
heard r = done (tables_of r.hall) r.hall.out r.answer

abbrev pub freed : Freed → Released
freed r = released (tables_of r.hall) r.answer

-- ---- where set-up is refused, no desk is served
nine : (desk : ℕ) → stranger 9 desk ≡ true
unfolding stranger improper ◌⇒◌⁏◌ ◌<?◌ ◌=?◌
nine desk = refl

pub unserved : (n desk : ℕ) → improper n ≡ true → stranger (desks_of (set_up n lent).tables.marks) desk ≡ true
unfolding set_up
unserved n desk h =
    ap (λ (m : Prepared). stranger (desks_of m.tables.marks) desk)
    (sym (yes (improper n or lacking n lent) _ (sym (yes (improper n) _ h refl)) refl))
    ∙ nine desk
