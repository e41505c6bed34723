-- A give-up as the code carries it out: the sample that it found in the table, what the desk made of it, and the place that is freed.
-- Assumes nothing.
use Rattle.desk.specs.GivenUp.{Freed}
use Rattle.std.specs.Prelude.{ℕ, ◌+◌, ◌*◌, ◌≤◌, ◌≡◌, true, false, List, [], ◌++◌, length, set, take, drop, Some, Err}
use Rattle.std.proofs.Math.Path.{refl, ap}
use Rattle.std.proofs.Common.{sym, ◌∙◌}
use Rattle.std.proofs.Math.Bool.{Bool}
use Rattle.laws.specs.Rows.{◌⇒◌⁏◌, ◌or◌, ◌<?◌, yes, no, lt, ge, lt_of, or-none}
use Rattle.laws.specs.Region.{splice, splice-part}
use Rattle.laws.specs.Table.{seek}
use Rattle.paper.specs.Limits.{finished_most, head_size, marks_each, store_size, desks_most, places}
use Rattle.paper.specs.declared.Name.{Name}
use Rattle.paper.specs.Time.{Time}
use Rattle.paper.specs.declared.Refusal.{Refusal}
use Rattle.paper.specs.declared.Refusal.TheVariants as R
use Rattle.sample.specs.declared.Place.{Place}
use Rattle.sample.specs.Place.{bare, closed}
use Rattle.desk.specs.GivenUp.{GivenUp}
use Rattle.desk.specs.Desk.{Own, Given, own, finish, given_up}
use Rattle.table.specs.Table.{stored as put_in}
use Rattle.memory.specs.Table.{is_at}
use Rattle.memory.specs.Relay.{Tables, tables, desks_of, places_of, row_of, marks_of, store_of, open_at, own_of, placed}
use Rattle.memory.specs.Relay.{recounted, stranger, lacks_three}
use Rattle.memory.specs.Relay.{Released, released, yielded, returned, given_up_among, given_up_at}
use Rattle.memory.proofs.Back.{put_same}
use Rattle.memory.proofs.Counted.{recounted-same, is-closed}
use Rattle.looks.specs.Looks.{reach_of, freed_at}
use Rattle.steps.specs.Plan.{Yield, yield, yielding, place_after}
use Rattle.gate.specs.Tests.{proper, three-long}
use Rattle.steps.specs.Found.{reach-all, reach-most, set_front, found, found-used, stands-found}

-- ---- give-up, which is lent no store
module _ (s : Tables) (who : Name) where
  abbrev n : ℕ
  n = desks_of s.marks

  abbrev len : ℕ
  len = length s.places

  abbrev time : Time
  time = Some who.time

  abbrev reach : ℕ
  reach = reach_of n len

  abbrev it : Place
  it = found who.desk time reach s.places (reach-most n time len)

  abbrev freeing : GivenUp → List Place
  freeing r = put_in reach (freed_at r (seek (is_at who.desk time) (take reach s.places)) len) closed s.places

  pub given-up-is : (r : GivenUp) (rows marks : List ℕ)
      → ((p : Place) → p.used ≡ (seek (is_at who.desk time) (take reach s.places) <? reach)
      → yield (place_after r p) r rows marks ≡ yielding len p s.rows s.marks who)
      → released (tables (freeing r) rows marks s.stores) r ≡ given_up_at s who
  unfolding yielding given_up_among yielded given_up bare ◌⇒◌⁏◌
  given-up-is r rows marks e =
      ap (λ (z : Yield). released (tables (freeing z.answer) z.rows z.marks s.stores) z.answer)
      (e it (found-used who.desk time reach s.places (reach-most n time len))) ∙ go lack refl
    where
      lack : Bool
      lack = stranger n who.desk or lacks_three n len (length s.rows) (length s.marks)

      hers : Place → List ℕ → Own
      hers p store = own p (row_of who.desk s.rows) (marks_of who.desk s.marks) store []

      gives : (b : Bool) → Place → List ℕ → Given
      gives b p store = b ⇒ record { own = hers p store; answer = Err R.Desk } ⁏ given_up (hers p store) who.time

      let_go : Given → Released
      let_go a =
          released (tables (freeing a.answer) (splice (finished_most * who.desk) finished_most a.own.row s.rows)
          (recounted who.desk it.used a.own.place.used
          (splice (head_size + marks_each * who.desk) marks_each a.own.marks s.marks)) s.stores) a.answer

      -- a refusal frees nothing
      none-freed : (w : Refusal) → freeing (Err w) ≡ s.places
      none-freed w = sym (no _ _ (ge _ _ (reach-most n time len)) refl)

      same : (w : Refusal) → let_go (record { own = hers it []; answer = Err w }) ≡ released s (Err w)
      same w =
          rw (
            none-freed w,
            splice-part (finished_most * who.desk) finished_most s.rows,
            splice-part (head_size + marks_each * who.desk) marks_each s.marks,
            recounted-same who.desk it.used s.marks,
          )

      held : (w : Refusal) → released s (Err w)
          ≡ returned n s who.desk who.time (record { own = own_of n s who.desk time []; answer = Err w })
      held w = ap (λ (t : Tables). released t (Err w)) (sym (put_same n s who.desk time []))

      settles : (b : Bool) → Place → List ℕ → Given
      settles b p store =
          b ⇒ record { own = finish (hers p store) who.time closed []; answer = Freed }
          ⁏ record { own = hers p store; answer = Err R.NotOpen }

      freed-at : reach ≡ places n → it.used ≡ true
          → freeing Freed ≡ placed who.desk time closed (places_of n s) ++ drop (places n) s.places
      freed-at q u =
          let u' = found-used who.desk time reach s.places (reach-most n time len) in
          let h = lt_of _ _ (sym u' ∙ u) in
          sym (yes _ _ (lt _ _ h) refl) ∙ set_front reach _ closed s.places (reach-most n time len) h
          ∙ ap (λ (i : ℕ). set (take reach s.places) i closed ++ drop reach s.places)
          (sym (stands-found who.desk time reach s.places (reach-most n time len) h closed))
          ∙ ap (λ (k : ℕ). placed who.desk time closed (take k s.places) ++ drop k s.places) q

      stayed : reach ≡ places n → (w : Refusal) → released s (Err w)
          ≡ returned n s who.desk who.time (record { own = hers it (store_of who.desk s.stores); answer = Err w })
      stayed q w =
          held w
          ∙ ap (λ (k : ℕ). returned n s who.desk who.time
          (record {
            own = hers (open_at who.desk time (take k s.places))
                (store_of who.desk s.stores);
            answer = Err w;
          })) (sym q)

      used-is : reach ≡ places n → it.used ≡ (open_at who.desk time (places_of n s)).used
      used-is q = ap (λ (k : ℕ). (open_at who.desk time (take k s.places)).used) q

      case-of : reach ≡ places n → (b : Bool) → it.used ≡ b
          → let_go (settles b it []) ≡ returned n s who.desk who.time (settles b it (store_of who.desk s.stores))
      case-of q true u =
          rw (
            freed-at q u,
            splice-part (store_size * who.desk) store_size s.stores,
            is-closed who.desk time (places_of n s),
            ← (used-is q),
          )
      case-of q false u = same R.NotOpen ∙ stayed q R.NotOpen

      through : n ≤ desks_most → places n ≤ len → let_go (given_up (hers it []) who.time)
          ≡ returned n s who.desk who.time (given_up (own_of n s who.desk time []) who.time)
      through few enough =
          let q = reach-all n len few enough in
          let same-it : it ≡ open_at who.desk time (places_of n s) = ap
          (λ (k : ℕ). open_at who.desk time (take k s.places)) q in
          case-of q it.used refl
          ∙ ap (λ (p : Place). returned n s who.desk who.time (given_up (hers p (store_of who.desk s.stores)) who.time))
          same-it

      go : (b : Bool) → lack ≡ b → let_go (gives b it [])
          ≡ returned n s who.desk who.time (gives b (open_at who.desk time (places_of n s)) (store_of who.desk s.stores))
      go true f = same R.Desk ∙ held R.Desk
      go false f =
          let a = or-none _ _ f in
          let w = proper n who.desk a.0 in
          through w.0 (three-long n len (length s.rows) (length s.marks) a.1).0
