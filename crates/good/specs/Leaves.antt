-- What a call of a desk leaves of its own things: a place that is closed or its sample of that time, lists as long as they were, and a
-- new sample only where the shares let it through; and a place that parts made is left as parts made it, its text well-formed.
-- Assumes nothing.
use Rattle.std.specs.Prelude.{ℕ, ◌<◌, ◌≡◌, Bool, true, false, ◌⊎◌, ◌≢◌, List, length, Some}
use Rattle.std.proofs.Common.{arith, sym, subst, ◌∙◌, true≢false, inl, inr}
use Rattle.std.proofs.Math.Path.{refl, ap}
use Rattle.std.proofs.Math.ListN.{length-set}
use Rattle.laws.specs.Rows.{◌<?◌, each, no, eq, lt_of, ge-of, ne_of, or-none, not-of}
use Rattle.paper.specs.Limits.{own_places, common}
use Rattle.paper.specs.Time.{Time}
use Rattle.finished.proofs.Marks.{length-kept}
use Rattle.text.specs.Unicode.{WellFormed}
use Rattle.unit.specs.declared.Whole as W
use Rattle.unit.specs.declared.Part as P
use Rattle.unit.specs.declared.Unit.{Unit}
use Rattle.unit.specs.declared.Unit.TheVariants.{End, Skipped, Refused, Whole, Part, Description}
use Rattle.unit.specs.Layout.{read_of, data_of}
use Rattle.unit.specs.Text.{WellText}
use Rattle.unit.proofs.Text.{string-text}
use Rattle.unit.specs.Reads.{Counts, Counted}
use Rattle.unit.proofs.Readings.{reads-counted, read-well}
use Rattle.sample.specs.declared.Place.{Place}
use Rattle.sample.specs.Place.{bare, closed, has, agrees, oversize, kept}
use Rattle.sample.specs.Kept.{Fresh}
use Rattle.sample.specs.Text.{Sane, closed-sane, opened-sane, keep-sane}
use Rattle.sample.specs.Repeat.{agrees-of}
use Rattle.sample.specs.Told.{Name, keep-named}
use Rattle.style.specs.Store.{noted}
use Rattle.style.specs.Store as S
use Rattle.style.specs.Slots.{stored-length}
use Rattle.desk.specs.declared.Shares.{Shares}
use Rattle.desk.specs.Desk.{Own, After, Given, in_use, finish, whole_taken, sample_of, conflicts, six, used_up, completed, joining}
use Rattle.desk.specs.Desk.{description_taken, taken, received, given_up}
use Rattle.desk.proofs.Effects.{at-times}
use Rattle.memory.specs.Table.{is_time}
use Rattle.memory.specs.Relay.{ordered, yielded}
use Rattle.good.specs.Places.{Named, closed-free, closed-named}
use Rattle.good.specs.Fair.{Passed}

pub record Leaves (h : Shares) (s : Own) (desk : ℕ) (t : Time) (o : Own) : Type 0 where
  pub named : Named desk t o.place
  pub row : length o.row ≡ length s.row
  pub marks : length o.marks ≡ length s.marks
  pub store : length o.store ≡ length s.store
  pub new : o.place.used ≡ true → s.place.used ≡ false → Passed h
  pub sane : Sane s.place → Sane o.place

-- six and the common use, where a new sample is neither refused 8 nor 9
passes : (p : Place) (h : Shares) → p.used ≡ false → six p h ≡ false → used_up p h ≡ false → Passed h
unfolding six used_up
passes p h f a b = record { below = omega (arith, ge-of _ _ (no p.used false f refl ∙ a)); share = go (h.opens <? own_places) refl }
  where
    go : (c : Bool) → (h.opens <? own_places) ≡ c → (h.opens < own_places) ⊎ (h.common ≢ common h.desks)
    go true e = inl (lt_of _ _ e)
    go false e = inr (ne_of _ _ (no _ false e refl ∙ no p.used false f refl ∙ b))

noted-length : (store : List ℕ) (newest sidx : ℕ) (d : List ℕ) → length (noted store newest sidx d).store ≡ length store
unfolding noted
noted-length store newest sidx d =
    each L _ _ _ (λ q. refl)
    (λ q. each L _ _ _ (λ q. refl)
    (λ q. each L _ _ _ (λ q. refl) (λ q. each L _ _ _ (λ q. refl) (λ q. stored-length newest (S.moved newest sidx) store sidx d))))
  where
    L : S.After → Type 0
    L a = length a.store ≡ length store

-- a part that is no conflict is new and agrees; and if it is not too much, it may be kept
no-conflict : (q : Place) (x : P.Part) → conflicts q x ≡ false → (has q x.this ≡ false) × (agrees q x ≡ true)
unfolding conflicts
no-conflict q x a = let n = or-none _ _ a in (n.0, not-of _ n.1)

pub agreed : (q : Place) (x : P.Part) → conflicts q x ≡ false → agrees q x ≡ true
agreed q x a = (no-conflict q x a).1

pub fresh-part : (q : Place) (x : P.Part) (d : List ℕ) → Counts x → conflicts q x ≡ false → oversize q x (length d) ≡ false → Fresh q x d
fresh-part q x d c a b =
    let t = (agrees-of q x (agreed q x a)).total in
    record { from = c.from; to = omega (arith, c.to); new = (no-conflict q x a).0; fits = b }

-- the sample that a part belongs to, with the part
pub part-sane : (p : Place) → Sane p → (desk time : ℕ) (x : P.Part) (d : List ℕ) → Counts x → WellText (Part x) d
    → let q = sample_of p desk time x in conflicts q x ≡ false → oversize q x (length d) ≡ false → Sane (kept q x d)
unfolding sample_of
part-sane p m desk time x d c w a b =
    let q = sample_of p desk time x in
    let n = each Sane p.used p _ (λ u. m) (λ u. opened-sane desk time x c.most) in
    keep-sane q n x d (fresh-part q x d c a b) (agreed q x a) (λ t. subst (WellFormed x.u) (string-text x d t) w)

module _ (h : Shares) (s : Own) (desk : ℕ) (t : Time) (named : Named desk t s.place) where
  same : s.place.used ≡ true → s.place.used ≡ false → Passed h
  same u f = absurd (true≢false (sym u ∙ f))

  none : closed.used ≡ true → s.place.used ≡ false → Passed h
  none u f = absurd (true≢false (sym u ∙ closed-free closed refl))

  stay-leaves : Leaves h s desk t s
  stay-leaves = record { named = named; row = refl; marks = refl; store = refl; new = same; sane = λ m. m }

  finish-leaves : (time : ℕ) (p : Place) (o : List ℕ) → Named desk t p → (p.used ≡ true → s.place.used ≡ false → Passed h)
      → (Sane s.place → Sane p) → Leaves h s desk t (finish s time p o)
  finish-leaves time p o n k m = record {
    named = n;
    row = length-kept s.row (in_use s.marks) time;
    marks = length-set s.marks 0 _;
    store = refl;
    new = k;
    sane = m;
  }

  abbrev L : After → Type 0
  L a = Leaves h s desk t a.own

  whole-leaves : (time used : ℕ) (next : Time) (w : W.Whole) (d : List ℕ) → L (whole_taken s time used next w d)
  unfolding whole_taken
  whole-leaves time used next w d =
      each L _ _ _ (λ q. stay-leaves)
      (λ q. each L _ _ _ (λ q. stay-leaves)
      (λ q. each L _ _ _ (λ q. stay-leaves) (λ q. finish-leaves time s.place _ named same (λ m. m))))

  closes : (time : ℕ) (o : List ℕ) → Leaves h s desk t (finish s time closed o)
  closes time o = finish-leaves time closed o (closed-named desk t) none (λ m. closed-sane)

  completed-leaves : (time used : ℕ) (next : Time) (q : Place) → Named desk t q → (s.place.used ≡ false → Passed h)
      → (Sane s.place → Sane q) → L (completed s time used next q)
  unfolding completed
  completed-leaves time used next q n k m =
      each L _ _ _ (λ e. record { named = n; row = refl; marks = refl; store = refl; new = λ u. k; sane = m })
      (λ e. each L _ _ _ (λ e. closes _ _) (λ e. closes _ _))

  -- q is the sample that the part belongs to
  joining-leaves : (time used : ℕ) (next : Time) (q : Place) (x : P.Part) (d : List ℕ) → Named desk t (kept q x d)
      → (conflicts q x ≡ false → oversize q x (length d) ≡ false → Sane s.place → Sane (kept q x d))
      → L (joining h s time used next q x d)
  unfolding joining
  joining-leaves time used next q x d n m =
      each L _ _ _ (λ e. stay-leaves)
      (λ e. each L _ _ _ (λ e. stay-leaves)
      (λ e. each L _ _ _ (λ e. stay-leaves)
      (λ f₂. each L _ _ _ (λ e. stay-leaves)
      (λ f₃. each L _ _ _ (λ e. stay-leaves)
      (λ a. each L _ _ _ (λ e. stay-leaves)
      (λ b. completed-leaves time used next (kept q x d) n (λ f. passes s.place h f a b) (m f₂ f₃)))))))

  sample-open : (time : ℕ) → t ≡ Some time → (x : P.Part) → let q = sample_of s.place desk time x in
      (q.used ≡ true) × ((q.desk ≡ desk) × (is_time t q.time ≡ true))
  unfolding sample_of bare
  sample-open time e x =
      each (λ (q : Place). (q.used ≡ true) × ((q.desk ≡ desk) × (is_time t q.time ≡ true))) _ _ _ (λ u. (u, named.name u))
      (λ u. (refl, (refl, ap (λ (v : Time). is_time v time) e ∙ eq time time refl)))

  kept-named : (time : ℕ) → t ≡ Some time → (x : P.Part) (d : List ℕ) → Named desk t (kept (sample_of s.place desk time x) x d)
  kept-named time k x d =
      let q = sample_of s.place desk time x in
      let e = keep-named q x d in
      let o = sample-open time k x in
      record {
        name = λ u. (ap (λ (n : Name). n.desk) e ∙ o.1.0, ap (λ (n : Name). is_time t n.time) e ∙ o.1.1);
        free = λ f. absurd (true≢false (sym o.0 ∙ sym (ap (λ (n : Name). n.used) e) ∙ f));
      }

  taken-leaves : (used : ℕ) (rest : List ℕ) (x : Unit) → Counted x → WellText x (data_of rest x) → L (taken h s desk t used rest x)
  unfolding description_taken
  taken-leaves used rest End c k = stay-leaves
  taken-leaves used rest (Skipped y) c k = stay-leaves
  taken-leaves used rest (Refused r) c k = stay-leaves
  taken-leaves used rest (Whole w) c k =
      at-times (λ u. L) s used _ (λ time. whole-leaves time used _ w (data_of rest (Whole w))) stay-leaves t
  taken-leaves used rest (Part x) c k =
      let d = data_of rest (Part x) in
      at-times (λ (u : Time) (a : After). t ≡ u → L a) s used _
      (λ time e.
      joining-leaves time used _ (sample_of s.place desk time x) x d (kept-named time e x d)
      (λ a b m. part-sane s.place m desk time x d c k a b))
      (λ e. stay-leaves) t refl
  taken-leaves used rest (Description w) c k = record {
    named = named;
    row = refl;
    marks = length-set s.marks 1 _;
    store = noted-length s.store _ w.sidx (data_of rest (Description w));
    new = same;
    sane = λ m. m;
  }

  pub ordered-leaves : (one : Bool) (rest : List ℕ) → Leaves h s desk t (ordered one h s desk t rest).own
  unfolding ordered received
  ordered-leaves one rest =
      each L _ _ _ (λ e. stay-leaves)
      (λ e. each L _ _ _ (λ e. stay-leaves)
      (λ e. taken-leaves (read_of rest).used rest (read_of rest).unit (reads-counted rest) (read-well rest)))

  pub yielded-leaves : (one : Bool) (time : ℕ) → Leaves h s desk t (yielded one s time).own
  unfolding yielded given_up
  yielded-leaves one time = each G _ _ _ (λ e. stay-leaves) (λ e. each G _ _ _ (λ u. closes _ _) (λ u. stay-leaves))
    where
      G : Given → Type 0
      G g = Leaves h s desk t g.own
