-- `looks::spot` meets its contract: the sample's place, else the lowest free one for a part that is not the whole. Assumes nothing.
use Rattle.std.proofs.Common.{ℕ, ◌<◌, ◌≤◌, ◌≡◌, refl, sym, ap, ◌∙◌, Bool, List, take, Option, Some, None}
use Rattle.std.specs.Option.{is_some}
use Rattle.laws.specs.Rows.{◌⇒◌⁏◌, ◌<?◌, yes, no, lt, ge}
use Rattle.paper.specs.declared.Sender.{Sender}
use Rattle.sample.specs.declared.Place.{Place}
use Rattle.memory.specs.Table.{vacant, is_at}
use Rattle.table.specs.Table.{holds, place_where}
use Rattle.table.proofs.Facts.{somewhere}
use Rattle.looks.specs.Looks.{spot_in}
use Rattle.looks.proofs.spot.Goals as goal

module _ (who : Sender) (m total : ℕ) (l : List Place) where
  abbrev its : Place → Bool
  its = is_at who.desk who.time

  abbrev else : Option ℕ
  else = 1 <? total ⇒ place_where vacant (take m l) ⁏ None

  told : (r : Option ℕ) → r ≡ place_where its (take m l) → holds its (take m l) ≡ is_some r
  told r e = sym (ap is_some e ∙ somewhere its (take m l))

  found : (i : ℕ) → Some i ≡ place_where its (take m l) → Some i ≡ spot_in who.desk who.time m total l
  unfolding spot_in
  found i e = yes (holds its (take m l)) else (told (Some i) e) e

  lowest : None ≡ place_where its (take m l) → 1 < total → (r : Option ℕ) → r ≡ place_where vacant (take m l) → r ≡ spot_in who.desk who.time m total l
  unfolding spot_in
  lowest e h r k =
      no (holds its (take m l)) (place_where its (take m l)) (told None e) (yes (1 <? total) None (lt 1 total h) k)

  nowhere : None ≡ place_where its (take m l) → total ≤ 1 → None ≡ spot_in who.desk who.time m total l
  unfolding spot_in
  nowhere e h =
      no (holds its (take m l)) (place_where its (take m l)) (told None e)
      (no (1 <? total) (place_where vacant (take m l)) (ge 1 total h) refl)

pub returns-in-Some : goal.returns-in-Some
returns-in-Some c = found c.args.who c.args.m c.args.x.part.total c.args.t.now _ c.in-Some.ensures

pub returns-in-None : goal.returns-in-None
returns-in-None c =
    lowest c.args.who c.args.m c.args.x.part.total c.args.t.now c.in-None.ensures c.if-x-gt1.true _ c.lowest.ensures

pub returns-in-None-2 : goal.returns-in-None-2
returns-in-None-2 c = nowhere c.args.who c.args.m c.args.x.part.total c.args.t.now c.in-None.ensures c.if-x-gt1.false
