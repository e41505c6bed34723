-- `relay::set_up` meets its contract: what is made for n desks, where all that they need is there. Assumes nothing.
use Rattle.std.proofs.Common.{ℕ, ◌≤◌, ◌≡◌, List, length, refl, ap, sym, ◌∙◌, arith, rules, Err, Ok}
use Rattle.paper.specs.Limits.{desks_most}
use Rattle.sample.specs.declared.Place.{Place}
use Rattle.table.specs.Table.{cleared}
use Rattle.memory.specs.Started.{Started, Ready}
use Rattle.memory.specs.Relay.{tables, prepared}
use Rattle.fresh.specs.Fresh.{fitting, started_of}
use Rattle.fresh.specs.Start.{fit_all, fitting-most, set-up-refused, set-up-made}
use Rattle.relay.proofs.set_up.Goals as goal

few : (n table rows marks stores : ℕ) → Ready ≡ started_of (fitting n table rows marks stores) → n ≤ desks_most
few n table rows marks stores e = omega (arith, fit_all n table rows marks stores e, fitting-most n table rows marks stores)

tables-are : {ps ps' : List Place} {rs rs' ms ms' ss ss' : List ℕ} → ps ≡ ps' → rs ≡ rs' → ms ≡ ms' → ss ≡ ss'
    → prepared (tables ps rs ms ss) Ready ≡ prepared (tables ps' rs' ms' ss') Ready
tables-are p r m s = λ i. prepared (tables (p i) (r i) (m i) (s i)) Ready

pub places_of-requires : goal.places_of-requires
places_of-requires c = few _ _ _ _ _ c.in_ok-fit.ensures

pub make_fresh-requires : goal.make_fresh-requires
make_fresh-requires c = few _ _ _ _ _ c.in_ok-fit.ensures

pub returns-in_err-fit : goal.returns-in_err-fit
returns-in_err-fit c =
    let a = c.args in
    let s = tables a.places.now a.rows.now a.marks.now a.stores.now in
    let e : c.from_residual.result ≡ Err c.in_err-fit.field-0.0 = search rules in
    ap (prepared s) e ∙ set-up-refused a.n s c.in_err-fit.field-0.0 c.in_err-fit.ensures

pub returns : goal.returns
returns c =
    let a = c.args in
    let s = tables a.places.now a.rows.now a.marks.now a.stores.now in
    let f = c.make_fresh.ensures in
    tables-are (c.clear.ensures ∙ ap (λ (k : ℕ). cleared k a.places.now) c.places_of.ensures) f.0 f.1 f.2
    ∙ set-up-made a.n s c.in_ok-fit.ensures
