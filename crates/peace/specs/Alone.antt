-- The desk alone: what it gets is settled by its own view and its own calls. In good tables a modest desk gets, among all others, what it
-- gets alone. Assumes nothing.
use Rattle.std.specs.Prelude.{◌≡◌, Bool, Some}
use Rattle.std.proofs.Math.Bool.{true, false}
use mathlib.Core.List.{List, [], ◌∷◌}
use Rattle.style.specs.Shown as S
use Rattle.desk.specs.declared.Shares.{Shares}
use Rattle.desk.specs.Desk.{newest_of}
use Rattle.good.specs.View.{View, own_in, seen_after, receives, gives_up}
use Rattle.peace.specs.Run.{Call, receive, give-up, lookup, Got, answered, released, shown}
use Rattle.peace.specs.Run.{arrives, Few}

-- ---- one call of the desk alone
-- the shares as it would find them: its own open samples, and no common use
abbrev pub lone : View → Shares
lone v = record { opens = v.opens; common = 0; desks = 1 }

abbrev pub own_got : View → Call → Got
own_got v (receive desk t rest out) =
    answered (receives (lone v) v desk t rest out).answer (receives (lone v) v desk t rest out).own.out
own_got v (give-up desk time) = released (gives_up v time).answer
own_got v (lookup desk index book) = shown (S.shown book v.store (newest_of v.marks) index)

-- its view after the call
abbrev pub own_view : View → Call → View
own_view v (receive desk t rest out) = seen_after v t (receives (lone v) v desk t rest out).own
own_view v (give-up desk time) = seen_after v (Some time) (gives_up v time).own
own_view v (lookup desk index book) = v

-- the call reaches the test of the shares
abbrev pub own_reaches : View → Call → Bool
own_reaches v (receive desk t rest out) = arrives (own_in v t out) desk t rest
own_reaches v (give-up desk time) = false
own_reaches v (lookup desk index book) = false

-- where it does, fewer than two are open
abbrev pub Sparing : View → Call → Type 0
Sparing v c = own_reaches v c ≡ true → Few v.opens

-- ---- its calls one after the other
abbrev pub alone : View → List Call → List Got
alone v [] = []
alone v (c ∷ cs) = own_got v c ∷ alone (own_view v c) cs

abbrev pub Frugal : View → List Call → Type 0
Frugal v [] = Unit {0}
Frugal v (c ∷ cs) = Sparing v c × Frugal (own_view v c) cs
