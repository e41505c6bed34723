-- `strings::ascii` meets its contract. The invariant: what was seen so far, and what is still ahead, decide. Assumes nothing.
use Rattle.std.proofs.Common.{ℕ, ◌+◌, ◌<◌, ◌≡◌, refl, sym, ◌∙◌, arith, Bool, true, false, ◌&&◌, List, length, drop, get_or, leb-true, leb-false}
use Rattle.std.proofs.Math.Dec.{leb}
use Rattle.text.specs.Runs.{seen}
use Rattle.text.proofs.Runs.{seen_none, seen_one, seen_other, seen_end}
use Rattle.strings.proofs.ascii.Goals as goal

-- one byte more
next : (s : List ℕ) (i : ℕ) (all : Bool) → i < length s → seen all (drop i s) ≡ seen (all && leb (get_or s i 0) 0x7F) (drop (i + 1) s)
next s i all h = go all (leb (get_or s i 0) 0x7F) refl
  where
    go : (a b : Bool) → leb (get_or s i 0) 0x7F ≡ b → seen a (drop i s) ≡ seen (a && b) (drop (i + 1) s)
    go true true e = seen_one s i true h (omega (arith, leb-true (get_or s i 0) 0x7F e))
    go false true e = seen_one s i false h (omega (arith, leb-true (get_or s i 0) 0x7F e))
    go true false e = seen_other s i true h (omega (arith, leb-false (get_or s i 0) 0x7F e))
    go false false e = seen_other s i false h (omega (arith, leb-false (get_or s i 0) 0x7F e))

pub loop-byte-init : goal.loop-byte-init
loop-byte-init c = seen_none _

pub loop-byte-preserved : goal.loop-byte-preserved
loop-byte-preserved c =
    let l = c.loop-byte in
    l.invariant ∙ next c.args.s.now l.byte-index l.all c.loop-byte-test.true

pub returns : goal.returns
returns c =
    let l = c.loop-byte in
    seen_end _ l.byte-index l.all (omega arith) ∙ sym l.invariant
