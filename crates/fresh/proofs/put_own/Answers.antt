-- `fresh::put_own` meets its contract: a turn makes one desk's marks more. Assumes nothing.
use Rattle.std.proofs.Common.{◌≡◌, ◌+◌, ◌-◌, ◌*◌, List, ℕ, sym, ap, ◌∙◌, arith}
use Rattle.std.proofs.Math.ListN.{set}
use Rattle.std.proofs.lemmas.List.Edits.{sets}
use Rattle.paper.specs.Limits.{head_size, in_band, marks_each}
use Rattle.memory.specs.Relay.{own_marks}
use Rattle.fresh.specs.Start.{own-none, own_turn, own-end}
use Rattle.fresh.proofs.put_own.Goals as goal

pub loop-i-init : goal.loop-i-init
loop-i-init c = own-none c.args.n c.args.marks.now

pub loop-i-preserved : goal.loop-i-preserved
loop-i-preserved c =
    let l = c.loop-i in
    let n = c.args.n in
    let at = head_size + marks_each * l.i in
    l.invariant ∙ own_turn n l.i l.marks (omega arith)
    ∙ ap (λ (k : List ℕ). sets k (head_size + marks_each * (l.i + 1)) (own_marks (n - (l.i + 1))))
    (sym (c.put_word-in-loop-i.ensures ∙ ap (λ (k : List ℕ). set k (at + 1) in_band) c.put_word.ensures))

pub returns : goal.returns
returns c =
    let l = c.loop-i in sym (l.invariant ∙ own-end c.args.n l.i l.marks (omega arith))
