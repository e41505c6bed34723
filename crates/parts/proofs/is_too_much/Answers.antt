-- `parts::is_too_much` meets its contract. Assumes nothing.
use Rattle.std.proofs.Common.{◌+◌, ◌≡◌, false, ◌∙◌, arith}
use Rattle.laws.specs.Rows.{◌⇒◌⁏◌, ◌<?◌, ◌=?◌}
use Rattle.paper.specs.Limits.{sample_most}
use Rattle.sample.specs.Place.{bare, oversize}
use Rattle.parts.proofs.Rows.{told-twice, or_false}
use Rattle.parts.proofs.is_too_much.Goals as goal

pub returns : goal.returns
unfolding oversize bare ◌⇒◌⁏◌
returns c = λ desk time.
    let none : 0 + c.args.n ≡ c.args.n = omega arith in
    rw none
    (c.exceeds.ensures ∙ or_false _
    ∙ told-twice (c.args.x.kind =? 2) (sample_most <? c.args.x.slen) (sample_most <? c.args.n) (c.args.x.slen <? c.args.n) false)
