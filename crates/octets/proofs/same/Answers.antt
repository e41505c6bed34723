-- `octets::same` meets its contract: `==` of two slices goes through them pair by pair. Assumes nothing.
use Rattle.std.proofs.Common.{◌∙◌}
use Rattle.octets.specs.Same.{same_pairs}
use Rattle.octets.proofs.same.Goals as goal

pub returns : goal.returns
returns c = c.eq.ensures ∙ same_pairs c.args.a.now c.args.b.now
