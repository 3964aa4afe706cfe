-- fp::finite meets its contract.
use Rattle.fp.proofs.Signs.{finite_is}
use Rattle.std.proofs.Common.{◌∙◌}
use Rattle.fp.proofs.finite.Goals as goal

pub returns : goal.returns
returns c = c.is_finite.ensures.value ∙ finite_is c.args.x
