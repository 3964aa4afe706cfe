-- fp::abs meets its contract.
use Rattle.fp.proofs.Signs.{abs_is}
use Rattle.std.proofs.Common.{◌∙◌}
use Rattle.fp.proofs.abs.Goals as goal

pub returns : goal.returns
returns c = c.abs.ensures.value ∙ abs_is c.args.x
