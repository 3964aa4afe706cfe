-- multiply_add::pack::rounded meets its contract.
use Rattle.std.proofs.Common.{◌∙◌}
use Rattle.multiply_add.proofs.PackLaws.{rounded_full, rounded_cut}
use Rattle.multiply_add.proofs.pack.rounded.Goals as goal

pub returns-then-at-unit : goal.returns-then-at-unit
returns-then-at-unit c =
    c.nearest.ensures ∙ rounded_cut c.args.w c.args.at c.args.k c.if-at-unit.true

pub returns-else-at-unit : goal.returns-else-at-unit
returns-else-at-unit c = rounded_full c.args.w c.args.at c.args.k c.requires c.if-at-unit.false
