-- mask::past_stops meets its contract.
use mathlib.Core.Path.{sym}
use native.Mathlib.Omega.{arith}
use Rattle.mask.specs.MaskLaws.{past_shift, past_all}
use Rattle.mask.proofs.past_stops.Goals as goal

pub returns-then-n-lt64 : goal.returns-then-n-lt64
returns-then-n-lt64 c = past_shift c.args.mask c.args.n c.ranges.mask.fits (omega arith)

pub returns-else-n-lt64 : goal.returns-else-n-lt64
returns-else-n-lt64 c = sym (past_all c.args.mask c.args.n c.if-n-lt64.false)
