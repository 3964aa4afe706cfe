-- cars::four_at meets its contract.
use Prim.Native.Nat.{◌%◌}
use borrow.Author.Tests.{ne_eqb}
use lib.Bits.{and_mask}
use mathlib.Core.Path.{refl, ◌∙◌}
use Rattle.cars.proofs.four_at.Goals as goal

pub returns-then-r-eq0 : goal.returns-then-r-eq0
returns-then-r-eq0 c = let r = c.args.r in rw (← and_mask r 2, c.if-r-eq0.true) c.four_from.ensures

pub returns-else-r-eq0 : goal.returns-else-r-eq0
returns-else-r-eq0 c = let r = c.args.r in rw (ne_eqb (r % 4) 0 (λ e. c.if-r-eq0.false (and_mask r 2 ∙ e))) refl
