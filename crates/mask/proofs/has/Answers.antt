-- mask::has meets its contract.
use Prim.Native.Nat.{ℕ, ◌/◌, ◌-◌, ◌^◌}
use mathlib.Core.Path.{ap}
use lib.Bits.{and_mask}
use lib.Dec.{eqb}
use Rattle.mask.specs.Mask.{has}
use Rattle.mask.proofs.has.Goals as goal

pub returns : goal.returns
unfolding has
returns c = ap (λ (n : ℕ). eqb n 1) (and_mask (c.args.mask / 2 ^ (63 - c.args.j)) 1)
