-- square_root::even meets its contract.
use native.Mathlib.Omega.{arith}
use Rattle.square_root.specs.Spread.{even_power, odd_power}
use Rattle.square_root.proofs.even.Goals as goal

pub returns-then-k-eq0 : goal.returns-then-k-eq0
returns-then-k-eq0 c = record { value = even_power _ _ c.if-k-eq0.true; least = omega arith; most = omega arith; half = omega arith }

pub returns-else-k-eq0 : goal.returns-else-k-eq0
returns-else-k-eq0 c = record { value = odd_power _ _ c.if-k-eq0.false; least = omega arith; most = omega arith; half = omega arith }
