-- put::bits_here meets its contract.
use native.Mathlib.Omega.{arith}
use Rattle.put.proofs.bits_here.Goals as goal

pub returns-then-room-w : goal.returns-then-room-w
returns-then-room-w c = (omega arith, omega arith, λ l. omega arith)

pub returns-else-room-w : goal.returns-else-room-w
returns-else-room-w c = (omega arith, omega arith, λ l. omega arith)
