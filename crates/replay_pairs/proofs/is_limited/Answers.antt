-- replay_pairs::is_limited meets its contract.
use lib.Dec.{eqb}
use mathlib.Core.Bool.{not}
use mathlib.Core.Path.{ap}
use Prim.Native.Nat.{ℕ}
use Rattle.replay_pairs.proofs.is_limited.Goals as goal

pub returns : goal.returns
returns c = ap (λ (x : ℕ). not (eqb x 65535)) c.limit.ensures
