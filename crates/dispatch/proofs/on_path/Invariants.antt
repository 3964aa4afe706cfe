-- dispatch::on_path meets its contract.
use Prim.Native.Nat.{◌≤◌, ◌-◌}
use Rattle.dispatch.specs.Pairs.{on_path_in}
use mathlib.Core.Bool.{false}
use mathlib.Core.Path.{◌≡◌}
use Rattle.dispatch.proofs.on_path.Given as goal

abbrev pub invariant-loop-k : goal.invariant-loop-k
invariant-loop-k l = (l.k ≤ l.n) × (false ≡ on_path_in l.x l.p l.dests l.k)
