-- conditions::seen meets its contract.
use Prim.Native.Nat.{◌≤◌, ◌-◌}
use Rattle.layout.specs.Refusals.{seen}
use mathlib.Core.Bool.{false}
use mathlib.Core.Path.{◌≡◌}
use Rattle.conditions.proofs.seen.Given as goal

abbrev pub invariant-loop-i : goal.invariant-loop-i
invariant-loop-i l = (l.i ≤ l.n) × (false ≡ seen l.s l.base l.len l.i l.id)
