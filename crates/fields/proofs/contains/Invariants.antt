-- fields::contains meets its contract.
use Prim.Native.Nat.{◌≤◌}
use Rattle.fields.specs.Named.{contains}
use mathlib.Core.Path.{◌≡◌}
use Rattle.fields.proofs.contains.Given as goal

abbrev pub invariant-loop-x : goal.invariant-loop-x
invariant-loop-x l = (l.x-index ≤ l.n) × (l.found ≡ contains l.ids l.x-index l.id)
