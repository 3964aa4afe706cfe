-- cells::list_cars meets its contract.
use Prim.Native.Nat.{ℕ}
use Rattle.mask.specs.Ones.{ones_of}
use mathlib.Core.Path.{ap, ◌∙◌}
use Rattle.cells.proofs.list_cars.Goals as goal

pub returns : goal.returns
returns c = c.list_ones.ensures ∙ ap (λ (m : ℕ). ones_of m) c.idle_cars.ensures
