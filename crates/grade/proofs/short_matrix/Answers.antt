-- grade::short_matrix meets its contract.
use mathlib.Core.Path.{refl}
use Rattle.grade.specs.Graded.{short_matrix}
use Rattle.grade.proofs.short_matrix.Goals as goal

pub returns : goal.returns
unfolding short_matrix
returns c = refl
