-- every_matrix::matrix meets its contract.
use mathlib.Core.Path.{refl}
use Rattle.every_matrix.specs.EveryMatrix.{matrix_of}
use Rattle.every_matrix.proofs.matrix.Goals as goal

pub returns : goal.returns
unfolding matrix_of
returns c = refl
