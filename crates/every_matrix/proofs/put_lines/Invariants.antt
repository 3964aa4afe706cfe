-- every_matrix::put_lines meets its contract.
use Rattle.text.specs.Lines.{Putting}
use Rattle.every_matrix.specs.EveryMatrix.{line_of}
use Rattle.every_matrix.proofs.put_lines.Given as goal

abbrev pub invariant-loop-k : goal.invariant-loop-k
invariant-loop-k l = Putting 13 line_of l.initial.out 0 l.k l.out l.at
