-- passprint::sweep_lines meets its contract.
use Rattle.layout.specs.Records.{sheet_of}
use Rattle.text.specs.Lines.{Putting}
use Rattle.passprint.specs.Lines.{row_sweep}
use Rattle.passprint.proofs.sweep_lines.Given as goal

abbrev pub invariant-loop-r : goal.invariant-loop-r
invariant-loop-r l = Putting 60 (row_sweep (sheet_of l.s l.c)) l.initial.out l.from l.r l.out l.at
