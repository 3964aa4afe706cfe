-- passprint::decision_lines meets its contract.
use Rattle.layout.specs.Records.{sheet_of, limit_of}
use Rattle.text.specs.Lines.{Putting}
use Rattle.passprint.specs.Lines.{row_decision}
use Rattle.passprint.proofs.decision_lines.Given as goal

abbrev pub invariant-loop-r : goal.invariant-loop-r
invariant-loop-r l = Putting 60 (row_decision (sheet_of l.s l.c) (limit_of l.s)) l.initial.out l.from l.r l.out l.at
