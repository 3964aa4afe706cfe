-- pending::line_stops meets its contract.
use Prim.Native.Nat.{◌≤◌, ◌-◌}
use Rattle.layout.specs.Records.{sheet_of}
use Rattle.mask.specs.Mask.{built}
use Rattle.pending.specs.Masks.{line_stop}
use mathlib.Core.Path.{◌≡◌}
use Rattle.pending.proofs.line_stops.Given as goal

abbrev pub invariant-loop-l : goal.invariant-loop-l
invariant-loop-l l = (l.l ≤ l.c.lines) × (l.m ≡ built (line_stop (sheet_of l.s l.c) l.every l.id l.l) 64)
