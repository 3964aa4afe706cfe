-- fields::named_stops meets its contract.
use Prim.Native.Nat.{◌≤◌}
use Rattle.fields.specs.Named.{named}
use Rattle.mask.specs.Mask.{built}
use mathlib.Core.Path.{◌≡◌}
use Rattle.fields.proofs.named_stops.Given as goal

abbrev pub invariant-loop-j : goal.invariant-loop-j
invariant-loop-j l = (l.j ≤ 64) × (l.m ≡ built (named l.ids l.k l.names l.n) l.j)
