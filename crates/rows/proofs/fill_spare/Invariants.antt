-- rows::fill_spare meets its contract.
use Prim.Native.Nat.{◌-◌}
use Rattle.rows.specs.RowLaws.{Sparing}
use lib.ListN.{length}
use Rattle.rows.proofs.fill_spare.Given as goal

abbrev pub invariant-loop-k : goal.invariant-loop-k
invariant-loop-k l = Sparing l.m l.initial.out l.k l.out
