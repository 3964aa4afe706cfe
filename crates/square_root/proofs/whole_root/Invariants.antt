-- square_root::whole_root meets its contract.
use Rattle.square_root.proofs.Turns.{Turn}
use Rattle.square_root.proofs.whole_root.Given as goal

abbrev pub invariant-loop : goal.invariant-loop
invariant-loop l = Turn l.d l.whole l.rest l.to_come l.counter
