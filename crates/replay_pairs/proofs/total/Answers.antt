-- replay_pairs::total meets its contract.
use mathlib.Core.Path.{sym, ap}
use Rattle.bench.specs.Answers.{total_of}
use Rattle.replay_pairs.proofs.total.Goals as goal

pub returns-in-Ok : goal.returns-in-Ok
returns-in-Ok c = sym (ap total_of c.in-Ok.is)
