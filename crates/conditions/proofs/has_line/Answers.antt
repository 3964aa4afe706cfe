-- conditions::has_line meets its contract.
use Rattle.conditions.proofs.has_line.Goals as goal

pub returns : goal.returns
returns c = rw (← c.lines_from.ensures) c.seen.ensures
