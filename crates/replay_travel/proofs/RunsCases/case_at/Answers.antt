-- A case of replay_travel meets its contract.
use Rattle.std.proofs.Common.{◌-◌, length, ap, lt-ltb, le-ltb}
use Rattle.std.specs.Prelude.{Some}
use Rattle.replay_travel.proofs.RunsCases.case_at.Goals as goal

pub returns-then-left-lt49-clause-is : goal.returns-then-left-lt49-clause-is
returns-then-left-lt49-clause-is g c = let a = c.args in rw (lt-ltb (length a.s.now - a.at) 49 c.if-left-lt49.true)

pub returns-clause-is : goal.returns-clause-is
returns-clause-is g c = let a = c.args in rw (le-ltb (length a.s.now - a.at) 49 c.if-left-lt49.false) (ap Some c.compare.ensures)
