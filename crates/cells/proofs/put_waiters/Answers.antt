-- cells::put_waiters meets its contract.
use Rattle.rows.specs.Gathered.{put_at}
use lib.ListN.{length-set}
use mathlib.Core.Path.{refl}
use native.Mathlib.Omega.{arith}
use Rattle.cells.proofs.put_waiters.Goals as goal

pub bounds-sums-at-2 : goal.bounds-sums-at-2
bounds-sums-at-2 c = simp length-set (omega (arith, c.requires.0, c.requires.1))

pub bounds-sums-at-3 : goal.bounds-sums-at-3
bounds-sums-at-3 c = simp length-set (omega (arith, c.requires.0, c.requires.1))

pub bounds-sums-at-4 : goal.bounds-sums-at-4
bounds-sums-at-4 c = simp length-set (omega (arith, c.requires.0, c.requires.1))

pub bounds-sums-at-5 : goal.bounds-sums-at-5
bounds-sums-at-5 c = simp length-set (omega (arith, c.requires.0, c.requires.1))

pub returns : goal.returns
unfolding put_at
returns c = refl
