-- cells::clear_waiters meets its contract.
use Prim.Native.Nat.{◌-◌}
use Rattle.rows.specs.Gathered.{cleared_start, cleared_next}
use mathlib.Core.Path.{◌≡◌, ◌∙◌}
use native.Mathlib.Omega.{arith}
use Rattle.cells.proofs.clear_waiters.Goals as goal

pub loop-j-init : goal.loop-j-init
loop-j-init c = (omega arith, cleared_start c.args.sums.now)

pub put_waiters-requires : goal.put_waiters-requires
put_waiters-requires c = (omega (arith, c.requires.0, c.loop-j-test.true), c.loop-j.invariant.1.size ∙ c.requires.1)

pub loop-j-preserved : goal.loop-j-preserved
loop-j-preserved c =
    let l = c.loop-j in
    (omega arith, rw c.put_waiters.ensures (cleared_next l.j c.args.sums.now l.sums (omega (arith, c.requires.0, c.loop-j-test.true)) c.requires.1 c.none.ensures l.invariant.1))

pub shape_of-sums : goal.shape_of-sums
shape_of-sums c = c.loop-j.invariant.1.size

pub returns : goal.returns
returns c =
    let l = c.loop-j in
    let e : l.j ≡ c.args.n = omega (arith, l.invariant.0, c.loop-j-test.false) in
    rw e at l.invariant.1
