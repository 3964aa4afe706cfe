-- lists::fill meets its contract.
use native.Mathlib.Omega.{arith}
use Rattle.laws.specs.Folds.{ended}
use Rattle.laws.specs.Tables.{tab, tab_next, tab_full}
use lib.ListN.{length-set}
use mathlib.Core.Path.{refl}
use Rattle.lists.proofs.fill.Goals as goal

pub loop-k-init : goal.loop-k-init
unfolding tab
loop-k-init g c = (omega arith, refl, λ f h. refl)

pub loop-k-preserved : goal.loop-k-preserved
loop-k-preserved g c =
    let l = c.loop-k in
    let a = c.args in (
      omega (arith, c.loop-k-test.true),
      simp length-set l.invariant.1,
      λ f h. tab_next f a.out.now l.out l.k c.read.result (omega (arith, c.loop-k-test.true, l.invariant.1)) (l.invariant.2 f h)
          (h l.k c.read.result (omega (arith, c.loop-k-test.true, l.invariant.1)) (rw c.number.ensures.0 at c.read.ensures)),
    )

pub returns : goal.returns
returns g c =
    let l = c.loop-k in
    let a = c.args in
    λ f h. ended (tab f) l.invariant.0 (omega (arith, c.loop-k-test.false, l.invariant.1))
    (tab_full f a.out.now l.out l.k (omega (arith, l.invariant.0, l.invariant.1, c.loop-k-test.false)) (l.invariant.2 f h))
