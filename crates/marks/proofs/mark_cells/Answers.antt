-- marks::mark_cells meets its contract.
use Rattle.laws.specs.Tables.{tab, tab_next}
use Rattle.marks.specs.Marks.{mark_at}
use lib.ListN.{length-set}
use mathlib.Core.Path.{refl}
use native.Mathlib.Omega.{arith}
use Rattle.marks.proofs.mark_cells.Goals as goal

pub loop-k-init : goal.loop-k-init
unfolding tab
loop-k-init c = (omega arith, refl, refl)

pub loop-k-preserved : goal.loop-k-preserved
loop-k-preserved c =
    let l = c.loop-k in
    let a = c in (
      omega (arith, c.loop-k-test.true),
      simp length-set l.invariant.1,
      tab_next (mark_at a.args.cells.now) a.args.marks.now l.marks l.k c.mark.result
          (omega (arith, a.requires.0, c.loop-k-test.true)) l.invariant.2 c.mark.ensures,
    )
