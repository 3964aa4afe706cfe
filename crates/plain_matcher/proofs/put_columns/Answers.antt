-- plain_matcher::put_columns meets its contract.
use native.Mathlib.Omega.{arith}
use mathlib.Core.Path.{refl}
use lib.ListN.{length-set}
use Rattle.laws.specs.Tables.{tab, tab_next}
use Rattle.plain_matcher.specs.Promise.{column_at}
use Rattle.plain_matcher.proofs.put_columns.Goals as goal

pub loop-k-init : goal.loop-k-init
unfolding tab
loop-k-init c = (omega arith, refl, refl)

pub loop-k-preserved : goal.loop-k-preserved
loop-k-preserved c =
    let l = c.loop-k in
    let a = c in (
      omega (arith, c.loop-k-test.true),
      simp length-set l.invariant.1,
      tab_next (column_at a.args.columns) a.args.places.now l.places l.k c.column_at.result
          (omega (arith, a.requires, c.loop-k-test.true)) l.invariant.2 c.column_at.ensures,
    )
