-- decisions::write meets its contract.
use Rattle.decisions.specs.Decisions.{told_at, told_next}
use Rattle.laws.specs.Tables.{tab, tab_next}
use lib.ListN.{length-set}
use mathlib.Core.Path.{refl}
use native.Mathlib.Omega.{arith}
use Rattle.decisions.proofs.write.Goals as goal

pub loop-r-init : goal.loop-r-init
unfolding tab
loop-r-init c = (omega arith, refl, refl)

pub loop-r-preserved : goal.loop-r-preserved
loop-r-preserved c =
    let l = c.loop-r in
    let a = c.args in
    let p = c.requires.0 in (
      omega (arith, c.loop-r-test.true),
      simp length-set l.invariant.1,
      tab_next (told_at a.m.cells.now a.m.columns a.places.now a.stops a.ids.now) a.decisions.now l.decisions l.r c.decision.result (omega (arith, p.few, p.room, c.loop-r-test.true)) l.invariant.2
          (told_next a.m.cells.now a.m.columns a.places.now a.stops a.ids.now l.r c.at-cell.ensures c.decision.ensures),
    )
