-- etd::fill_halts meets its contract.
use mathlib.Core.Path.{refl, ◌∙◌}
use mathlib.Core.List.{◌++◌}
use native.Mathlib.Omega.{arith}
use lib.ListN.{drop, length-set}
use Rattle.laws.specs.Folds.{ended}
use Rattle.laws.specs.Tables.{tab, tab_next}
use Rattle.etd.specs.Pairs.{halts_at}
use Rattle.etd.proofs.Halts.{halts_at_lem}
use Rattle.etd.proofs.fill_halts.Goals as goal

pub loop-j-init : goal.loop-j-init
unfolding tab
loop-j-init c = (omega arith, refl, refl)

pub loop-j-preserved : goal.loop-j-preserved
loop-j-preserved c =
    let s = c in
    let a = s.args in
    let l = c.loop-j in (
      omega arith,
      simp length-set l.invariant.1,
      tab_next (halts_at a.x a.demand a.stops.now.points.now a.stops.now.count) a.out.now l.out l.j c.halts_between.result (omega arith) l.invariant.2
          (c.halts_between.ensures
          ∙ halts_at_lem a.demand a.stops.now.points.now a.stops.now.count s.requires.0 a.x a.table.now s.requires.3
          c.demand_places-places.ensures c.counts_at-car.ensures
          l.j (omega arith)),
    )

pub returns : goal.returns
returns c =
    let a = c.args in
    ended (λ j. tab (halts_at a.x a.demand a.stops.now.points.now a.stops.now.count) j ++ drop j a.out.now) c.loop-j.invariant.0 c.loop-j-test.false
    c.loop-j.invariant.2
