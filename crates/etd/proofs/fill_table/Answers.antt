-- etd::fill_table meets its contract.
use mathlib.Core.Path.{refl, ap, ◌∙◌}
use mathlib.Core.List.{List, ◌++◌}
use native.Mathlib.Omega.{arith}
use lib.ListN.{get_or, drop, length-set}
use lib.Ieee.{Float, nan}
use Rattle.laws.specs.Folds.{ended}
use Rattle.laws.specs.Tables.{tab, tab_next}
use Rattle.etd.specs.Halts.{counts_at, stop_counts}
use Rattle.etd.proofs.fill_table.Goals as goal

pub loop-j-init : goal.loop-j-init
unfolding tab
loop-j-init c = (omega arith, refl, refl)

pub loop-j-preserved : goal.loop-j-preserved
unfolding stop_counts
loop-j-preserved c =
    let s = c in
    let a = s.args in
    let l = c.loop-j in (
      omega arith,
      simp length-set l.invariant.1,
      tab_next (stop_counts a.demand a.stops.now.points.now a.stops.now.count) a.out.now l.out l.j c.counts_at.result (omega arith) l.invariant.2
          (c.counts_at.ensures
          ∙ ap (λ (ps : List Float). counts_at ps a.stops.now.count (get_or a.stops.now.points.now l.j nan)) c.demand_places-places.ensures),
    )

pub returns : goal.returns
returns c =
    let a = c.args in
    ended (λ j. tab (stop_counts a.demand a.stops.now.points.now a.stops.now.count) j ++ drop j a.out.now) c.loop-j.invariant.0 c.loop-j-test.false
    c.loop-j.invariant.2
