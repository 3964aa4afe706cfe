-- etd::demand_places meets its contract.
use mathlib.Core.Path.{refl, ap, ◌∙◌}
use mathlib.Core.List.{◌++◌}
use native.Mathlib.Omega.{arith}
use lib.ListN.{get_or, drop, replicate, length-set}
use lib.Ieee.{nan}
use Rattle.laws.specs.Folds.{ended}
use Rattle.laws.specs.Tables.{tab, tab_next}
use Rattle.fp.specs.Num.{infinity}
use Rattle.etd.specs.Halts.{place_of, demand_places}
use Rattle.etd.proofs.demand_places.Goals as goal
use Rattle.etd.proofs.demand_places.Invariants.{place}

pub loop-k-init : goal.loop-k-init
unfolding tab
loop-k-init c = (omega arith, refl, refl)

pub loop-k-preserved : goal.loop-k-preserved
loop-k-preserved c =
    let s = c in
    let l = c.loop-k in
    let h = c.has.ensures in (
      omega arith,
      simp length-set l.invariant.1,
      tab_next (place s.args.demand s.args.xs.now) (replicate 64 infinity) l.places l.k c.place_of.result (omega arith) l.invariant.2
          (c.place_of.ensures ∙ ap (λ b. place_of b (get_or s.args.xs.now l.k nan)) h),
    )

pub returns : goal.returns
unfolding demand_places
returns c =
    let a = c.args in
    ended (λ k. tab (place a.demand a.xs.now) k ++ drop k (replicate 64 infinity)) c.loop-k.invariant.0 c.loop-k-test.false c.loop-k.invariant.2
