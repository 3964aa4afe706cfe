-- bench::name_stops meets its contract.
use Prim.Native.Nat.{ℕ}
use Rattle.laws.specs.Folds.{ended}
use Rattle.laws.specs.Tables.{tab, tab_next}
use Rattle.bench.specs.PendingStops.{listed_id}
use lib.ListN.{drop, length-set}
use mathlib.Core.List.{◌++◌}
use mathlib.Core.Path.{refl}
use native.Mathlib.Omega.{arith}
use Rattle.bench.proofs.name_stops.Goals as goal

pub loop-k-init : goal.loop-k-init
unfolding tab
loop-k-init c = (omega arith, refl, refl)

pub offset_bounds-listed-k : goal.offset_bounds-listed-k
offset_bounds-listed-k c = omega (arith, c.requires.1, c.loop-k-test.true)

pub bounds-listed-k : goal.bounds-listed-k
bounds-listed-k c = omega (arith, c.requires.1, c.loop-k-test.true)

pub offset_bounds-ids-j : goal.offset_bounds-ids-j
offset_bounds-ids-j c = omega (arith, c.requires.1, c.requires.2 c.loop-k.k c.loop-k-test.true, c.loop-k-test.true)

pub bounds-ids-j : goal.bounds-ids-j
bounds-ids-j c = omega (arith, c.requires.0, c.requires.1, c.requires.2 c.loop-k.k c.loop-k-test.true, c.loop-k-test.true)

pub offset_bounds-stops-k : goal.offset_bounds-stops-k
offset_bounds-stops-k c = omega (arith, c.requires.1, c.loop-k-test.true)

pub bounds-stops-k : goal.bounds-stops-k
bounds-stops-k c = omega (arith, c.requires.1, c.requires.3, c.loop-k-test.true, c.loop-k.invariant.1)

pub loop-k-preserved : goal.loop-k-preserved
unfolding listed_id
loop-k-preserved c =
    let l = c.loop-k in
    let a = c.args in
    let p = c.requires in (
      omega (arith, c.loop-k-test.true),
      simp length-set l.invariant.1,
      tab_next (listed_id a.listed a.ids.now) a.stops.now l.stops l.k _ (omega (arith, p.1, p.3, c.loop-k-test.true)) l.invariant.2 refl,
    )

pub shape_of-stops : goal.shape_of-stops
shape_of-stops c = c.loop-k.invariant.1

pub returns : goal.returns
returns c =
    let l = c.loop-k in
    let a = c.args in
    (l.invariant.1, ended (λ (x : ℕ). tab (listed_id a.listed a.ids.now) x ++ drop x a.stops.now) l.invariant.0 c.loop-k-test.false l.invariant.2)
