-- stored_passes::entries_met meets its contract.
use Rattle.stored_passes.specs.Cases.{differing_none, differing_next, apart_le}
use Rattle.stored_passes.specs.Tallies.{tallied_none, tallied_next}
use native.Mathlib.Omega.{arith}
use Rattle.stored_passes.proofs.entries_met.Goals as goal

pub loop-k-init : goal.loop-k-init
loop-k-init g c =
    let a = c.args in
    ((λ xs w. (tallied_none a.s.now a.at a.width a.entry xs a.t, omega (arith, differing_none a.s.now a.at a.width xs))), omega arith)

pub loop-k-preserved : goal.loop-k-preserved
loop-k-preserved g c =
    let a = c.args in
    let l = c.loop-k in
    let m = c.met-d.ensures in
    let y = c.number.ensures.0 in (
      λ xs w.
          let x = w l.k c.index-ours-k.result c.into.result c.loop-k-test.true c.index-ours-k.is c.into.ensures in
          let h = l.invariant.0 xs w in (
            tallied_next a.s.now a.at a.width a.entry xs a.t l.k x y h.0 m.0,
            differing_next a.s.now a.at a.width xs l.k a.t.differ x y h.1 m.1,
          ),
      omega (arith, l.invariant.1, m.1, apart_le c.into.result c.number.result),
    )
