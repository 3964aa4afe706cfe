-- candidates::fill_distances meets its contract.
use Prim.Native.Nat.{ℕ}
use Rattle.components.specs.Points.{distance}
use Rattle.manifest.specs.Stops.{point_in}
use Rattle.laws.specs.Tables.{tab, tab_next, tab_full}
use lib.Ieee.{Float}
use lib.ListN.{drop, length-set}
use mathlib.Core.List.{◌++◌}
use mathlib.Core.Path.{◌≡◌, refl, sym, ap, ◌∙◌}
use native.Mathlib.Omega.{arith}
use Rattle.candidates.proofs.fill_distances.Goals as goal

pub loop-j-init : goal.loop-j-init
unfolding tab
loop-j-init c = (omega arith, c.requires.1, refl)

pub loop-j-preserved : goal.loop-j-preserved
loop-j-preserved c =
    let l = c.loop-j in
    let a = c.args in (
      omega arith,
      simp length-set l.invariant.1,
      tab_next (λ k. distance a.x (point_in a.xs.now k)) a.ds.now l.ds l.j c.distance.result (omega arith) l.invariant.2 (c.distance.ensures ∙ ap (distance a.x) c.point.ensures),
    )

pub returns : goal.returns
returns c =
    let l = c.loop-j in
    let a = c.args in
    let e : l.j ≡ 64 = omega arith in
    let f : ℕ → Float = λ k. distance a.x (point_in a.xs.now k) in
    tab_full f a.ds.now l.ds 64 (sym c.requires.1) (l.invariant.2 ∙ ap (λ (n : ℕ). tab f n ++ drop n a.ds.now) e)
