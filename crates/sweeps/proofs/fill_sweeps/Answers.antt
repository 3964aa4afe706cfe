-- sweeps::fill_sweeps meets its contract.
use Prim.Native.Nat.{ℕ, ◌-◌}
use Rattle.components.specs.declared.Policy.{Policy}
use Rattle.laws.specs.Folds.{ended}
use Rattle.laws.specs.Tables.{tab, tab_next}
use Rattle.layout.specs.Records.{sheet_of}
use Rattle.ranking.specs.Ranking.{sweep_by}
use Rattle.sweeps.specs.Swept.{code_after, code_is}
use lib.ListN.{drop, length-set}
use mathlib.Core.List.{◌++◌}
use mathlib.Core.Path.{◌≡◌, refl, ap, ◌∙◌}
use native.Mathlib.Omega.{arith}
use Rattle.sweeps.proofs.fill_sweeps.Goals as goal

pub loop-i-init : goal.loop-i-init
unfolding tab
loop-i-init c = (omega arith, refl, refl)

pub swept_at-sweep-requires : goal.swept_at-sweep-requires
swept_at-sweep-requires c = let p = c.requires in (p.small.0.stops, omega (arith, p.small.0.stops, p.small.1))

pub bounds-out-i : goal.bounds-out-i
bounds-out-i c = let p = c.requires in omega (arith, p.small.0.cars, p.small.2, c.loop-i-test.true, c.loop-i.invariant.1)

pub loop-i-preserved : goal.loop-i-preserved
unfolding sheet_of
loop-i-preserved c =
    let l = c.loop-i in
    let a = c.args in
    let p = c.requires in
    let s = sheet_of a.s.now a.c in
    let t = c.loop-i-test.true in
    let swept : c.swept_at-sweep.result ≡ sweep_by c.policy_at-policy.result.strategy (s.car l.i) a.masks.pending a.masks.demand a.xs.now a.c.stops =
    c.swept_at-sweep.ensures a.c.across ∙ rw c.car_start-at.ensures refl in (
      omega (arith, t),
      simp length-set l.invariant.1,
      tab_next (code_after s) a.out.now l.out l.i c.code.result (omega (arith, p.small.0.cars, p.small.2, t)) l.invariant.2
          (code_is s a.xs.now a.masks p.positioned l.i (ap (λ (x : Policy). x.strategy) c.policy_at-policy.ensures) refl swept c.code.ensures),
    )

pub shape_of-out : goal.shape_of-out
shape_of-out c = c.loop-i.invariant.1

pub returns : goal.returns
unfolding sheet_of
returns c =
    let l = c.loop-i in
    let a = c.args in
    (l.invariant.1, ended (λ (x : ℕ). tab (code_after (sheet_of a.s.now a.c)) x ++ drop x a.out.now) l.invariant.0 c.loop-i-test.false l.invariant.2)
