-- scan::strict_demand_ahead meets its contract.
use Prim.Native.Nat.{◌-◌}
use Rattle.laws.specs.Folds.{any, any_at, any_no, ended}
use Rattle.scan.specs.Scan.{demand_ahead}
use mathlib.Core.Bool.{false}
use mathlib.Core.Path.{sym, ◌∙◌, refl}
use native.Mathlib.Omega.{arith}
use Rattle.scan.proofs.strict_demand_ahead.Goals as goal

pub loop-j-init : goal.loop-j-init
unfolding demand_ahead any
loop-j-init c = (omega arith, refl)

pub returns-then-demand_ahead_at : goal.returns-then-demand_ahead_at
unfolding demand_ahead
returns-then-demand_ahead_at c = sym (any_at _ _ _ c.loop-j-test.true (sym c.demand_ahead_at.ensures ∙ c.if-demand_ahead_at.true))

pub loop-j-preserved : goal.loop-j-preserved
unfolding demand_ahead
loop-j-preserved c = (omega arith, any_no _ _ (sym c.demand_ahead_at.ensures ∙ c.if-demand_ahead_at.false) c.loop-j.invariant.1)

pub returns : goal.returns
returns c = ended (demand_ahead _ _ _ _) c.loop-j.invariant.0 c.loop-j-test.false c.loop-j.invariant.1
