-- dispatch::on_path meets its contract.
use Rattle.dispatch.specs.Pairs.{on_path_in}
use Rattle.laws.specs.Folds.{any, any_at, any_no, ended}
use mathlib.Core.Path.{sym, ◌∙◌, refl}
use native.Mathlib.Omega.{arith}
use Rattle.dispatch.proofs.on_path.Goals as goal

pub loop-k-init : goal.loop-k-init
unfolding on_path_in any
loop-k-init c = (omega arith, refl)

pub returns-then-on_path_to : goal.returns-then-on_path_to
unfolding on_path_in
returns-then-on_path_to c = sym (any_at _ _ _ c.loop-k-test.true (sym c.on_path_to.ensures ∙ c.if-on_path_to.true))

pub loop-k-preserved : goal.loop-k-preserved
unfolding on_path_in
loop-k-preserved c = (omega arith, any_no _ _ (sym c.on_path_to.ensures ∙ c.if-on_path_to.false) c.loop-k.invariant.1)

pub returns : goal.returns
returns c = ended (on_path_in _ _ _) c.loop-k.invariant.0 c.loop-k-test.false c.loop-k.invariant.1
