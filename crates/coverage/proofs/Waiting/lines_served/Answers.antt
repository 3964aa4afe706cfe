-- coverage::Waiting::lines_served meets its contract.
use Prim.Native.Nat.{ℕ, ◌<◌}
use Rattle.coverage.specs.Coverage.{waiter_served, lines_served}
use Rattle.laws.specs.Bools.{which}
use Rattle.laws.specs.Folds.{every, every_at, every_step, ended}
use mathlib.Core.Bool.{Bool, true, false, true≢false}
use mathlib.Core.Logic.{⊎_elim}
use lib.ListN.{length}
use mathlib.Core.Path.{◌≡◌, refl, sym, ◌∙◌}
use native.Mathlib.Omega.{arith}
use Rattle.coverage.proofs.Waiting.lines_served.Goals as goal

-- one index that fails is enough
fails : (p : ℕ → Bool) (n k : ℕ) → k < n → p k ≡ false → false ≡ every p n
fails p n k l e =
    ⊎_elim (λ (t : every p n ≡ true). absurd (true≢false (sym (every_at p n k t l) ∙ e))) (λ (t : every p n ≡ false). sym t) (which (every p n))

pub loop-w-init : goal.loop-w-init
unfolding lines_served every
loop-w-init c = (omega arith, refl)

pub returns-then-not-waiter_served : goal.returns-then-not-waiter_served
unfolding lines_served
returns-then-not-waiter_served c =
    let a = c.args in
    fails (waiter_served a.cars.now.targets.now a.cars.now.lines.now (length a.cars.now.targets.now) a.self.now.stops.now a.self.now.required.now a.id) (length a.self.now.stops.now) c.loop-w.w c.loop-w-test.true
    (sym c.waiter_served.ensures ∙ c.if-not-waiter_served.true)

pub loop-w-preserved : goal.loop-w-preserved
unfolding lines_served
loop-w-preserved c =
    let a = c.args in (
      omega arith,
      every_step (waiter_served a.cars.now.targets.now a.cars.now.lines.now (length a.cars.now.targets.now) a.self.now.stops.now a.self.now.required.now a.id) c.loop-w.w c.loop-w.invariant.1
          (sym (sym c.waiter_served.ensures ∙ c.if-not-waiter_served.false)),
    )

pub returns : goal.returns
returns c =
    let a = c.args in
    ended (λ k. lines_served a.cars.now.targets.now a.cars.now.lines.now (length a.cars.now.targets.now) a.self.now.stops.now a.self.now.required.now k a.id) c.loop-w.invariant.0 c.loop-w-test.false c.loop-w.invariant.1
