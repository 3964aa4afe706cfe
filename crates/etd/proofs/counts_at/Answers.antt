-- etd::counts_at meets its contract.
use Prim.Native.Nat.{ℕ, ◌<◌, ◌+◌, ◌*◌}
use mathlib.Core.Path.{◌≡◌, refl, ap, ap₂, ◌∙◌}
use mathlib.Core.Bool.{Bool, not}
use native.Mathlib.Omega.{arith}
use lib.ListN.{get_or}
use lib.Ieee.{nan, lt}
use Rattle.laws.specs.Bools.{bit, bit-lt}
use Rattle.laws.specs.Folds.{count, count_step, ended}
use Rattle.fp.specs.Num.{epsilon, plus, minus}
use Rattle.etd.specs.Halts.{short_of, up_to, counts_at}
use Rattle.etd.proofs.counts_at.Goals as goal

small : (b : Bool) (r : ℕ) → r ≡ bit b → r < 2
small b r e = omega (arith, bit-lt b)

pub loop-k-init : goal.loop-k-init
unfolding short_of up_to count
loop-k-init c = (omega arith, omega arith, omega arith, refl, refl)

pub overflow_add-short : goal.overflow_add-short
overflow_add-short c = let s = small (lt _ _) _ c.is_below-short.ensures in omega arith

pub overflow_add-reached : goal.overflow_add-reached
overflow_add-reached c = let s = small (not (lt _ _)) _ c.is_up_to-reached.ensures in omega arith

pub loop-k-preserved : goal.loop-k-preserved
unfolding short_of up_to
loop-k-preserved c =
    let l = c.loop-k in
    let a = c.args in
    let s = small (lt _ _) _ c.is_below-short.ensures in
    let t = small (not (lt _ _)) _ c.is_up_to-reached.ensures in (
      omega arith,
      omega arith,
      omega arith,
      ap (λ (z : ℕ). l.short + z) c.is_below-short.ensures
          ∙ count_step (λ k. lt (get_or a.places.now k nan) (minus a.x epsilon)) l.k l.invariant.3 refl,
      ap (λ (z : ℕ). l.reached + z) c.is_up_to-reached.ensures
          ∙ count_step (λ k. not (lt (plus a.x epsilon) (get_or a.places.now k nan))) l.k l.invariant.4 refl,
    )

pub returns : goal.returns
unfolding counts_at
returns c =
    let l = c.loop-k.invariant in
    let a = c.args in
    let e = ended (λ k. short_of a.places.now k a.x) l.0 c.loop-k-test.false l.3 in
    let f = ended (λ k. up_to a.places.now k a.x) l.0 c.loop-k-test.false l.4 in
    ap₂ (λ (a b : ℕ). a * 128 + b) e f
