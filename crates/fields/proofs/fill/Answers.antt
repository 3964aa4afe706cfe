-- fields::fill meets its contract.
use Prim.Native.Nat.{ℕ}
use native.Mathlib.Omega.{arith}
use Rattle.fields.proofs.Offset.{offset_small}
use Rattle.laws.specs.Tables.{tab, tab_next}
use lib.ListN.{drop, length-set}
use mathlib.Core.List.{◌++◌}
use mathlib.Core.Path.{◌≡◌, refl, ap, ◌∙◌}
use Rattle.fields.proofs.fill.Goals as goal

pub loop-i-init : goal.loop-i-init
unfolding tab
loop-i-init g c = (omega arith, refl, λ f h. refl)

pub overflow_mul-len : goal.overflow_mul-len
overflow_mul-len g c = let a = c.args in omega (arith, offset_small a.len c.loop-i.i (omega arith) (omega arith))

pub overflow_add-base : goal.overflow_add-base
overflow_add-base g c = let a = c.args in omega (arith, offset_small a.len c.loop-i.i (omega arith) (omega arith))

pub loop-i-preserved : goal.loop-i-preserved
loop-i-preserved g c =
    let l = c.loop-i in
    let a = c.args in (
      omega arith,
      simp length-set l.invariant.1,
      λ f h. tab_next f a.out.now l.out l.i c.read.result (omega arith) (l.invariant.2 f h) (h l.i c.read.result c.loop-i-test.true c.read.ensures),
    )

pub returns : goal.returns
returns g c =
    let l = c.loop-i in
    let a = c.args in
    let e : l.i ≡ a.n = omega arith in
    (l.invariant.1, λ f h. l.invariant.2 f h ∙ ap (λ (m : ℕ). tab f m ++ drop m a.out.now) e)
