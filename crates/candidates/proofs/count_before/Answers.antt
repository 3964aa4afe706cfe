-- candidates::count_before meets its contract.
use Prim.Native.Nat.{ℕ, ◌+◌}
use Rattle.candidates.specs.Cut.{comes_before}
use Rattle.laws.specs.Bools.{bit-lt}
use Rattle.laws.specs.Folds.{count, count_step, count-le, ended}
use Rattle.candidates.specs.CutLaws.{count_reach}
use mathlib.Core.Path.{refl, ap, ◌∙◌}
use native.Mathlib.Omega.{arith}
use Rattle.candidates.proofs.count_before.Goals as goal

pub loop-k-init : goal.loop-k-init
unfolding count
loop-k-init c = (omega arith, refl)

pub overflow_add-n : goal.overflow_add-n
overflow_add-n c =
    let a = c.args in
    let l = c.loop-k in
    omega (
      arith,
      c.one_before-n.ensures,
      bit-lt (comes_before a.viable a.ds.now a.j l.k),
      count-le (comes_before a.viable a.ds.now a.j) l.k,
    )

pub loop-k-preserved : goal.loop-k-preserved
loop-k-preserved c =
    let a = c.args in
    let l = c.loop-k in (
      omega arith,
      ap (λ (x : ℕ). l.n + x) c.one_before-n.ensures ∙ count_step (comes_before a.viable a.ds.now a.j) l.k l.invariant.1 refl,
    )

pub returns : goal.returns
returns c =
    let s = c in
    let a = s.args in
    ended (count (comes_before a.viable a.ds.now a.j)) c.loop-k.invariant.0 c.loop-k-test.false c.loop-k.invariant.1
    ∙ count_reach a.viable a.ds.now a.j a.e s.requires.2
