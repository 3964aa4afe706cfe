-- replay_ranks::count_differ meets its contract.
use mathlib.Core.Path.{refl}
use native.Mathlib.Omega.{arith}
use Rattle.laws.specs.Bools.{bit-lt}
use Rattle.laws.specs.Folds.{count, count-le, count_step, ended}
use Rattle.layout.specs.Records.{sheet_of}
use Rattle.replay_ranks.specs.Ranks.{differs, pair_at}
use Rattle.replay_ranks.proofs.count_differ.Goals as goal

pub loop-k-init : goal.loop-k-init
unfolding count
loop-k-init g c = (omega arith, refl)

pub overflow_add-d : goal.overflow_add-d
overflow_add-d g c =
    let a = c.args in
    let p = c.requires in
    let l = c.loop-k in
    omega (
      arith,
      c.from.ensures,
      bit-lt c.differs.result,
      l.invariant.1,
      count-le (λ i. differs (sheet_of a.b.now a.c) (pair_at a.s.now a.case i)) l.k,
      p.1.next,
      p.1.below,
    )

pub loop-k-preserved : goal.loop-k-preserved
loop-k-preserved g c =
    let a = c.args in
    let l = c.loop-k in (
      omega arith,
      rw (c.from.ensures, c.differs.ensures, c.pair_at-p.ensures)
          (count_step (λ i. differs (sheet_of a.b.now a.c) (pair_at a.s.now a.case i)) l.k l.invariant.1 refl),
    )

pub returns : goal.returns
returns g c =
    let a = c.args in
    let l = c.loop-k in
    ended (count (λ i. differs (sheet_of a.b.now a.c) (pair_at a.s.now a.case i))) l.invariant.0 c.loop-k-test.false l.invariant.1
