-- replay_ranks::compare meets its contract.
use Rattle.laws.specs.Folds.{count-le}
use Rattle.layout.specs.Records.{sheet_of}
use Rattle.replay_ranks.specs.Ranks.{differs, pair_at}
use Rattle.replay_ranks.specs.TurnLaws.{by_refused, by_accepted}
use mathlib.Core.Path.{sym, ◌∙◌}
use native.Mathlib.Omega.{arith}
use Rattle.replay_ranks.proofs.compare.Goals as goal

pub count_differ-requires : goal.count_differ-requires
count_differ-requires g c = (sym c.read.ensures ∙ c.in-Ok.is, c.requires.1)

pub overflow_add-result-in-Ok-2 : goal.overflow_add-result-in-Ok-2
overflow_add-result-in-Ok-2 g c =
    let a = c.args in
    let p = c.requires in
    omega (
      arith,
      c.count_differ.ensures,
      count-le (λ k. differs (sheet_of a.b.now c.in-Ok.c) (pair_at a.s.now a.case k)) a.case.pairs,
      p.0.differ,
      p.1.below,
      p.2,
    )

pub returns-in-Err : goal.returns-in-Err
returns-in-Err g c =
    let a = c.args in
    by_refused a.s.now a.b.now a.case a.t _ _ (sym c.read.ensures ∙ c.in-Err.is) c.refused.ensures

pub returns-in-Ok : goal.returns-in-Ok
returns-in-Ok g c =
    let a = c.args in
    by_accepted a.s.now a.b.now a.case a.t _ c.count_differ.result (sym c.read.ensures ∙ c.in-Ok.is) c.count_differ.ensures
