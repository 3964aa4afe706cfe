-- replay_choices::differs meets its contract.
use native.Mathlib.Omega.{arith}
use Prim.Native.Nat.{ℕ, ◌+◌}
use borrow.Author.Rules.{rules}
use Rattle.std.proofs.Common.{refl, length-take-le}
use Rattle.std.proofs.lemmas.List.{length-replicate, take-replicate}
use Rattle.std.specs.Prelude.{replicate}
use Rattle.lists.specs.Lists.{number_in}
use Rattle.replay_choices.specs.Cases.{differ_by}
use Rattle.replay_choices.proofs.differs.Goals as goal

pub returns : goal.returns
returns c =
    let a = c.args in
    let f = c.requires.1 in
    let size = length-take-le a.h.cells (replicate 2048 0) (omega (arith, f.cells, length-replicate {A = ℕ} 2048 0)) in
    differ_by a.s.now a.at a.h size (c.fill.ensures (number_in a.s.now (a.at + 6) a.h.width) (λ k x l e. search rules)) refl
    (take-replicate a.h.places 64 99 f.places) c.assign.ensures.0 c.assign.ensures.1 c.answer_of-got.ensures c.is_apart.ensures
