-- replay_grades::whole_at meets its contract.
use Rattle.std.proofs.Common.{sym, ◌∙◌}
use Rattle.lists.specs.Heads.{head_cut, head_broken, head_fits}
use Rattle.replay_grades.specs.Cases.{head_at, broken, not_broken}
use Rattle.replay_grades.proofs.whole_at.Goals as goal

pub returns-then-left-lt15-clause-is : goal.returns-then-left-lt15-clause-is
returns-then-left-lt15-clause-is c = let a = c.args in head_cut 15 head_at broken a.s.now a.at c.if-left-lt15.true

pub returns-then-is_broken-clause-is : goal.returns-then-is_broken-clause-is
returns-then-is_broken-clause-is c =
    let a = c.args in
    head_broken 15 head_at broken a.s.now a.at c.head_at-h.ensures.is c.if-left-lt15.false (sym c.if-is_broken.true ∙ c.is_broken.ensures)

pub returns-else-is_broken-clause-is : goal.returns-else-is_broken-clause-is
returns-else-is_broken-clause-is c =
    let a = c.args in
    head_fits 15 head_at broken a.s.now a.at c.head_at-h.ensures.is c.if-left-lt15.false (sym c.if-is_broken.false ∙ c.is_broken.ensures)

pub returns-else-is_broken-clause-fits : goal.returns-else-is_broken-clause-fits
returns-else-is_broken-clause-fits c = not_broken c.head_at-h.result _ (sym c.is_broken.ensures ∙ c.if-is_broken.false)
