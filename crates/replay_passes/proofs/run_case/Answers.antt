-- replay_passes::run_case meets its contract.
use Rattle.stored_passes.specs.Passes.{differs_at_lem}
use Rattle.replay_passes.proofs.run_case.Goals as goal

pub returns : goal.returns
returns c =
    let a = c.args in
    let h = rw (c.ones-left.ensures, c.sheet-sheet.ensures) at c.pass-answer.ensures in
    differs_at_lem a.s.now a.at a.p h c.answered.ensures.differ
