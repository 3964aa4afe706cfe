-- coverage::Serving::line_room meets its contract.
use Rattle.coverage.specs.Coverage.{room_step, line_room}
use Rattle.laws.specs.Folds.{fold, fold_step, ended}
use mathlib.Core.Path.{refl}
use native.Mathlib.Omega.{arith}
use Rattle.coverage.proofs.Serving.line_room.Goals as goal

pub loop-i-init : goal.loop-i-init
unfolding line_room fold
loop-i-init c = (omega arith, refl)

pub loop-i-preserved : goal.loop-i-preserved
unfolding line_room
loop-i-preserved c =
    let a = c.args in
    let l = c.loop-i in
    (omega arith, fold_step (room_step a.self.now.targets.now a.self.now.lines.now a.self.now.rooms.now a.id a.line) a.a l.i l.invariant.1 c.add_if-b.ensures)

pub returns : goal.returns
returns c =
    let a = c.args in
    ended (λ k. line_room a.self.now.targets.now a.self.now.lines.now a.self.now.rooms.now k a.id a.a a.line) c.loop-i.invariant.0 c.loop-i-test.false c.loop-i.invariant.1
