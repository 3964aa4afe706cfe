-- replay_pairs::of_mask meets its contract.
use Rattle.replay_pairs.specs.Added.{bar_small}
use native.Mathlib.Omega.{arith}
use Rattle.replay_pairs.proofs.of_mask.Goals as goal

pub overflow_add-from-2 : goal.overflow_add-from-2
overflow_add-from-2 c =
    let a = c.args in
    let p = c.requires in
    omega (arith, bar_small a.c a.i p.0 p.1, c.car_start.ensures)
