-- etd::direction_bonus meets its contract.
use Rattle.etd.specs.Etd.{direction_bonus}
use Rattle.etd.proofs.direction_bonus.Goals as goal

pub returns-then-is_moving : goal.returns-then-is_moving
unfolding direction_bonus
returns-then-is_moving c = simp (← c.is_moving.ensures, c.if-is_moving.true) c.moving_bonus.ensures

pub returns-then-is_idle : goal.returns-then-is_idle
unfolding direction_bonus
returns-then-is_idle c = simp (← c.is_moving.ensures, c.if-is_moving.false, ← c.is_idle.ensures, c.if-is_idle.true)

pub returns-else-is_idle : goal.returns-else-is_idle
unfolding direction_bonus
returns-else-is_idle c = simp (← c.is_moving.ensures, c.if-is_moving.false, ← c.is_idle.ensures, c.if-is_idle.false)
