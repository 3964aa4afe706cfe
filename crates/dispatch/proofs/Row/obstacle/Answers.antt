-- dispatch::Row::obstacle meets its contract.
use Rattle.dispatch.specs.Pairs.{obstacle_by}
use Rattle.dispatch.proofs.Row.obstacle.Goals as goal

pub returns-then-here : goal.returns-then-here
unfolding obstacle_by
returns-then-here c = simp c.if-here.true

pub returns-then-bypass_in_current_direction : goal.returns-then-bypass_in_current_direction
unfolding obstacle_by
returns-then-bypass_in_current_direction c = simp (c.if-here.false, ← c.bypass_in_current_direction.ensures, c.if-bypass_in_current_direction.true)

pub returns-then-remaining_capacity : goal.returns-then-remaining_capacity
unfolding obstacle_by
returns-then-remaining_capacity c = simp (c.if-here.false, ← c.bypass_in_current_direction.ensures, c.if-bypass_in_current_direction.false, ← c.remaining_capacity.ensures, c.if-remaining_capacity.true)

pub returns-then-path_allows : goal.returns-then-path_allows
unfolding obstacle_by
returns-then-path_allows c = simp (c.if-here.false, ← c.bypass_in_current_direction.ensures, c.if-bypass_in_current_direction.false, ← c.remaining_capacity.ensures, c.if-remaining_capacity.false, ← c.servable.ensures, c.if-not-servable.false, ← c.path_allows.ensures, c.if-path_allows.true)

pub returns-else-path_allows : goal.returns-else-path_allows
unfolding obstacle_by
returns-else-path_allows c = simp (c.if-here.false, ← c.bypass_in_current_direction.ensures, c.if-bypass_in_current_direction.false, ← c.remaining_capacity.ensures, c.if-remaining_capacity.false, ← c.servable.ensures, c.if-not-servable.false, ← c.path_allows.ensures, c.if-path_allows.false)

pub returns-then-not-servable : goal.returns-then-not-servable
unfolding obstacle_by
returns-then-not-servable c = simp (c.if-here.false, ← c.bypass_in_current_direction.ensures, c.if-bypass_in_current_direction.false, ← c.remaining_capacity.ensures, c.if-remaining_capacity.false, ← c.servable.ensures, c.if-not-servable.true)
