-- RSR's cost and rank from what is held. Assumes nothing.
use Rattle.std.specs.Prelude.{None, Option}
use Rattle.components.specs.declared.Point.{Point}
use Rattle.std.specs.Prelude.{ℕ, Bool, true, not, ◌&&◌, cond, List, Float}
use Rattle.std.specs.Float.Ieee.{le}
use Rattle.fp.specs.Num.{zero}
use Rattle.mask.specs.Mask.{has}
use Rattle.components.specs.declared.Car.{Car}
use Rattle.components.specs.declared.Policy.{Policy}
use Rattle.manifest.specs.declared.Waiters.{Waiters}
use Rattle.manifest.specs.Stops.{point_in}
use Rattle.riders.specs.declared.Riders.{Riders}
use Rattle.dispatch.specs.Pairs.{useful_by}
use Rattle.dispatch.specs.FiniteRank.{finite_rank}
use Rattle.rsr.specs.Rsr.{rsr_cost_of}

-- rank, of stop j
unfoldable pub rank_by : Policy → Car → Option Point → Riders → List Float → Waiters → List Float → ℕ → Option Float
rank_by y c goal r dests w xs j =
    cond (useful_by c goal r dests w (has r.exits j) (point_in xs j).along true && not (le c.speed zero))
    (finite_rank (rsr_cost_of y c goal w.waitsum (has c.calls j) (point_in xs j)))
    None
