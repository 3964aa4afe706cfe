-- What closed landings change. Request F-2: "A new kind 8 names a stop (32 bits) that counts as covered whoever waits there." Assumes nothing.
use Rattle.std.specs.Prelude.{ℕ, ◌+◌, Bool, not, ◌&&◌, ◌||◌, cond, eqb}
use Rattle.components.specs.Sheet.{Sheet}
use Rattle.manifest.specs.Manifest.{demand_stop}
use Rattle.assignment.specs.Pending.{covered_by_cars, idle_bound}

-- the rule of a bench that knows of no closed landing
unfoldable pub pending_open : Sheet → ℕ → Bool
pending_open s j = demand_stop s j && (idle_bound s j || not (covered_by_cars s j))

-- the sheet with one landing more that is closed
unfoldable pub with_closed : Sheet → ℕ → Sheet
with_closed s id =
    record {
      policy = s.policy;
      stops = s.stops;
      stop = s.stop;
      lines = s.lines;
      line = s.line;
      cars = s.cars;
      car = s.car;
      aboards = s.aboards;
      aboard = s.aboard;
      waits = s.waits;
      waiting = s.waiting;
      demands = s.demands;
      demand = s.demand;
      closures = s.closures + 1;
      closed = λ x. cond (eqb x s.closures) id (s.closed x);
    }
