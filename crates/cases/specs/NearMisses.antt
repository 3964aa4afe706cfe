-- Near misses that P1 to P10 do not show, by computation: "Applying the limit before the line filter." "Dropping covered stops from ETD's count."
-- Sums in another order; "60 + 40 against 100 is covered", at its edge. Assumes nothing.
use Rattle.std.specs.Prelude.{None}
use Rattle.std.specs.Prelude.{◌≡◌, refl, true, false, List, [], ◌∷◌, ℕ, ◌+◌, eqb, length, get_or}
use Rattle.fp.specs.Num.{zero, natural}
use Rattle.components.specs.declared.Policy.{Policy}
use Rattle.components.specs.declared.Car.{Car}
use Rattle.components.specs.declared.Strategy.TheVariants as strategy
use Rattle.components.specs.declared.Traffic.TheVariants as traffic
use Rattle.components.specs.declared.Phase.{Phase}
use Rattle.components.specs.declared.Phase.TheVariants as phase
use Rattle.components.specs.declared.Direction.TheVariants as direction
use Rattle.components.specs.declared.Mode.TheVariants as mode
use Rattle.components.specs.Points.{point_of}
use Rattle.components.specs.Sheet.{Sheet}
use Rattle.dispatch.specs.Waits.{wait_ticks_sum}
use Rattle.assignment.specs.Pending.{serves, line_capacity, capacity_at, weight_at, line_served, covered_by_cars, closed_at, covered, idle, idle_bound, pending}
use Rattle.assignment.specs.Candidates.{keeps, precedes, kept, kept_of, line_serves_of, nearer_of, viable_of}
use Rattle.assignment.specs.Cells.{rank, cell}
use Rattle.cases.specs.Table.{everything}

-- wait and door weigh 1, at a tick rate of 1
unfoldable pub policy : Policy
policy =
    record {
      strategy = strategy.Etd;
      rate = natural 1;
      traffic = traffic.Idle;
      w0 = natural 1;
      w1 = zero;
      w2 = natural 1;
      w3 = zero;
      w4 = zero;
      w5 = zero;
    }

-- a car at 0 with speed 2 and a door cycle of 3 ticks
unfoldable pub car_of : ℕ → ℕ → Phase → ℕ → Car
car_of id line ph target =
    record {
      id = id;
      line = line;
      phase = ph;
      target = target;
      listed = eqb target 0;
      up = true;
      down = true;
      direction = direction.Up;
      mode = mode.Strict;
      position = point_of zero zero;
      speed = natural 2;
      capacity = natural 100;
      load = zero;
      bypassup = None;
      bypassdown = None;
      transition = 1;
      dwell = 1;
      restricted = 0;
      calls = 0;
    }

-- Stop 1 at 5, which car 8 serves, stop 2 at 10, stop 3 at 8 on another line; a hall call without a rider at each. Line 1 serves the first two.
-- Idle car 7 is on line 1. Riders with these wait ticks wait at stop 1.
unfoldable pub sheet_with : List ℕ → Sheet
sheet_with ticks =
    record {
      policy = policy;
      stops = 3;
      stop = λ j. record { id = j + 1; position = point_of (get_or (natural 5 ∷ natural 10 ∷ natural 8 ∷ []) j zero) zero };
      lines = 2;
      line = λ l. record { id = l + 1; serves = get_or (0xc000_0000_0000_0000 ∷ 0x2000_0000_0000_0000 ∷ []) l 0 };
      cars = 2;
      car = λ i. get_or (car_of 7 1 phase.Idle 0 ∷ car_of 8 1 phase.Loading 1 ∷ []) i (car_of 7 1 phase.Idle 0);
      aboards = 0;
      aboard = λ a. record { car = 0; destination = 0 };
      waits = length ticks;
      waiting = λ w. record { stop = 1; line = 0; destination = 2; weight = natural 50; wait = get_or ticks w 0 };
      demands = 3;
      demand = λ d. record { stop = d + 1; riding = 0; call = true };
      closures = 0;
      closed = λ x. 0;
    }

unfoldable pub sheet : Sheet
sheet = sheet_with []

pub record NearMisses : Type 0 where
  -- stop 1 is covered and so not pending; stop 2 is, and with the limit 1 it is kept, though stop 3 is nearer: that is on another line
  pub limit_after_line : (covered sheet 0 ≡ true) × (pending sheet 0 ≡ false) × (pending sheet 2 ≡ true) × (kept sheet 0 1 1 ≡ true)
      × (kept sheet 0 1 2 ≡ false)
  -- 5 of travel, less 1.5, and 3 for the doors at each of stops 1 and 3, which lie between
  pub covered_stops_count : cell sheet 1 0 1 ≡ 9_500_000
  -- sums are taken in record order: from the last rider, 2^53 + 1 + 1 is 2^53
  pub sum_in_record_order : wait_ticks_sum (sheet_with (1 ∷ 1 ∷ 9_007_199_254_740_992 ∷ [])) 0 ≡ natural 9_007_199_254_740_994
  -- two riders of 50 are covered by a car that takes 100, three aren't
  pub covered_to_the_last : (covered (sheet_with (0 ∷ 0 ∷ [])) 0 ≡ true) × (covered (sheet_with (0 ∷ 0 ∷ 0 ∷ [])) 0 ≡ false)

pub near_misses : NearMisses
unfolding everything serves line_capacity capacity_at weight_at line_served covered_by_cars closed_at covered idle idle_bound pending keeps precedes line_serves_of viable_of nearer_of
    kept_of rank cell policy car_of sheet_with sheet
near_misses =
    record {
      limit_after_line = (refl, refl, refl, refl, refl);
      covered_stops_count = refl;
      sum_in_record_order = refl;
      covered_to_the_last = (refl, refl);
    }
