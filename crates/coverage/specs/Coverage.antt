-- Coverage over what the code holds: columns of the car, line and waiting records. A car that serves no stop has 0 for its target, which no stop
-- has for its id. Assumes nothing.
use Rattle.std.specs.Prelude.{ℕ, Bool, not, ◌&&◌, ◌||◌, cond, List, eqb, get_or, Float}
use Rattle.std.specs.Float.{nan}
use Rattle.std.specs.Float.Ieee.{le}
use Rattle.laws.specs.Folds.{fold, any, every}
use Rattle.fp.specs.Num.{zero, plus}
use Rattle.fields.specs.Named.{contains}

-- car i serves the stop with this id
abbrev pub serves_by : List ℕ → ℕ → ℕ → Bool
serves_by targets id i = eqb (get_or targets i 0) id

-- one car's part of a line's room
abbrev pub room_step : List ℕ → List ℕ → List Float → ℕ → ℕ → Float → ℕ → Float
room_step targets lines rooms id line b i = cond (eqb (get_or lines i 0) line && serves_by targets id i) (plus b (get_or rooms i nan)) b

unfoldable pub line_room : List ℕ → List ℕ → List Float → ℕ → ℕ → Float → ℕ → Float
line_room targets lines rooms n id a line = fold (room_step targets lines rooms id line) a n

-- one line's part of the capacity
abbrev pub capacity_step : List ℕ → List ℕ → List Float → ℕ → List ℕ → ℕ → Float → ℕ → Float
capacity_step targets lines rooms n ids id a l = line_room targets lines rooms n id a (get_or ids l 0)

unfoldable pub capacity_by : List ℕ → List ℕ → List Float → ℕ → List ℕ → ℕ → ℕ → Float
capacity_by targets lines rooms n ids nl id = fold (capacity_step targets lines rooms n ids id) zero nl

-- one waiter's part of the weight
abbrev pub weight_step : List ℕ → List Float → ℕ → Float → ℕ → Float
weight_step stops weights id a w = cond (eqb (get_or stops w 0) id) (plus a (get_or weights w nan)) a

unfoldable pub weight_by : List ℕ → List Float → ℕ → ℕ → Float
weight_by stops weights n id = fold (weight_step stops weights id) zero n

abbrev pub on_served_line : List ℕ → List ℕ → ℕ → ℕ → ℕ → Bool
on_served_line targets lines id line i = serves_by targets id i && eqb (get_or lines i 0) line

unfoldable pub line_served_by : List ℕ → List ℕ → ℕ → ℕ → ℕ → Bool
line_served_by targets lines n id line = eqb line 0 || any (on_served_line targets lines id line) n

abbrev pub waiter_served : List ℕ → List ℕ → ℕ → List ℕ → List ℕ → ℕ → ℕ → Bool
waiter_served targets lines n stops required id w = not (eqb (get_or stops w 0) id) || line_served_by targets lines n id (get_or required w 0)

unfoldable pub lines_served : List ℕ → List ℕ → ℕ → List ℕ → List ℕ → ℕ → ℕ → Bool
lines_served targets lines n stops required nw id = every (waiter_served targets lines n stops required id) nw

-- covered, of the stop with this id
unfoldable pub covered_by : List ℕ → List ℕ → List Float → ℕ → List ℕ → ℕ → List ℕ → List ℕ → List Float → ℕ → ℕ → Bool
covered_by targets lines rooms n ids nl stops required weights nw id =
    contains targets n id
    && (lines_served targets lines n stops required nw id
    && le (weight_by stops weights nw id) (capacity_by targets lines rooms n ids nl id))
