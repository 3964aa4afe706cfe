-- pair_is_useful from what is held of the stop (its waiters), of the car (its riders) and of the two together. Assumes nothing.
use Rattle.std.specs.Prelude.{Option, None, Some}
use Rattle.components.specs.declared.Point.{Point}
use Rattle.std.specs.Prelude.{ℕ, Bool, not, ◌&&◌, ◌||◌, cond, List, ◌≡◌, eqb, get_or, Float}
use Rattle.std.proofs.Common.{sym, ap, ◌∙◌}
use Rattle.std.specs.Float.{nan}
use Rattle.std.specs.Float.Ieee.{lt, le}
use Rattle.laws.specs.Folds.{any}
use Rattle.fp.specs.Num.{zero}
use Rattle.components.specs.declared.Car.{Car}
use Rattle.components.specs.Cars.{remaining}
use Rattle.manifest.specs.declared.Waiters.{Waiters}
use Rattle.riders.specs.declared.Riders.{Riders}
use Rattle.dispatch.specs.declared.Obstacle.{Obstacle}
use Rattle.dispatch.specs.declared.Obstacle.TheVariants.{Bypassed, Full, NobodyBoards, OffPath}
use Rattle.dispatch.specs.Useful.{bypass, on_path, by_tests}

-- some waiter can board: the least weight of a class that the lamps let in is at most what the car still takes
unfoldable pub can_board : Waiters → Car → Bool
can_board w c =
    not (lt (remaining c) w.level) || ((c.up && not (lt (remaining c) w.up)) || (c.down && not (lt (remaining c) w.down)))

-- someone who waits can board; with nobody waiting, a hall call has no rider
unfoldable pub servable_by : Waiters → Car → Bool
servable_by w c = cond w.someone (can_board w c) w.call

-- the stop at p is on the path of a car at x to one of the first coordinates held
unfoldable pub on_path_in : Float → Float → List Float → ℕ → Bool
on_path_in x p dests n = any (λ k. on_path x p (get_or dests k nan)) n

-- the aboard-path test, where it is asked for
unfoldable pub path_allows : Car → Riders → List Float → Float → Bool → Bool
path_allows c r dests p path = not path || (not r.routed || on_path_in c.position.along p dests r.count)

-- pair_is_useful: here says that a rider of the car is bound for the stop, which stands at p
unfoldable pub useful_by : Car → Option Point → Riders → List Float → Waiters → Bool → Float → Bool → Bool
useful_by c goal r dests w here p path =
    here || (not (bypass c goal p) && (not (le (remaining c) zero) && (servable_by w c && path_allows c r dests p path)))

-- what stands against it, by the first test that fails
unfoldable pub obstacle_by : Car → Option Point → Riders → List Float → Waiters → Bool → Float → Bool → ℕ
obstacle_by c goal r dests w here p path =
    cond here 0 (cond (bypass c goal p) 1 (cond (le (remaining c) zero) 2 (cond (servable_by w c) (cond (path_allows c r dests p path) 0 4) 3)))

-- the number of what stands against it, 0 for nothing
abbrev pub obstacle_number : Option Obstacle → ℕ
obstacle_number None = 0
obstacle_number (Some Bypassed) = 1
obstacle_number (Some Full) = 2
obstacle_number (Some NobodyBoards) = 3
obstacle_number (Some OffPath) = 4

pub useful_by_lem : (c : Car) (goal : Option Point) (r : Riders) (dests : List Float) (w : Waiters) (here : Bool) (p : Float) (path : Bool) {n : ℕ}
    → n ≡ obstacle_by c goal r dests w here p path → eqb n 0 ≡ useful_by c goal r dests w here p path
unfolding obstacle_by useful_by
useful_by_lem c goal r dests w here p path e =
    ap (λ (n : ℕ). eqb n 0) e ∙ sym (by_tests here (bypass c goal p) (le (remaining c) zero) (servable_by w c) (path_allows c r dests p path))
