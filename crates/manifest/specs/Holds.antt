-- Lists that hold a sheet's riders, in record order. Assumes nothing.
use Rattle.std.specs.Prelude.{ℕ, ◌<◌, ◌≡◌, List, get_or, Float}
use Rattle.std.specs.Float.{nan}
use Rattle.components.specs.Sheet.{Sheet}

-- na riders aboard, by their cars and their destinations
pub record HoldsAboard (s : Sheet) (acar adest : List ℕ) (na : ℕ) : Type 0 where
  pub counted : na ≡ s.aboards
  pub car_of : (a : ℕ) → a < na → get_or acar a 0 ≡ (s.aboard a).car
  pub bound_for_lem : (a : ℕ) → a < na → get_or adest a 0 ≡ (s.aboard a).destination

-- nw riders who wait, by their stops, destinations, weights and wait ticks
pub record HoldsWaiting (s : Sheet) (wstop wdest : List ℕ) (wweight : List Float) (wwait : List ℕ) (nw : ℕ) : Type 0 where
  pub counted : nw ≡ s.waits
  pub stop_of : (w : ℕ) → w < nw → get_or wstop w 0 ≡ (s.waiting w).stop
  pub bound_for_lem : (w : ℕ) → w < nw → get_or wdest w 0 ≡ (s.waiting w).destination
  pub weight_of_lem : (w : ℕ) → w < nw → get_or wweight w nan ≡ (s.waiting w).weight
  pub ticks_of : (w : ℕ) → w < nw → get_or wwait w 0 ≡ (s.waiting w).wait
