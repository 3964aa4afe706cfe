-- ETD's cost and rank from what is held: the number of demand stops between, and the riders' destinations as two lists, of first and of second
-- coordinates; that number from the demand stops as a mask over n stops. Assumes nothing.
use Rattle.std.specs.Prelude.{None, Option, Some}
use Rattle.std.specs.Prelude.{ℕ, ◌≡◌, Bool, true, false, ◌&&◌, cond, List, get_or, Float}
use Rattle.std.proofs.Common.{sym, ◌∙◌}
use Rattle.std.proofs.Math.Path.{ap}
use Rattle.std.specs.Float.{nan}
use Rattle.std.specs.Float.Ieee.{lt, neg}
use Rattle.laws.specs.Folds.{fold, count}
use Rattle.fp.specs.Num.{zero, half, plus, times, over, max_zero, fma}
use Rattle.mask.specs.Mask.{has}
use Rattle.components.specs.declared.Car.{Car}
use Rattle.components.specs.declared.Policy.{Policy}
use Rattle.components.specs.declared.Point.{Point}
use Rattle.components.specs.Points.{point_of, distance}
use Rattle.manifest.specs.declared.Waiters.{Waiters}
use Rattle.manifest.specs.Stops.{point_in}
use Rattle.riders.specs.declared.Riders.{Riders}
use Rattle.dispatch.specs.Waits.{with_bonus}
use Rattle.dispatch.specs.Pairs.{useful_by}
use Rattle.etd.specs.declared.Terms.{Terms}
use Rattle.etd.specs.Etd.{intervenes, door_cost, extra_delay, is_ahead, moving_bonus, direction_bonus, weighted}
use Rattle.dispatch.specs.FiniteRank.{finite_rank}

-- the bonus of a moving car, by whether its goal lies ahead
module _ (x p travel : Float) (goal : Option Point) {g : Point} (at : goal ≡ Some g) {ahead : Bool} (e : ahead ≡ is_ahead x p g.along) where
  as_ahead : (b : Bool) → ahead ≡ b → cond b (times (neg travel) half) zero ≡ moving_bonus x p travel goal
  as_ahead b t = ap (λ (c : Bool). cond c (times (neg travel) half) zero) (sym t ∙ e) ∙ sym (ap (moving_bonus x p travel) at)

  pub bonus_ahead : ahead ≡ true → times (neg travel) half ≡ moving_bonus x p travel goal
  bonus_ahead t = as_ahead true t

  pub bonus_behind : ahead ≡ false → zero ≡ moving_bonus x p travel goal
  bonus_behind t = as_ahead false t

-- the weighted sum, term by term
pub weighted_by : (wait delay door travel riders doors bonus : Float) {a b d r : Float} → a ≡ fma door doors bonus → b ≡ fma delay riders a
    → d ≡ fma wait travel b
    → r ≡ max_zero d → r ≡ weighted wait delay door travel riders doors bonus
unfolding weighted
weighted_by wait delay door travel riders doors bonus ea eb ed er = er ∙ ap max_zero (ed ∙ ap (fma wait travel) (eb ∙ ap (fma delay riders) ea))

-- the demand stops between a car at x and a stop at p
unfoldable pub intervening_in : Float → Float → ℕ → List Float → ℕ → ℕ
intervening_in x p demand xs n = count (λ k. has demand k && intervenes x p (get_or xs k nan)) n

-- those between it and stop j
unfoldable pub halts_at : Float → ℕ → List Float → ℕ → ℕ → ℕ
halts_at x demand xs n j = intervening_in x (get_or xs j nan) demand xs n

pub halts_of : (x : Float) (demand : ℕ) (xs : List Float) (n j : ℕ) {p : Point} {r : ℕ} → p ≡ point_in xs j
    → r ≡ intervening_in x p.along demand xs n → r ≡ halts_at x demand xs n j
unfolding halts_at point_in
halts_of x demand xs n j e h = h ∙ ap (λ (p : Point). intervening_in x p.along demand xs n) e

-- existing_rider_delay, over the first n points of dests and sides
unfoldable pub delay_in : Point → Point → Float → List Float → List Float → ℕ → Float
delay_in x p speed dests sides n = fold (λ a k. plus a (extra_delay x p (point_of (get_or dests k nan) (get_or sides k nan)) speed)) zero n

-- compute_cost, of a stop at p with so many halts before it
unfoldable pub cost_by : Policy → Car → Option Point → ℕ → List Float → List Float → ℕ → Point → Float
cost_by y c goal count dests sides halts p =
    weighted y.w0 y.w1 y.w2 (over (distance c.position p) c.speed)
    (delay_in c.position p c.speed dests sides count)
    (door_cost halts c.transition c.dwell y.rate)
    (direction_bonus c.phase goal c.position.along p.along (over (distance c.position p) c.speed))

-- the cost less both fairness bonuses, wait squared first
unfoldable pub fair_cost_by : Policy → Car → Option Point → ℕ → List Float → List Float → Waiters → ℕ → Point → Float
fair_cost_by y c goal count dests sides w halts p =
    with_bonus (with_bonus (cost_by y c goal count dests sides halts p) y.w3 w.squares) y.w4 w.waitsum

-- what the cost is made of
unfoldable pub terms_by : Policy → Car → Option Point → ℕ → List Float → List Float → Waiters → ℕ → Point → Terms
terms_by y c goal count dests sides w halts p =
    record {
      travel = over (distance c.position p) c.speed;
      delay = delay_in c.position p c.speed dests sides count;
      doors = door_cost halts c.transition c.dwell y.rate;
      bonus = direction_bonus c.phase goal c.position.along p.along (over (distance c.position p) c.speed);
      squares = w.squares;
      waitsum = w.waitsum;
      sum = cost_by y c goal count dests sides halts p;
      cost = fair_cost_by y c goal count dests sides w halts p;
    }

module _ (y : Policy) (c : Car) (goal : Option Point) (count : ℕ) (dests sides : List Float) (w : Waiters) (halts : ℕ) (p : Point)
  where
    pub cost_by_lem : {t : Terms} → t ≡ terms_by y c goal count dests sides w halts p → t.cost ≡ fair_cost_by y c goal count dests sides w halts p
    unfolding terms_by
    cost_by_lem e = ap (λ (t : Terms). t.cost) e

    -- term by term
    pub terms_by_lem : {away riders doors bonus whole squared fair : Float}
        → away ≡ distance c.position p
        → doors ≡ door_cost halts c.transition c.dwell y.rate → riders ≡ delay_in c.position p c.speed dests sides count
        → bonus ≡ direction_bonus c.phase goal c.position.along p.along (over away c.speed)
        → whole ≡ weighted y.w0 y.w1 y.w2 (over away c.speed) riders doors bonus
        → squared ≡ with_bonus whole y.w3 w.squares → fair ≡ with_bonus squared y.w4 w.waitsum
        → record {
          travel = over away c.speed;
          delay = riders;
          doors = doors;
          bonus = bonus;
          squares = w.squares;
          waitsum = w.waitsum;
          sum = whole;
          cost = fair;
        } ≡ terms_by y c goal count dests sides w halts p
    unfolding terms_by cost_by fair_cost_by
    terms_by_lem ea ed er eb ew eq ef = rw (ef, eq, ew, eb, er, ed, ea)

-- rank, of stop j with so many halts before it
unfoldable pub rank_by : Policy → Car → Option Point → Riders → List Float → List Float → Waiters → ℕ → List Float → ℕ → Option Float
rank_by y c goal r dests sides w halts xs j =
    cond (useful_by c goal r dests w (has r.exits j) (point_in xs j).along false && lt zero c.speed)
    (finite_rank (fair_cost_by y c goal r.count dests sides w halts (point_in xs j)))
    None
