-- Coverage by columns is the sheet's. Assumes nothing.
use Rattle.std.specs.Prelude.{ℕ, ◌<◌, ◌≡◌, Bool, true, false, ◌&&◌, ◌||◌, List, get_or, Float}
use Rattle.std.proofs.Math.Path.{ap, ap₂}
use Rattle.std.proofs.Common.{◌∙◌, ⊎_elim, lt-ltb}
use Rattle.std.proofs.Math.Bool.{not, cond}
use Rattle.std.proofs.Math.Dec.{eqb}
use Rattle.std.specs.Float.{nan}
use Rattle.laws.specs.Bools.{which, kept_id}
use Rattle.laws.specs.Folds.{any, every, fold_cong, any_cong, every_cong}
use Rattle.fp.specs.Num.{zero, plus}
use Rattle.mask.specs.Mask.{has, built}
use Rattle.mask.specs.MaskLaws.{built_cong, has_built}
use Rattle.components.specs.Cars.{servicing, remaining}
use Rattle.components.specs.Sheet.{Sheet}
use Rattle.manifest.specs.World.{stop_id}
use Rattle.manifest.specs.Manifest.{waits_at}
use Rattle.assignment.specs.Pending.{serves, line_capacity, capacity_at, weight_at, line_served, covered_by_cars, closed_at, covered}
use Rattle.fields.specs.Named.{contains, named}
use Rattle.coverage.specs.Coverage.{serves_by, room_step, line_room, capacity_step, capacity_by, weight_step, weight_by, on_served_line, line_served_by}
use Rattle.coverage.specs.Coverage.{waiter_served, lines_served, covered_by}
use Rattle.covered.specs.Columns.{served_target, HoldsIds}

-- lists that hold the columns that coverage asks for, of the cars and lines, and of those who wait
pub record HoldsServing (s : Sheet) (targets lines : List ℕ) (rooms : List Float) (ids : List ℕ) : Type 0 where
  pub target : (i : ℕ) → i < s.cars → get_or targets i 0 ≡ served_target (s.car i)
  pub line : (i : ℕ) → i < s.cars → get_or lines i 0 ≡ (s.car i).line
  pub room : (i : ℕ) → i < s.cars → get_or rooms i nan ≡ remaining (s.car i)
  pub line_id : (l : ℕ) → l < s.lines → get_or ids l 0 ≡ (s.line l).id

pub record HoldsWaits (s : Sheet) (stops required : List ℕ) (weights : List Float) : Type 0 where
  pub stop : (w : ℕ) → w < s.waits → get_or stops w 0 ≡ (s.waiting w).stop
  pub required_line : (w : ℕ) → w < s.waits → get_or required w 0 ≡ (s.waiting w).line
  pub weight : (w : ℕ) → w < s.waits → get_or weights w nan ≡ (s.waiting w).weight

-- stop j is asked for and covered, with its id from a list of names
unfoldable pub covered_in : List ℕ → List ℕ → List Float → ℕ → List ℕ → ℕ → List ℕ → List ℕ → List Float → ℕ → ℕ → List ℕ → ℕ → Bool
covered_in targets lines rooms n ids nl stops required weights nw asked names j =
    has asked j && covered_by targets lines rooms n ids nl stops required weights nw (get_or names j 0)

module _ (s : Sheet) (targets lines : List ℕ) (rooms : List Float) (ids stops required : List ℕ) (weights : List Float)
    (h : HoldsServing s targets lines rooms ids) (k : HoldsWaits s stops required weights) (j : ℕ) (pos : 0 < stop_id s j) where
  serves_same : (i : ℕ) → i < s.cars → serves_by targets (stop_id s j) i ≡ serves s j i
  unfolding serves
  serves_same i l =
      ap (λ (t : ℕ). eqb t (stop_id s j)) (h.target i l) ∙ kept_id (servicing (s.car i).phase) (s.car i).target (stop_id s j) pos

  any_same : contains targets s.cars (stop_id s j) ≡ any (serves s j) s.cars
  unfolding contains
  any_same = any_cong (serves_by targets (stop_id s j)) (serves s j) s.cars serves_same

  room_same : (a : Float) (l : ℕ) → l < s.lines → capacity_step targets lines rooms s.cars ids (stop_id s j) a l ≡ line_capacity s j a l
  unfolding line_room line_capacity
  room_same a l ll =
      fold_cong (room_step targets lines rooms (stop_id s j) (get_or ids l 0))
      (λ b i. cond (eqb (s.car i).line (s.line l).id && serves s j i) (plus b (remaining (s.car i))) b) a s.cars
      (λ b i li. rw (h.line i li, h.line_id l ll, serves_same i li, h.room i li))

  capacity_same : capacity_by targets lines rooms s.cars ids s.lines (stop_id s j) ≡ capacity_at s j
  unfolding capacity_by capacity_at
  capacity_same = fold_cong (capacity_step targets lines rooms s.cars ids (stop_id s j)) (line_capacity s j) zero s.lines room_same

  weight_same : weight_by stops weights s.waits (stop_id s j) ≡ weight_at s j
  unfolding weight_by weight_at
  weight_same =
      fold_cong (weight_step stops weights (stop_id s j)) (λ a w. cond (waits_at s j w) (plus a (s.waiting w).weight) a) zero s.waits
      (λ a w lw. rw (k.stop w lw, k.weight w lw))

  lines_same : lines_served targets lines s.cars stops required s.waits (stop_id s j)
      ≡ every (λ w. not (waits_at s j w) || line_served s j w) s.waits
  unfolding lines_served line_served_by line_served
  lines_same =
      every_cong (waiter_served targets lines s.cars stops required (stop_id s j)) (λ w. not (waits_at s j w) || line_served s j w) s.waits
      (λ w lw.
      ap₂ (λ (a b : Bool). not a || b)
      (ap (λ (x : ℕ). eqb x (stop_id s j)) (k.stop w lw))
      (ap₂ (λ (a b : Bool). a || b)
      (ap (λ (x : ℕ). eqb x 0) (k.required_line w lw))
      (any_cong (on_served_line targets lines (stop_id s j) (get_or required w 0)) (λ i. serves s j i && eqb (s.car i).line (s.waiting w).line)
      s.cars
      (λ i li. rw (serves_same i li, h.line i li, k.required_line w lw)))))

  pub covered_same : covered_by targets lines rooms s.cars ids s.lines stops required weights s.waits (stop_id s j) ≡ covered_by_cars s j
  unfolding covered_by covered_by_cars
  covered_same = rw (any_same, lines_same, weight_same, capacity_same)

-- the mask of what is asked for and covered
pub mask_same : (s : Sheet) (targets lines : List ℕ) (rooms : List Float) (ids stops required : List ℕ) (weights : List Float) (asked : ℕ)
    (names : List ℕ)
    → HoldsServing s targets lines rooms ids → HoldsWaits s stops required weights → HoldsIds s asked names
    → built (covered_in targets lines rooms s.cars ids s.lines stops required weights s.waits asked names) 64 ≡ built
    (λ j. has asked j && covered_by_cars s j) 64
unfolding covered_in
mask_same s targets lines rooms ids stops required weights asked names h k names-held =
    built_cong (covered_in targets lines rooms s.cars ids s.lines stops required weights s.waits asked names)
    (λ j. has asked j && covered_by_cars s j) 64
    (λ j l. ⊎_elim
    (λ (t : has asked j ≡ true).
    let r = names-held.recorded j l t in
    rw (t, names-held.held j r) (covered_same s targets lines rooms ids stops required weights h k j (names-held.above_zero j r)))
    (λ (t : has asked j ≡ false). rw t)
    (which (has asked j)))

-- ---- closed landings

-- the name of stop j is that of a closed landing
unfoldable pub closed_in : Sheet → List ℕ → ℕ → Bool
closed_in s names j = any (λ x. eqb (s.closed x) (get_or names j 0)) s.closures

-- a column that holds the closed landings' stops names them
pub closed_named : (s : Sheet) (ids names : List ℕ) → ((x : ℕ) → x < s.closures → get_or ids x 0 ≡ s.closed x) → (j : ℕ) → j < 64
    → named ids s.closures names 64 j ≡ closed_in s names j
unfolding named contains closed_in
closed_named s ids names h j l =
    rw (lt-ltb j 64 l)
    (any_cong (λ x. eqb (get_or ids x 0) (get_or names j 0)) (λ x. eqb (s.closed x) (get_or names j 0)) s.closures
    (λ x lx. ap (λ (z : ℕ). eqb z (get_or names j 0)) (h x lx)))

-- covered by cars, or asked for and closed
pub covered_either : (s : Sheet) (asked cars closed : ℕ) (names : List ℕ) → HoldsIds s asked names
    → cars ≡ built (λ j. has asked j && covered_by_cars s j) 64 → closed ≡ built (closed_in s names) 64
    → built (λ j. has (built (λ k. has asked k && has closed k) 64) j || has cars j) 64 ≡ built (λ j. has asked j && covered s j) 64
unfolding covered closed_at closed_in
covered_either s asked cars closed names h ec ex =
    built_cong (λ j. has (built (λ k. has asked k && has closed k) 64) j || has cars j) (λ j. has asked j && covered s j) 64
    (λ j l.
    let c : has cars j ≡ (has asked j && covered_by_cars s j) =
    ap (λ (m : ℕ). has m j) ec ∙ has_built (λ k. has asked k && covered_by_cars s k) j l in
    let x : has closed j ≡ any (λ x. eqb (s.closed x) (get_or names j 0)) s.closures =
    ap (λ (m : ℕ). has m j) ex ∙ has_built (λ k. any (λ x. eqb (s.closed x) (get_or names k 0)) s.closures) j l in
    let b = has_built (λ k. has asked k && has closed k) j l in
    ⊎_elim
    (λ (t : has asked j ≡ true). rw (b, c, x, t, h.held j (h.recorded j l t)))
    (λ (t : has asked j ≡ false). rw (b, c, x, t))
    (which (has asked j)))
