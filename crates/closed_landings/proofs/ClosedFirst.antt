-- Request F-6: "Two rules meet: a closed stop counts as covered, and a stop wanted by an idle car's rider stays pending. So far the second won. From
-- now on closure comes first and no car is sent there." F-2's rule beside the one of now, where they differ, and the passes by either. Assumes
-- nothing.
--   differs, agrees      a stop's pending state differs exactly where the rules meet
--   same-pass            where they meet at no stop, every answer and every buffer is the same
--   fewer, other-pass    where they meet at one, fewer stops are pending, so the answer is another
--   none-sent            no car is sent to a closed landing
--   before               a worked case by F-2's rule; by the rule of now it is in assignment: Variants
use Rattle.std.specs.Prelude.{Err, Ok, Result}
use Rattle.bench.specs.declared.Passed.{Passed}
use Rattle.layout.specs.declared.Refusal.{Refusal}
use Rattle.bench.specs.Answers.{passed}
use Rattle.std.specs.Prelude.{ℕ, ◌*◌, ◌<◌, ◌≤◌, min, max, ◌≡◌, refl, Bool, true, false, not, ◌&&◌, ◌||◌, cond, ◌++◌, ◌≢◌, ltb, get_or, drop}
use Rattle.std.proofs.Common.{sym, ap, ◌∙◌, true≢false, ⊎_elim, arith, lt-ltb, le-ltb}
use Rattle.std.proofs.Math.Path.{fun_ext}
use Rattle.laws.specs.Bools.{less?}
use Rattle.laws.specs.Folds.{any_some, any_none, count, count_cong, nth_cong, nth_is}
use Rattle.laws.specs.Counts.{count-lt}
use Rattle.laws.specs.Sums.{sum, sum_cong}
use Rattle.laws.specs.Tables.{tab, tabs}
use Rattle.scale.specs.Scale.{sentinel}
use Rattle.components.specs.Sheet.{Sheet}
use Rattle.layout.specs.declared.Counts.{Counts}
use Rattle.layout.specs.Records.{sheet_of, limit_of}
use Rattle.manifest.specs.World.{stop_id, in_group}
use Rattle.manifest.specs.Manifest.{has_demand, demand_stop}
use Rattle.sweep.specs.declared.Sweep.{Sweep}
use Rattle.sweep.specs.Sweeps.{sweep_code}
use Rattle.assignment_problem.specs.Recursion.{column_of, least_total}
use Rattle.assignment.specs.Pending.{closed_at, covered, covered_by_cars, idle_bound, pending, idle_cars, row_car, pending_stops}
use Rattle.assignment.specs.Cells.{rank_held}
use Rattle.assignment.proofs.Decided.{never_closed}
use Rattle.assignment.specs.Variants.{shut, shut_opened}
use Rattle.outcome.specs.Written.{decided}
use Rattle.bench.specs.Done.{Lent, Done, done, outcome_of, done_of, pass_of, written, is_written}
use Rattle.closed_landings.specs.Under.{written_under, stops_under, column_stop_under, viable_under, nearer_under, kept_under, sweep_under, cell_under}
use Rattle.closed_landings.specs.Under.{rank_under, matrix_under, decision_under, total_under, held_at_under, ranked_under, by_rule}
use Rattle.closed_landings.specs.ClosedFirst.{pending_before, rules_meet, some_meet, done_before, pass_before}

-- where they meet, it was pending and "it is no longer pending"
pub differs : (s : Sheet) (j : ℕ) → rules_meet s j ≡ true → (pending_before s j ≡ true) × (pending s j ≡ false)
unfolding pending pending_before rules_meet demand_stop
differs s j h = by (closed_at s j) (in_group s j) (has_demand s j) (idle_bound s j) (covered s j) h
  where
    by : (x g d b c : Bool) → (x && (g && (d && b))) ≡ true
        → (((g && d) && (b || not c)) ≡ true) × ((not x && ((g && d) && (b || not c))) ≡ false)
    by true true true true c h = (refl, refl)
    by true true true false c h = absurd (true≢false (sym h))
    by true true false b c h = absurd (true≢false (sym h))
    by true false d b c h = absurd (true≢false (sym h))
    by false g d b c h = absurd (true≢false (sym h))

-- and everywhere else nothing has changed
pub agrees : (s : Sheet) (j : ℕ) → rules_meet s j ≡ false → pending s j ≡ pending_before s j
unfolding pending pending_before rules_meet demand_stop covered
agrees s j h = by (closed_at s j) (in_group s j) (has_demand s j) (idle_bound s j) (covered_by_cars s j) h
  where
    by : (x g d b c : Bool) → (x && (g && (d && b))) ≡ false → (not x && ((g && d) && (b || not (x || c)))) ≡ ((g && d) && (b || not (x || c)))
    by false g d b c h = refl
    by true false d b c h = refl
    by true true false b c h = refl
    by true true true false c h = refl
    by true true true true c h = absurd (true≢false h)

-- ---- a pass looks at a rule at the sheet's stops alone

at_column : {m m' x x' : ℕ} (c : ℕ) → m ≡ m' → (c < m → x ≡ x') → cond (ltb c m) x sentinel ≡ cond (ltb c m') x' sentinel
at_column {m} c e f =
    ⊎_elim (λ (l : c < m). rw (sym e, lt-ltb c m l) (f l)) (λ (l : m ≤ c). rw (sym e, le-ltb c m l)) (less? c m)

at_place : {m m' : ℕ} {x x' : Bool} (c : ℕ) → m ≡ m' → (c < m → x ≡ x') → (ltb c m && x) ≡ (ltb c m' && x')
at_place {m} c e f =
    ⊎_elim (λ (l : c < m). rw (sym e, lt-ltb c m l) (f l)) (λ (l : m ≤ c). rw (sym e, le-ltb c m l)) (less? c m)

module _ (s : Sheet) (p q : ℕ → Bool) (h : (j : ℕ) → j < s.stops → p j ≡ q j) where
  stops_same : stops_under s p ≡ stops_under s q
  stops_same = count_cong p q s.stops h

  place_same : (c : ℕ) → column_stop_under s p c ≡ column_stop_under s q c
  place_same c = nth_cong p q s.stops c h

  nearer_same : (i j : ℕ) → nearer_under s p i j ≡ nearer_under s q i j
  nearer_same i j = count_cong _ _ s.stops (λ k l. rw (h k l))

  kept_same : (i limit j : ℕ) → j < s.stops → kept_under s p i limit j ≡ kept_under s q i limit j
  kept_same i limit j l = rw (h j l, nearer_same i j)

  ranked_same : (limit : ℕ) → ranked_under s p limit ≡ ranked_under s q limit
  ranked_same limit =
      sum_cong (idle_cars s) {f = λ r. min limit (count (viable_under s p (row_car s r)) s.stops)}
      {g = λ r. min limit (count (viable_under s q (row_car s r)) s.stops)}
      (λ r l. ap (min limit) (count_cong (viable_under s p (row_car s r)) (viable_under s q (row_car s r)) s.stops (λ j lj. rw (h j lj))))

  sweep_same : (i : ℕ) → sweep_under s p i ≡ sweep_under s q i
  sweep_same i = rw stops_same

  cell_same : (limit i j : ℕ) → j < s.stops → cell_under s p limit i j ≡ cell_under s q limit i j
  cell_same limit i j l = rw (kept_same i limit j l, sweep_same i)

  matrix_same : (limit r c : ℕ) → matrix_under s p limit r c ≡ matrix_under s q limit r c
  matrix_same limit r c =
      at_column c stops_same
      (λ l.
      cell_same limit (row_car s r) (column_stop_under s p c) (nth_is p s.stops c l).below
      ∙ ap (cell_under s q limit (row_car s r)) (place_same c))

  held_cell_same : (limit i j : ℕ) → j < s.stops
      → (kept_under s p i limit j && rank_held (rank_under s p i j)) ≡ (kept_under s q i limit j && rank_held (rank_under s q i j))
  held_cell_same limit i j l = rw (kept_same i limit j l, sweep_same i)

  held_same : (limit r c : ℕ) → held_at_under s p limit r c ≡ held_at_under s q limit r c
  held_same limit r c =
      at_place c stops_same
      (λ l.
      held_cell_same limit (row_car s r) (column_stop_under s p c) (nth_is p s.stops c l).below
      ∙ ap (λ (j : ℕ). kept_under s q (row_car s r) limit j && rank_held (rank_under s q (row_car s r) j)) (place_same c))

-- what is written, by the pairs ranked, the number of pending stops, their places, the matrix, its held cells and the sweeps
unfoldable made : Sheet → Lent → ℕ → ℕ → (ℕ → ℕ) → (ℕ → ℕ → ℕ) → (ℕ → ℕ → Bool) → (ℕ → Sweep) → Done
made s x ranked m place cells held swept =
    let n = idle_cars s in
    let w = max n m in
    let column = column_of cells n w in
    done (passed n m (least_total cells n w) ranked (sum n (λ r. count (held r) w)))
    (tab (λ r. cond (ltb (column r) m && ltb (cells r (column r)) sentinel) (stop_id s (place (column r))) 0) n ++ drop n x.decisions)
    (tabs cells w n ++ drop (n * w) x.cells)
    (tab (λ i. sweep_code (swept i)) s.cars ++ drop s.cars x.sweeps)

is_made : (s : Sheet) (rule : ℕ → Bool) (limit : ℕ) (x : Lent)
    → written_under s rule limit x
    ≡ made s x (ranked_under s rule limit) (stops_under s rule) (column_stop_under s rule) (matrix_under s rule limit) (held_at_under s rule limit) (sweep_under s rule)
unfolding made
is_made s rule limit x = refl

same_rule : (s : Sheet) (p q : ℕ → Bool) → ((j : ℕ) → j < s.stops → p j ≡ q j) → (limit : ℕ) (x : Lent)
    → written_under s p limit x ≡ written_under s q limit x
same_rule s p q h limit x =
    is_made s p limit x
    ∙ by (ranked_same s p q h limit) (stops_same s p q h) (fun_ext (place_same s p q h)) (fun_ext (λ r. fun_ext (matrix_same s p q h limit r)))
    (fun_ext (λ r. fun_ext (held_same s p q h limit r))) (fun_ext (sweep_same s p q h))
    ∙ sym (is_made s q limit x)
  where
    by : {k k' m m' : ℕ} {a a' : ℕ → ℕ} {c c' : ℕ → ℕ → ℕ} {d d' : ℕ → ℕ → Bool} {w w' : ℕ → Sweep} → k ≡ k' → m ≡ m' → a ≡ a' → c ≡ c' → d ≡ d' → w ≡ w'
        → made s x k m a c d w ≡ made s x k' m' a' c' d' w'
    by i e f g j k = cc

-- ---- where the rules meet at no stop

pub same_written : (s : Sheet) → some_meet s ≡ false → (limit : ℕ) (x : Lent)
    → written s limit x ≡ written_under s (pending_before s) limit x
unfolding some_meet
same_written s e limit x =
    by_rule s limit x ∙ same_rule s (pending s) (pending_before s) (λ j l. agrees s j (any_none (rules_meet s) s.stops e j l)) limit x

-- every answer and every buffer is the same
pub same_pass : (x : Lent) → ((c : Counts) → outcome_of x ≡ Ok c → some_meet (sheet_of x.bytes c) ≡ false)
    → pass_of x ≡ pass_before x
same_pass x h = by (outcome_of x) h
  where
    by : (v : Result Counts Refusal) → ((c : Counts) → v ≡ Ok c → some_meet (sheet_of x.bytes c) ≡ false) → done_of v x ≡ done_before v x
    by (Err r) f = refl
    by (Ok c) f = same_written (sheet_of x.bytes c) (f c refl) (limit_of x.bytes) x

-- ---- where they meet at one

pub fewer : (s : Sheet) → some_meet s ≡ true → pending_stops s < stops_under s (pending_before s)
unfolding some_meet pending_stops pending pending_before
fewer s e =
    let (j, l, m) = any_some (rules_meet s) s.stops e in
    count-lt (pending s) (pending_before s) s.stops j l (λ k lk. weaker k) (differs s j m).1 (differs s j m).0
  where
    right : (x b : Bool) → (not x && b) ≡ true → b ≡ true
    right true b h = absurd (true≢false (sym h))
    right false b h = h

    weaker : (k : ℕ) → pending s k ≡ true → pending_before s k ≡ true
    weaker k h = right (closed_at s k) _ h

-- "Answers that change are exactly those": the answered number of pending stops is another
pub other_pass : (x : Lent) (c : Counts) → outcome_of x ≡ Ok c → some_meet (sheet_of x.bytes c) ≡ true
    → pass_of x ≢ pass_before x
unfolding pending_stops
other_pass x c e h q =
    let s = sheet_of x.bytes c in
    let same : pending_stops s ≡ stops_under s (pending_before s) =
    sym (ap (λ v. stops_of (done_of v x).answer) e)
    ∙ ap (λ (y : Done). stops_of y.answer) q
    ∙ ap (λ v. stops_of (done_before v x).answer) e in
    absurd (omega (arith, same, fewer s h))
  where
    stops_of : Result Passed Refusal → ℕ
    stops_of (Ok p) = p.stops
    stops_of (Err r) = 0

-- ---- "no car is sent there"

-- of the decisions that a pass writes, one that sends a car is no closed landing's stop
pub none_sent : (x : Lent) {y : Done} → y ≡ pass_of x → (c : Counts) → outcome_of x ≡ Ok c → (r k : ℕ)
    → r < idle_cars (sheet_of x.bytes c) → k < (sheet_of x.bytes c).closures → get_or y.decisions r 0 ≢ 0
    → get_or y.decisions r 0 ≢ (sheet_of x.bytes c).closed k
none_sent x {y} h c e r k lr lk d q =
    let s = sheet_of x.bytes c in
    let limit = limit_of x.bytes in
    let is = ap (λ (z : Done). get_or z.decisions r 0) (is_written x h c e) ∙ decided s limit x.decisions r lr in
    never_closed s limit r k (λ z. d (is ∙ z)) lk (sym is ∙ q)

-- ---- a worked case: someone waits at stop 1, which is closed, and the rider of car 1 is bound for it

-- the stop was pending, the car was sent there for 1,000,000, and its sweep turned round; now it stays, and keeps its sweep
before : (pending_before shut 0 ≡ true)
    × (decision_under shut (pending_before shut) 65535 0 ≡ 1)
    × (total_under shut (pending_before shut) 65535 ≡ 1000000)
    × (sweep_code (sweep_under shut (pending_before shut) 0) ≡ 3)
unfolding shut_opened pending_before
before = (refl, refl, refl, refl)
