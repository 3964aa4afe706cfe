-- Two sheets with the same records so far, one of edition 2 and one of edition 1, and what a look back finds in them. Assumes nothing.
use Rattle.std.specs.Prelude.{ℕ, ◌+◌, ◌-◌, ◌*◌, ◌≤◌, ◌<◌, ◌≡◌, List}
use Rattle.std.proofs.Math.Path.{ap}
use Rattle.std.proofs.Common.{subst, arith, eq-eqb}
use Rattle.std.proofs.Math.Bool.{cond}
use Rattle.std.proofs.Math.Logic.{⊎_elim}
use Rattle.std.proofs.Math.Dec.{eqb}
use Rattle.laws.specs.Bools.{less?}
use Rattle.laws.specs.Folds.{any_cong}
use Rattle.components.specs.declared.Kind.{Kind}
use Rattle.components.specs.declared.Kind.TheVariants as kind
use Rattle.layout.specs.declared.Counts.{Counts}
use Rattle.layout.specs.Offsets.{head_length, record_length, stops_from, lines_from, cars_from, demands_from, closures_from, end_of}
use Rattle.layout.specs.Offsets.{stop_start, line_start, car_start, aboard_start, waiting_start, demand_start, closed_start}
use Rattle.layout.specs.Table.{first}
use Rattle.layout.specs.Records.{Fields, from, read}
use Rattle.layout.specs.Refusals.{seen, has_stop, has_line, has_car, has_demand, has_closed, last_stop}
use Rattle.accepted.specs.Accepted.{Each}
use Rattle.twins.specs.Twin.{under}
use Rattle.twins.specs.Views.{Same}

module _ (s t : List ℕ) where
  -- the record of kind k after those counted
  abbrev pub Pair : Counts → Kind → Type 0
  Pair c k = Same k (from s (end_of (under 64 c))) (from t (end_of (under 0 c)))

  placed : (k : Kind) (a b m n : ℕ) → Same k (from s a) (from t b) → a ≡ m → b ≡ n → Same k (from s m) (from t n)
  placed k a b m n h e f = subst (λ x. Same k (from s m) (from t x)) f (subst (λ x. Same k (from s x) (from t b)) e h)

  module _ (c : Counts) (h : Each Pair c) where
    pub the_policy : 0 < c.policies → Same kind.Policy (from s head_length) (from t head_length)
    the_policy l = placed kind.Policy _ _ _ _ (h.policies 0 l) (omega arith) (omega arith)

    pub the_stop : (j : ℕ) → j < c.stops → Same kind.Stop (from s (stop_start (under 64 c) j)) (from t (stop_start (under 0 c) j))
    the_stop j l = placed kind.Stop _ _ _ _ (h.stops j l) (omega arith) (omega arith)

    pub the_line : (i : ℕ) → i < c.lines → Same kind.Line (from s (line_start (under 64 c) i)) (from t (line_start (under 0 c) i))
    the_line i l = placed kind.Line _ _ _ _ (h.lines i l) (omega arith) (omega arith)

    pub the_car : (i : ℕ) → i < c.cars → Same kind.Car (from s (car_start (under 64 c) i)) (from t (car_start (under 0 c) i))
    the_car i l = placed kind.Car _ _ _ _ (h.cars i l) (omega arith) (omega arith)

    pub the_aboard : (i : ℕ) → i < c.aboards → Same kind.Aboard (from s (aboard_start (under 64 c) i)) (from t (aboard_start (under 0 c) i))
    the_aboard i l = placed kind.Aboard _ _ _ _ (h.aboards i l) (omega arith) (omega arith)

    pub the_waiting : (i : ℕ) → i < c.waits → Same kind.Waiting (from s (waiting_start (under 64 c) i)) (from t (waiting_start (under 0 c) i))
    the_waiting i l = placed kind.Waiting _ _ _ _ (h.waits i l) (omega arith) (omega arith)

    pub the_demand : (i : ℕ) → i < c.demands → Same kind.Demand (from s (demand_start (under 64 c) i)) (from t (demand_start (under 0 c) i))
    the_demand i l = placed kind.Demand _ _ _ _ (h.demands i l) (omega arith) (omega arith)

    pub the_closed : (i : ℕ) → i < c.closures → Same kind.Closed (from s (closed_start (under 64 c) i)) (from t (closed_start (under 0 c) i))
    the_closed i l = placed kind.Closed _ _ _ _ (h.closures i l) (omega arith) (omega arith)

  -- ---- looking back

  abbrev id_of : Fields → ℕ
  id_of x = read x (first 32)

  seen_same : (a b u v n id : ℕ) → ((i : ℕ) → i < n → id_of (from s (a + u * i)) ≡ id_of (from t (b + v * i)))
      → seen s a u n id ≡ seen t b v n id
  unfolding seen
  seen_same a b u v n id h =
      any_cong (λ i. eqb (id_of (from s (a + u * i))) id) (λ i. eqb (id_of (from t (b + v * i))) id) n (λ i l. ap (λ x. eqb x id) (h i l))

  module _ (c : Counts) (h : Each Pair c) where
    pub stops_same : (id : ℕ) → has_stop s (under 64 c) id ≡ has_stop t (under 0 c) id
    stops_same id = seen_same (stops_from (under 64 c)) (stops_from (under 0 c)) (record_length 64 kind.Stop) (record_length 0 kind.Stop) c.stops id
        (λ i l. ap id_of (the_stop c h i l).view_same)

    pub lines_same : (id : ℕ) → has_line s (under 64 c) id ≡ has_line t (under 0 c) id
    lines_same id = seen_same (lines_from (under 64 c)) (lines_from (under 0 c)) (record_length 64 kind.Line) (record_length 0 kind.Line) c.lines id
        (λ i l. ap id_of (the_line c h i l).view_same)

    pub cars_same : (id : ℕ) → has_car s (under 64 c) id ≡ has_car t (under 0 c) id
    cars_same id = seen_same (cars_from (under 64 c)) (cars_from (under 0 c)) (record_length 64 kind.Car) (record_length 0 kind.Car) c.cars id
        (λ i l. ap id_of (the_car c h i l).view_same)

    pub demands_same : (id : ℕ) → has_demand s (under 64 c) id ≡ has_demand t (under 0 c) id
    demands_same id =
        seen_same (demands_from (under 64 c)) (demands_from (under 0 c)) (record_length 64 kind.Demand) (record_length 0 kind.Demand) c.demands id
        (λ i l. ap id_of (the_demand c h i l).view_same)

    pub closures_same : (id : ℕ) → has_closed s (under 64 c) id ≡ has_closed t (under 0 c) id
    closures_same id =
        seen_same (closures_from (under 64 c)) (closures_from (under 0 c)) (record_length 64 kind.Closed) (record_length 0 kind.Closed) c.closures id
        (λ i l. ap id_of (the_closed c h i l).view_same)

    pub last_same : last_stop s (under 64 c) ≡ last_stop t (under 0 c)
    unfolding last_stop
    last_same =
        ⊎_elim
        (λ (l : 0 < c.stops). ap (λ x. cond (eqb c.stops 0) 0 x) (ap id_of (the_stop c h (c.stops - 1) (omega arith)).view_same))
        (λ (l : c.stops ≤ 0). rw (eq-eqb c.stops 0 (omega arith)))
        (less? 0 c.stops)
