-- No condition of refusals 8 to 14 holds of a record of edition 1 where none holds of the record of edition 2 with the same fields. Assumes nothing.
use Rattle.std.specs.Prelude.{ℕ, ◌≡◌, Bool, ◌&&◌, ◌||◌, List, eqb}
use Rattle.std.proofs.Math.Path.{refl, sym, ap}
use Rattle.std.proofs.Common.{◌∙◌, arith}
use Rattle.std.proofs.Math.Bool.{true, false}
use borrow.Author.Tests.{not-false}
use Rattle.laws.specs.Bools.{both_left, both_right}
use Rattle.fp.specs.Num as Num
use Rattle.fp.specs.Ranges.{is_position, is_speed, is_mass, is_threshold}
use Rattle.components.specs.declared.Kind.{Kind}
use Rattle.components.specs.declared.Kind.TheVariants.{Policy, Stop, Line, Car, Aboard, Waiting, Demand, Closed, Unknown}
use Rattle.components.specs.declared.Kind.TheVariants as kind
use Rattle.components.specs.declared.Strategy.{Strategy}
use Rattle.components.specs.declared.Strategy.TheVariants.{Etd, Rsr, Scan}
use Rattle.components.specs.declared.Strategy.TheVariants as strategy
use Rattle.components.specs.Codes.{strategy_code}
use Rattle.components.specs.Points.{is_placed, along_inside}
use Rattle.layout.specs.declared.Counts.{Counts}
use Rattle.layout.specs.Table.{past, line_id_field, car_id_field, car_line_field, car_position_field, car_across_field, car_speed_field, car_capacity_field, car_load_field}
use Rattle.layout.specs.Table.{car_bypass_up_field, car_bypass_down_field, stop_position_field, stop_across_field, aboard_car_field, waiting_stop_field, demand_stop_field, closed_stop_field}
use Rattle.layout.specs.Records.{Fields, read, double, point}
use Rattle.layout.specs.Refusals.{strategy_at, unused_weights, refusal8_policy, refusal11_policy, refusal12, refusal9_stop, refusal11_stop, refusal9_line}
use Rattle.layout.specs.Refusals.{refusal10_line, refusal8_car, refusal9_car, refusal10_car, refusal11_car, refusal13, refusal8_aboard, refusal9_aboard}
use Rattle.layout.specs.Refusals.{refusal10_aboard, refusal8_waiting, refusal9_waiting, refusal10_waiting, refusal11_waiting, refusal14, refusal9_demand}
use Rattle.layout.specs.Refusals.{refusal10_demand, refusal9_closed, refusal10_closed}
use Rattle.layout.specs.Verdict.{pick, first_of, body_refusal}
use Rattle.layout.specs.VerdictLaws.{pick_none}
use Rattle.layout.specs.Open.{reading}
use Rattle.accepted.specs.Accepted.{Each}
use Rattle.twins.specs.Twin.{under}
use Rattle.twins.specs.Views.{Same, view}
use Rattle.twins.specs.Looks.{Pair, stops_same, lines_same, cars_same, demands_same, closures_same, last_same}

-- a point of the same position and a second coordinate of no bits lies inside where the other does
zero_inside : is_position Num.zero ≡ true
unfolding reading
zero_inside = refl

module _ (s t : List ℕ) (c : Counts) (h : Each (Pair s t) c) (f g : Fields) where
  unused_view : (k : Strategy) (x : Fields) (w : ℕ) → unused_weights k x ≡ unused_weights k (view w kind.Policy x)
  unused_view Etd x w = refl
  unused_view Rsr x w = refl
  unused_view Scan x w = refl
  unused_view strategy.Unknown x w = refl

  policy_view : (x : Fields) (w : ℕ) → body_refusal t (under 0 c) kind.Policy x ≡ body_refusal t (under 0 c) kind.Policy (view w kind.Policy x)
  unfolding first_of refusal8_policy refusal11_policy refusal12
  policy_view x w =
      ap (λ (a : Bool). pick (eqb (strategy_code (strategy_at x)) 3 || a) 8 (pick (refusal11_policy x) 11 (pick (refusal12 x) 12 0)))
      (unused_view (strategy_at x) x w)

  policy_body : Same kind.Policy f g → body_refusal s (under 64 c) kind.Policy f ≡ body_refusal t (under 0 c) kind.Policy g
  unfolding first_of
  policy_body e = policy_view f 64 ∙ ap (body_refusal t (under 0 c) kind.Policy) e.view_same ∙ sym (policy_view g 0)

  stop_body : Same kind.Stop f g → body_refusal s (under 64 c) kind.Stop f ≡ 0 → body_refusal t (under 0 c) kind.Stop g ≡ 0
  unfolding first_of refusal9_stop refusal11_stop is_placed pick
  stop_body e z =
      let a = pick_none (refusal9_stop s (under 64 c) f) 9 _ (omega arith) z in
      let b = pick_none (refusal11_stop (under 64 c) f) 11 0 (omega arith) a.1 in
      let p : is_position (double g stop_position_field) ≡ true =
      sym (ap (λ (x : Fields). is_position (double x stop_position_field)) e.view_same)
      ∙ along_inside (point f stop_position_field (stop_across_field 64)) (not-false _ b.0) in
      let q : refusal9_stop t (under 0 c) g ≡ false = sym (ap (refusal9_stop t (under 0 c)) e.view_same) ∙ rw (← last_same s t c h) a.0 in
      rw (q, p, e.no_bits (stop_across_field 0).start, zero_inside) refl

  line_body : Same kind.Line f g → body_refusal s (under 64 c) kind.Line f ≡ body_refusal t (under 0 c) kind.Line g
  unfolding first_of refusal9_line refusal10_line
  line_body e =
      let a : body_refusal s (under 64 c) kind.Line f ≡ body_refusal t (under 0 c) kind.Line f = rw (lines_same s t c h (read f line_id_field)) in
      a ∙ ap (body_refusal t (under 0 c) kind.Line) e.view_same

  -- what refusal 11 asks of a car but for its place
  abbrev others : ℕ → Fields → Bool
  others w x =
      is_speed (double x (past w car_speed_field))
      && (is_mass (double x (past w car_capacity_field))
      && (is_mass (double x (past w car_load_field))
      && (is_threshold (double x (past w car_bypass_up_field))
      && is_threshold (double x (past w car_bypass_down_field)))))

  car_body : Same kind.Car f g → body_refusal s (under 64 c) kind.Car f ≡ 0 → body_refusal t (under 0 c) kind.Car g ≡ 0
  unfolding first_of refusal8_car refusal9_car refusal10_car refusal11_car refusal13 is_placed pick
  car_body e z =
      let x = view 64 kind.Car f in
      let here = point f car_position_field (car_across_field 64) in
      let a8 = pick_none (refusal8_car (under 64 c) f) 8 _ (omega arith) z in
      let a9 = pick_none (refusal9_car s (under 64 c) f) 9 _ (omega arith) a8.1 in
      let a10 = pick_none (refusal10_car s (under 64 c) f) 10 _ (omega arith) a9.1 in
      let a11 = pick_none (refusal11_car (under 64 c) f) 11 _ (omega arith) a10.1 in
      let a13 = pick_none (refusal13 (under 64 c) f) 13 0 (omega arith) a11.1 in
      let inside : (is_placed here && others 64 f) ≡ true = not-false _ a11.0 in
      let l9 : refusal9_car s (under 64 c) f ≡ refusal9_car t (under 0 c) x = rw (cars_same s t c h (read f car_id_field)) in
      let l10 : refusal10_car s (under 64 c) f ≡ refusal10_car t (under 0 c) x = rw (lines_same s t c h (read f car_line_field)) in
      let q8 : refusal8_car (under 0 c) g ≡ false = sym (ap (refusal8_car (under 0 c)) e.view_same) ∙ a8.0 in
      let q9 : refusal9_car t (under 0 c) g ≡ false = sym (l9 ∙ ap (refusal9_car t (under 0 c)) e.view_same) ∙ a9.0 in
      let q10 : refusal10_car t (under 0 c) g ≡ false = sym (l10 ∙ ap (refusal10_car t (under 0 c)) e.view_same) ∙ a10.0 in
      let q13 : refusal13 (under 0 c) g ≡ false = sym (ap (refusal13 (under 0 c)) e.view_same) ∙ a13.0 in
      let p : is_position (double g car_position_field) ≡ true =
      sym (ap (λ (y : Fields). is_position (double y car_position_field)) e.view_same) ∙ along_inside here (both_left (is_placed here) _ inside) in
      let o : others 0 g ≡ true = sym (ap (others 0) e.view_same) ∙ both_right (is_placed here) _ inside in
      let q11 : refusal11_car (under 0 c) g ≡ false = rw (p, e.no_bits (car_across_field 0).start, zero_inside, o) refl in
      rw (q8, q9, q10, q11, q13) refl

  aboard_body : Same kind.Aboard f g → body_refusal s (under 64 c) kind.Aboard f ≡ body_refusal t (under 0 c) kind.Aboard g
  unfolding first_of refusal8_aboard refusal9_aboard refusal10_aboard
  aboard_body e =
      let a : body_refusal s (under 64 c) kind.Aboard f ≡ body_refusal t (under 0 c) kind.Aboard f = rw (cars_same s t c h (read f aboard_car_field)) in
      a ∙ ap (body_refusal t (under 0 c) kind.Aboard) e.view_same

  waiting_body : Same kind.Waiting f g → body_refusal s (under 64 c) kind.Waiting f ≡ body_refusal t (under 0 c) kind.Waiting g
  unfolding first_of refusal8_waiting refusal9_waiting refusal10_waiting refusal11_waiting refusal14
  waiting_body e =
      let a : body_refusal s (under 64 c) kind.Waiting f ≡ body_refusal t (under 0 c) kind.Waiting f = rw (stops_same s t c h (read f waiting_stop_field)) in
      a ∙ ap (body_refusal t (under 0 c) kind.Waiting) e.view_same

  demand_body : Same kind.Demand f g → body_refusal s (under 64 c) kind.Demand f ≡ body_refusal t (under 0 c) kind.Demand g
  unfolding first_of refusal9_demand refusal10_demand
  demand_body e =
      let a : body_refusal s (under 64 c) kind.Demand f ≡ body_refusal t (under 0 c) kind.Demand f =
      rw (demands_same s t c h (read f demand_stop_field), stops_same s t c h (read f demand_stop_field)) in
      a ∙ ap (body_refusal t (under 0 c) kind.Demand) e.view_same

  closed_body : Same kind.Closed f g → body_refusal s (under 64 c) kind.Closed f ≡ body_refusal t (under 0 c) kind.Closed g
  unfolding first_of refusal9_closed refusal10_closed
  closed_body e =
      let a : body_refusal s (under 64 c) kind.Closed f ≡ body_refusal t (under 0 c) kind.Closed f =
      rw (closures_same s t c h (read f closed_stop_field), stops_same s t c h (read f closed_stop_field)) in
      a ∙ ap (body_refusal t (under 0 c) kind.Closed) e.view_same

  pub body_clean : (k : Kind) → Same k f g → body_refusal s (under 64 c) k f ≡ 0 → body_refusal t (under 0 c) k g ≡ 0
  unfolding first_of
  body_clean Policy e z = sym (policy_body e) ∙ z
  body_clean Stop e z = stop_body e z
  body_clean Line e z = sym (line_body e) ∙ z
  body_clean Car e z = car_body e z
  body_clean Aboard e z = sym (aboard_body e) ∙ z
  body_clean Waiting e z = sym (waiting_body e) ∙ z
  body_clean Demand e z = sym (demand_body e) ∙ z
  body_clean Closed e z = sym (closed_body e) ∙ z
  body_clean Unknown e z = refl
