-- Records with the same fields are the same. Assumes nothing.
use Rattle.std.specs.Prelude.{None, Some}
use Rattle.std.specs.Prelude.{ℕ, ◌+◌, ◌≤◌, ◌≡◌, Bool, cond, eqb}
use Rattle.std.proofs.Math.Path.{ap, ap₂}
use Rattle.std.proofs.Common.{arith}
use Rattle.std.specs.Float.Ieee.{of_bits}
use Rattle.std.specs.Float.{binary64}
use Rattle.components.specs.declared.Kind.TheVariants.{Policy, Stop, Line, Aboard, Waiting, Demand}
use Rattle.components.specs.Codes.{phase_of, direction_of, mode_of}
use Rattle.layout.specs.Offsets.{record_length}
use Rattle.layout.specs.Records.{Fields, read, flag, policy_of, stop_of, line_of, car_of, aboard_of, waiting_of, demand_of}
use Rattle.layout.specs.Table.{Field, past, stop_across_field, car_across_field}
use Rattle.layout.specs.Table.{policy_strategy_field, policy_rate_field, policy_traffic_field, policy_w0_field, policy_w1_field, policy_w2_field, policy_w3_field}
use Rattle.layout.specs.Table.{policy_w4_field, policy_w5_field, stop_id_field, stop_position_field, line_id_field, line_serves_field, car_id_field, car_line_field, car_phase_field, car_stop_field}
use Rattle.layout.specs.Table.{car_target_field, car_listed_field, car_up_field, car_down_field, car_sweep_field, car_mode_field, car_position_field, car_speed_field, car_capacity_field, car_load_field}
use Rattle.layout.specs.Table.{car_has_bypass_up_field, car_bypass_up_field, car_has_bypass_down_field, car_bypass_down_field, car_transition_field, car_dwell_field, car_restricted_field}
use Rattle.layout.specs.Table.{car_calls_field, aboard_car_field, aboard_destination_field, waiting_stop_field, waiting_line_field, waiting_destination_field, waiting_weight_field}
use Rattle.layout.specs.Table.{waiting_wait_field, demand_stop_field, demand_riding_field, demand_call_field}
use Rattle.alike.specs.Alike.{LikeCar}

-- the fields within the first n bits of two records are the same
abbrev pub SameFields : ℕ → Fields → Fields → Type 0
SameFields n f g = (o w : ℕ) → o + w ≤ n → f o w ≡ g o w

module _ (f g : Fields) where
  pub policy_same : SameFields (record_length 0 Policy) f g → policy_of f ≡ policy_of g
  unfolding policy_of
  policy_same h =
      cc (
        h policy_strategy_field.start policy_strategy_field.width (omega arith),
        h policy_rate_field.start policy_rate_field.width (omega arith),
        h policy_traffic_field.start policy_traffic_field.width (omega arith),
        h policy_w0_field.start policy_w0_field.width (omega arith),
        h policy_w1_field.start policy_w1_field.width (omega arith),
        h policy_w2_field.start policy_w2_field.width (omega arith),
        h policy_w3_field.start policy_w3_field.width (omega arith),
        h policy_w4_field.start policy_w4_field.width (omega arith),
        h policy_w5_field.start policy_w5_field.width (omega arith),
      )

  pub stop_same : (w : ℕ) → SameFields (record_length w Stop) f g → stop_of w f ≡ stop_of w g
  unfolding stop_of
  stop_same w h =
      cc (
        h stop_id_field.start stop_id_field.width (omega arith),
        h stop_position_field.start stop_position_field.width (omega arith),
        h (stop_across_field w).start (stop_across_field w).width (omega arith),
      )

  pub line_same : SameFields (record_length 0 Line) f g → line_of f ≡ line_of g
  unfolding line_of
  line_same h = cc (h line_id_field.start line_id_field.width (omega arith), h line_serves_field.start line_serves_field.width (omega arith))

  pub aboard_same : SameFields (record_length 0 Aboard) f g → aboard_of f ≡ aboard_of g
  unfolding aboard_of
  aboard_same h =
      cc (h aboard_car_field.start aboard_car_field.width (omega arith), h aboard_destination_field.start aboard_destination_field.width (omega arith))

  pub waiting_same : SameFields (record_length 0 Waiting) f g → waiting_of f ≡ waiting_of g
  unfolding waiting_of
  waiting_same h =
      cc (
        h waiting_stop_field.start waiting_stop_field.width (omega arith),
        h waiting_line_field.start waiting_line_field.width (omega arith),
        h waiting_destination_field.start waiting_destination_field.width (omega arith),
        h waiting_weight_field.start waiting_weight_field.width (omega arith),
        h waiting_wait_field.start waiting_wait_field.width (omega arith),
      )

  pub demand_same : SameFields (record_length 0 Demand) f g → demand_of f ≡ demand_of g
  unfolding demand_of
  demand_same h =
      cc (
        h demand_stop_field.start demand_stop_field.width (omega arith),
        h demand_riding_field.start demand_riding_field.width (omega arith),
        h demand_call_field.start demand_call_field.width (omega arith),
      )

  -- a car, but for its restricted mask
  module _ (w : ℕ) (front : SameFields (past w car_restricted_field).start f g) (calls : read f (past w car_calls_field) ≡ read g (past w car_calls_field)) where
    read_same : (x : Field) → x.start + x.width ≤ (past w car_restricted_field).start → read f x ≡ read g x
    read_same x l = front x.start x.width l

    flag_same : (x : Field) → x.start + x.width ≤ (past w car_restricted_field).start → flag f x ≡ flag g x
    flag_same x l = ap (λ (n : ℕ). eqb n 1) (read_same x l)

    threshold_same : (p x : Field) → p.start + p.width ≤ (past w car_restricted_field).start → x.start + x.width ≤ (past w car_restricted_field).start
        → cond (flag f p) (Some (of_bits binary64 (read f x))) None
        ≡ cond (flag g p) (Some (of_bits binary64 (read g x))) None
    threshold_same p x l m =
        ap₂ (λ (b : Bool) (n : ℕ). cond b (Some (of_bits binary64 n)) None) (flag_same p l) (read_same x m)

    pub place_same : (car_of w f).position ≡ (car_of w g).position
    unfolding car_of
    place_same = cc (read_same car_position_field (omega arith), read_same (car_across_field w) (omega arith))

    pub car_like : LikeCar (car_of w f) (car_of w g)
    unfolding car_of
    car_like =
        record {
          id = read_same car_id_field (omega arith);
          line = read_same car_line_field (omega arith);
          phase = ap₂ phase_of (read_same car_phase_field (omega arith)) (read_same car_stop_field (omega arith));
          target = read_same car_target_field (omega arith);
          listed = flag_same car_listed_field (omega arith);
          up = flag_same car_up_field (omega arith);
          down = flag_same car_down_field (omega arith);
          direction = ap direction_of (flag_same car_sweep_field (omega arith));
          mode = ap mode_of (flag_same car_mode_field (omega arith));
          along = ap (of_bits binary64) (read_same car_position_field (omega arith));
          speed = ap (of_bits binary64) (read_same (past w car_speed_field) (omega arith));
          capacity = ap (of_bits binary64) (read_same (past w car_capacity_field) (omega arith));
          load = ap (of_bits binary64) (read_same (past w car_load_field) (omega arith));
          bypassup = threshold_same (past w car_has_bypass_up_field) (past w car_bypass_up_field) (omega arith) (omega arith);
          bypassdown = threshold_same (past w car_has_bypass_down_field) (past w car_bypass_down_field) (omega arith) (omega arith);
          transition = read_same (past w car_transition_field) (omega arith);
          dwell = read_same (past w car_dwell_field) (omega arith);
          calls = calls;
        }
