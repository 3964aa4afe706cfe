-- One name that opens every definition from bytes to the verdict, for theorems by computation: `unfolding reading`. Assumes nothing.
use Rattle.std.specs.Prelude.{ℕ}
use Rattle.std.specs.Float.Ieee.{of_bits, lt, le, eq, neg}
use Rattle.laws.specs.Folds.{any}
use Rattle.fp.specs.Ranges.{is_position, is_speed, is_mass, is_threshold, is_tick_rate}
use Rattle.bits.specs.Field.{bit_at, field_at}
use Rattle.mask.specs.Mask.{has, past_stops}
use Rattle.components.specs.Points.{is_placed}
use Rattle.components.specs.Codes.{kind_of, strategy_of, traffic_of, phase_of, direction_of, mode_of}
use Rattle.layout.specs.Offsets.{last_kind}
use Rattle.layout.specs.Records.{policy_of, stop_of, line_of, car_of, aboard_of, waiting_of, demand_of, sheet_of, limit_of}
use Rattle.layout.specs.Refusals.{refusal2_head, refusal3, refusal6_empty, tail_fits, refusal16, refusal2, refusal5, refusal6, seen, last_stop}
use Rattle.layout.specs.Refusals.{refusal8_policy, refusal11_policy, refusal12, refusal9_stop, refusal11_stop, refusal9_line}
use Rattle.layout.specs.Refusals.{refusal10_line, refusal8_car, refusal9_car, refusal10_car, refusal11_car, refusal13, refusal8_aboard}
use Rattle.layout.specs.Refusals.{refusal9_aboard, refusal10_aboard, refusal8_waiting, refusal9_waiting, refusal10_waiting, refusal11_waiting}
use Rattle.layout.specs.Refusals.{refusal14, refusal9_demand, refusal10_demand, refusal9_closed, refusal10_closed}
use Rattle.layout.specs.Verdict.{pick, first_of, record_refusal, tail_verdict, records_verdict, verdict}

unfoldable pub reading : ℕ
unfolding of_bits lt le eq neg any is_placed is_position is_speed is_mass is_threshold is_tick_rate bit_at field_at has past_stops kind_of strategy_of traffic_of phase_of
    direction_of mode_of last_kind policy_of stop_of line_of car_of aboard_of waiting_of demand_of sheet_of limit_of refusal2_head refusal3 refusal6_empty
    tail_fits refusal16 refusal2 refusal5 refusal6 seen last_stop refusal8_policy refusal11_policy refusal12 refusal9_stop refusal11_stop
    refusal9_line refusal10_line refusal8_car refusal9_car refusal10_car refusal11_car refusal13 refusal8_aboard refusal9_aboard refusal10_aboard
    refusal8_waiting refusal9_waiting refusal10_waiting refusal11_waiting refusal14 refusal9_demand refusal10_demand refusal9_closed refusal10_closed pick first_of record_refusal
    tail_verdict records_verdict verdict
reading = 0
