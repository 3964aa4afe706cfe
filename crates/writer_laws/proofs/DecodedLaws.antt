-- Fields that were put are decoded as the item (Decoded). Assumes nothing.
use Rattle.std.specs.Prelude.{None, Option, Some}
use Rattle.std.specs.Prelude.{ℕ, ◌%◌, ◌^◌, ◌<◌, ◌≡◌, Bool, true, false, cond, List, eqb, Float}
use Rattle.std.proofs.Common.{ap, ap₂, ◌∙◌, mod-eq_of_lt}
use Rattle.std.proofs.Math.Nat.{mod-one}
use Rattle.std.specs.Float.{binary64}
use Rattle.std.specs.Float.Ieee.{of_bits}
use Rattle.std.specs.Float.Ieee.Bits.{of_bits-to_bits, to_bits-lt}
use Rattle.laws.specs.Bools.{bit}
use Rattle.components.specs.declared.Point.{Point}
use Rattle.components.specs.declared.Strategy.{Strategy}
use Rattle.components.specs.declared.Strategy.TheVariants as strategy
use Rattle.components.specs.declared.Traffic.{Traffic}
use Rattle.components.specs.declared.Traffic.TheVariants as traffic
use Rattle.components.specs.declared.Phase.{Phase}
use Rattle.components.specs.declared.Phase.TheVariants as phase
use Rattle.components.specs.declared.Direction.{Direction}
use Rattle.components.specs.declared.Direction.TheVariants as direction
use Rattle.components.specs.declared.Mode.{Mode}
use Rattle.components.specs.declared.Mode.TheVariants as mode
use Rattle.components.specs.Codes.{strategy_of, strategy_code, traffic_of, traffic_code, phase_of, phase_code, direction_of, direction_code, mode_of, mode_code}
use Rattle.layout.specs.Records.{policy_of, stop_of, line_of, car_of, aboard_of, waiting_of, demand_of}
use Rattle.values.specs.Values.{bits_of, phase_stop, threshold_present, threshold_bits, policy_values, stop_values, line_values, car_values}
use Rattle.values.specs.Values.{aboard_values, waiting_values, demand_values, closed_values}
use Rattle.encoder.specs.Encoded.{record_fields, record_values}
use Rattle.encoder.specs.EncodedLaws.{Reads}
use Rattle.writer.specs.declared.Edition.{Edition}
use Rattle.writer.specs.declared.Edition.TheVariants.{First, Second}
use Rattle.writer_laws.specs.Run.{Item, policy, stop, line, car, aboard, waiting, demand, closed, item_kind, item_values, across_of}
use Rattle.writer_laws.specs.Decoded.{Double, PointFits, ThresholdFits, ItemFits, point_in, Decoded}

-- ---- each value comes back

number : (v n w : ℕ) → v ≡ n % 2 ^ w → n < 2 ^ w → v ≡ n
number v n w h l = h ∙ mod-eq_of_lt l

double : (v : ℕ) (x : Float) → v ≡ bits_of x % 2 ^ 64 → Double x → of_bits binary64 v ≡ x
double v x h d = ap (of_bits binary64) (h ∙ mod-eq_of_lt (to_bits-lt binary64 x d)) ∙ of_bits-to_bits binary64 x d

point : (e : Edition) (a b : ℕ) (p : Point) → a ≡ bits_of p.along % 2 ^ 64 → b ≡ bits_of p.across % 2 ^ across_of e → PointFits p
    → ◌≡◌ {A = Point} (record { along = of_bits binary64 a; across = of_bits binary64 b }) (point_in e p)
point First a b p h k d = λ i. record { along = double a p.along h d.0 i; across = of_bits binary64 ((k ∙ mod-one (bits_of p.across)) i) }
point Second a b p h k d = λ i. record { along = double a p.along h d.0 i; across = double b p.across k d.1 i }

flag : (v : ℕ) (b : Bool) → v ≡ bit b % 2 ^ 1 → eqb v 1 ≡ b
flag v true h = ap (λ (x : ℕ). eqb x 1) h
flag v false h = ap (λ (x : ℕ). eqb x 1) h

direction_back : (v : ℕ) (d : Direction) → v ≡ direction_code d % 2 ^ 1 → direction_of (eqb v 1) ≡ d
unfolding direction_of
direction_back v direction.Up h = ap (λ (x : ℕ). direction_of (eqb x 1)) h
direction_back v direction.Down h = ap (λ (x : ℕ). direction_of (eqb x 1)) h

mode_back : (v : ℕ) (m : Mode) → v ≡ mode_code m % 2 ^ 1 → mode_of (eqb v 1) ≡ m
unfolding mode_of
mode_back v mode.Strict h = ap (λ (x : ℕ). mode_of (eqb x 1)) h
mode_back v mode.Lenient h = ap (λ (x : ℕ). mode_of (eqb x 1)) h

strategy_back : (v : ℕ) (s : Strategy) → v ≡ strategy_code s % 2 ^ 2 → strategy_of v ≡ s
unfolding strategy_of
strategy_back v strategy.Etd h = ap strategy_of h
strategy_back v strategy.Rsr h = ap strategy_of h
strategy_back v strategy.Scan h = ap strategy_of h
strategy_back v strategy.Unknown h = ap strategy_of h

traffic_back : (v : ℕ) (x : Traffic) → v ≡ traffic_code x % 2 ^ 2 → traffic_of v ≡ x
unfolding traffic_of
traffic_back v traffic.Idle h = ap traffic_of h
traffic_back v traffic.UpPeak h = ap traffic_of h
traffic_back v traffic.InterFloor h = ap traffic_of h
traffic_back v traffic.DownPeak h = ap traffic_of h

pub phase_back : (v u : ℕ) (p : Phase) → v ≡ phase_code p % 2 ^ 3 → u ≡ phase_stop p % 2 ^ 32 → phase_stop p < 2 ^ 32 → phase_of v u ≡ p
unfolding phase_of
phase_back v u phase.Idle h k l = ap₂ phase_of h k
phase_back v u (phase.MovingToStop id) h k l = ap₂ phase_of h (number u id 32 k l)
phase_back v u (phase.Repositioning id) h k l = ap₂ phase_of h (number u id 32 k l)
phase_back v u phase.DoorOpening h k l = ap₂ phase_of h k
phase_back v u phase.Loading h k l = ap₂ phase_of h k
phase_back v u phase.DoorClosing h k l = ap₂ phase_of h k
phase_back v u phase.Stopped h k l = ap₂ phase_of h k
phase_back v u phase.Unknown h k l = ap₂ phase_of h k

threshold_back : (v u : ℕ) (x : Option Float) → v ≡ threshold_present x % 2 ^ 1 → u ≡ threshold_bits x % 2 ^ 64 → ThresholdFits x
    → cond (eqb v 1) (Some (of_bits binary64 u)) None ≡ x
threshold_back v u None h k d = ap (λ (y : ℕ). cond (eqb y 1) (Some (of_bits binary64 u)) None) h
threshold_back v u (Some x) h k d =
    ap (λ (y : ℕ). cond (eqb y 1) (Some (of_bits binary64 u)) None) h ∙ ap Some (double u x k d)

-- ---- each record

module _ (e : Edition) (t : List ℕ) (at : ℕ) where
  -- fields that were put are decoded as the item
  pub decoded : (x : Item) → ItemFits x → Reads t at (record_fields (across_of e) (item_kind x)) (record_values (across_of e) (item_kind x) (item_values x))
      → Decoded e t at x
  unfolding Reads policy_of policy_values stop_of stop_values line_of line_values car_of car_values aboard_of aboard_values waiting_of waiting_values demand_of demand_values closed_values
  decoded (policy l x) d h = (
    λ i. record {
      strategy = strategy_back _ x.strategy h.1.1.0 i;
      rate = double _ x.rate h.1.1.1.1.0 d.rate i;
      traffic = traffic_back _ x.traffic h.1.1.1.1.1.0 i;
      w0 = double _ x.w0 h.1.1.1.1.1.1.0 d.w0 i;
      w1 = double _ x.w1 h.1.1.1.1.1.1.1.0 d.w1 i;
      w2 = double _ x.w2 h.1.1.1.1.1.1.1.1.0 d.w2 i;
      w3 = double _ x.w3 h.1.1.1.1.1.1.1.1.1.0 d.w3 i;
      w4 = double _ x.w4 h.1.1.1.1.1.1.1.1.1.1.0 d.w4 i;
      w5 = double _ x.w5 h.1.1.1.1.1.1.1.1.1.1.1.0 d.w5 i;
    },
    number _ l 16 h.1.1.1.0 d.limit,
  )
  decoded (stop x) d h =
      λ i. record {
        id = number _ x.id 32 h.1.1.0 d.id i;
        position = point e _ _ x.position h.1.1.1.0 h.1.1.1.1.0 d.position i;
      }
  decoded (line x) d h =
      λ i. record {
        id = number _ x.id 32 h.1.1.0 d.id i;
        serves = number _ x.serves 64 h.1.1.1.0 d.serves i;
      }
  decoded (car x) d h =
      λ i. record {
        id = number _ x.id 32 h.1.1.0 d.id i;
        line = number _ x.line 32 h.1.1.1.0 d.line i;
        phase = phase_back _ _ x.phase h.1.1.1.1.0 h.1.1.1.1.1.0 d.phase i;
        target = number _ x.target 32 h.1.1.1.1.1.1.1.0 d.target i;
        listed = flag _ x.listed h.1.1.1.1.1.1.1.1.0 i;
        up = flag _ x.up h.1.1.1.1.1.1.1.1.1.0 i;
        down = flag _ x.down h.1.1.1.1.1.1.1.1.1.1.0 i;
        direction = direction_back _ x.direction h.1.1.1.1.1.1.1.1.1.1.1.0 i;
        mode = mode_back _ x.mode h.1.1.1.1.1.1.1.1.1.1.1.1.0 i;
        position = point e _ _ x.position h.1.1.1.1.1.1.1.1.1.1.1.1.1.0
            h.1.1.1.1.1.1.1.1.1.1.1.1.1.1.0 d.position i;
        speed = double _ x.speed h.1.1.1.1.1.1.1.1.1.1.1.1.1.1.1.0 d.speed i;
        capacity = double _ x.capacity h.1.1.1.1.1.1.1.1.1.1.1.1.1.1.1.1.0 d.capacity i;
        load = double _ x.load h.1.1.1.1.1.1.1.1.1.1.1.1.1.1.1.1.1.0 d.load i;
        bypassup = threshold_back _ _ x.bypassup h.1.1.1.1.1.1.1.1.1.1.1.1.1.1.1.1.1.1.0
            h.1.1.1.1.1.1.1.1.1.1.1.1.1.1.1.1.1.1.1.0 d.bypassup i;
        bypassdown = threshold_back _ _ x.bypassdown h.1.1.1.1.1.1.1.1.1.1.1.1.1.1.1.1.1.1.1.1.0
            h.1.1.1.1.1.1.1.1.1.1.1.1.1.1.1.1.1.1.1.1.1.0 d.bypassdown i;
        transition = number _ x.transition 32 h.1.1.1.1.1.1.1.1.1.1.1.1.1.1.1.1.1.1.1.1.1.1.0 d.transition i;
        dwell = number _ x.dwell 32 h.1.1.1.1.1.1.1.1.1.1.1.1.1.1.1.1.1.1.1.1.1.1.1.0 d.dwell i;
        restricted = number _ x.restricted 64 h.1.1.1.1.1.1.1.1.1.1.1.1.1.1.1.1.1.1.1.1.1.1.1.1.0 d.restricted i;
        calls = number _ x.calls 64 h.1.1.1.1.1.1.1.1.1.1.1.1.1.1.1.1.1.1.1.1.1.1.1.1.1.0 d.calls i;
      }
  decoded (aboard x) d h =
      λ i. record {
        car = number _ x.car 32 h.1.1.0 d.car i;
        destination = number _ x.destination 32 h.1.1.1.1.0 d.destination i;
      }
  decoded (waiting x) d h =
      λ i. record {
        stop = number _ x.stop 32 h.1.1.0 d.stop i;
        line = number _ x.line 32 h.1.1.1.1.0 d.line i;
        destination = number _ x.destination 32 h.1.1.1.1.1.1.0 d.destination i;
        weight = double _ x.weight h.1.1.1.1.1.1.1.0 d.weight i;
        wait = number _ x.wait 64 h.1.1.1.1.1.1.1.1.0 d.wait i;
      }
  decoded (demand x) d h =
      λ i. record {
        stop = number _ x.stop 32 h.1.1.0 d.stop i;
        riding = number _ x.riding 16 h.1.1.1.0 d.riding i;
        call = flag _ x.call h.1.1.1.1.0 i;
      }
  decoded (closed id) d h = number _ id 32 h.1.1.0 d
