-- Each refusal's condition, named by its number and kind, beside the sentence of document 01 that it says. f reads the record, c counts the records
-- before it. Number 1 is the host's and not of the bytes (outcome: Outcome). Assumes nothing.
use Rattle.std.specs.Prelude.{ℕ, ◌+◌, ◌-◌, ◌*◌, Bool, true, false, not, ◌&&◌, ◌||◌, cond, List, eqb, ltb, leb, length}
use Rattle.laws.specs.Folds.{any}
use Rattle.fp.specs.Ranges.{is_speed, is_mass, is_threshold, is_tick_rate}
use Rattle.mask.specs.Mask.{past_stops}
use Rattle.components.specs.declared.Kind.{Kind}
use Rattle.components.specs.declared.Kind.TheVariants.{Policy, Stop, Line, Car, Aboard, Waiting, Demand, Closed, Unknown}
use Rattle.components.specs.declared.Strategy.{Strategy}
use Rattle.components.specs.declared.Strategy.TheVariants.{Etd, Rsr, Scan}
use Rattle.components.specs.declared.Strategy.TheVariants as strategy
use Rattle.components.specs.declared.Phase.{Phase}
use Rattle.components.specs.declared.Phase.TheVariants.{Idle, MovingToStop, Repositioning, DoorOpening, Loading, DoorClosing, Stopped}
use Rattle.components.specs.declared.Phase.TheVariants as phase
use Rattle.components.specs.Codes.{kind_code, strategy_of, strategy_code, phase_of, phase_code}
use Rattle.components.specs.Cars.{is_moving}
use Rattle.components.specs.Points.{is_placed}
use Rattle.layout.specs.declared.Counts.{Counts}
use Rattle.layout.specs.Offsets.{across_in}
use Rattle.layout.specs.Offsets.{head_length, body_from, body_length, record_length, last_kind, stops_from, lines_from, cars_from, demands_from, closures_from}
use Rattle.layout.specs.Offsets.{stop_start, end_of}
use Rattle.layout.specs.Table.{Field, head_edition_field, head_count_field, record_kind_field, record_stated_field, first, policy_strategy_field, policy_limit_field, policy_rate_field}
use Rattle.layout.specs.Table.{policy_w0_field, policy_w1_field, policy_w2_field, policy_w3_field, policy_w4_field, policy_w5_field, stop_id_field, stop_position_field, line_id_field, line_serves_field}
use Rattle.layout.specs.Table.{car_id_field, car_line_field, car_phase_field, car_stop_field, car_has_target_field, car_target_field, car_position_field, car_speed_field, car_capacity_field}
use Rattle.layout.specs.Table.{car_load_field, car_has_bypass_up_field, car_bypass_up_field, car_has_bypass_down_field, car_bypass_down_field, car_transition_field, car_dwell_field}
use Rattle.layout.specs.Table.{car_restricted_field, car_calls_field, aboard_car_field, aboard_has_destination_field, aboard_destination_field, waiting_stop_field, waiting_has_line_field}
use Rattle.layout.specs.Table.{waiting_line_field, waiting_has_destination_field, waiting_destination_field, waiting_weight_field, waiting_wait_field, demand_stop_field, closed_stop_field}
use Rattle.layout.specs.Table.{past, stop_across_field, car_across_field}
use Rattle.layout.specs.Records.{Fields, from, read, flag, double, point}

-- ---- the head

abbrev pub edition : List ℕ → ℕ
edition s = read (from s 0) head_edition_field

abbrev pub record_count : List ℕ → ℕ
record_count s = read (from s 0) head_count_field

-- bit e lies past the end
abbrev pub past_end : List ℕ → ℕ → Bool
past_end s e = ltb (8 * length s) e

-- "2, the head .. passes the end"
unfoldable pub refusal2_head : List ℕ → Bool
refusal2_head s = past_end s head_length

-- "3, edition not 1", of request F-12: "3 is for editions other than 1 and 2"
unfoldable pub refusal3 : List ℕ → Bool
refusal3 s = not (eqb (edition s) 1 || eqb (edition s) 2)

-- "6, .. no kind 1 first", where the count is 0 and so no record is first: "24 for an empty count"
unfoldable pub refusal6_empty : List ℕ → Bool
refusal6_empty s = eqb (record_count s) 0

-- ---- every record

abbrev pub kind_at : List ℕ → Counts → ℕ
kind_at s c = read (from s (end_of c)) record_kind_field

-- the stated length of its body
abbrev pub length_at : List ℕ → Counts → ℕ
length_at s c = read (from s (end_of c)) record_stated_field

-- "2, .. a record's 22 bits or its stated body passes the end": where the 22 bits do, so does a body of any length
unfoldable pub refusal2 : List ℕ → Counts → Bool
refusal2 s c = past_end s (end_of c + body_from + length_at s c)

-- "4, kind not 1 to 7", of request F-2: "4 is now for kinds not 1 to 8"
abbrev pub refusal4 : Kind → Bool
refusal4 Policy = false
refusal4 Stop = false
refusal4 Line = false
refusal4 Car = false
refusal4 Aboard = false
refusal4 Waiting = false
refusal4 Demand = false
refusal4 Closed = false
refusal4 Unknown = true

-- "5, length not the kind's", in the sheet's edition
unfoldable pub refusal5 : Counts → Kind → ℕ → Bool
refusal5 c k n = not (eqb n (body_length k + across_in c.across k))

-- "6, kinds out of order, or no kind 1 first"
unfoldable pub refusal6 : Counts → ℕ → Bool
refusal6 c k = ltb k (last_kind c) || (eqb c.policies 0 && not (eqb k (kind_code Policy)))

-- "7, more records of kinds 1 to 6 than the table allows": the column "At most". "one a stop" of kind 7 is 9's
abbrev pub refusal7 : Counts → Kind → Bool
refusal7 c Policy = leb 1 c.policies
refusal7 c Stop = leb 64 c.stops
refusal7 c Line = leb 8 c.lines
refusal7 c Car = leb 32 c.cars
refusal7 c Aboard = leb 512 c.aboards
refusal7 c Waiting = leb 512 c.waits
refusal7 c Demand = false
refusal7 c Closed = false
refusal7 c Unknown = false

-- ---- the tail

-- "After the last record come 0 to 7 zero bits up to the byte's end, then nothing.": fewer than 8 bits are left, and they are zero
unfoldable pub tail_fits : List ℕ → Counts → Bool
tail_fits s c = not (past_end s (end_of c)) && (ltb (8 * length s - end_of c) 8 && eqb (from s (end_of c) 0 (8 * length s - end_of c)) 0)

-- "16, the tail isn't as above."
unfoldable pub refusal16 : List ℕ → Counts → Bool
refusal16 s c = not (tail_fits s c)

-- ---- looking back

-- one of the first n records of a kind, len bits each from base, has this id in its first field
unfoldable pub seen : List ℕ → ℕ → ℕ → ℕ → ℕ → Bool
seen s base len n id = any (λ i. eqb (read (from s (base + len * i)) (first 32)) id) n

abbrev pub has_stop : List ℕ → Counts → ℕ → Bool
has_stop s c id = seen s (stops_from c) (record_length c.across Stop) c.stops id

abbrev pub has_line : List ℕ → Counts → ℕ → Bool
has_line s c id = seen s (lines_from c) (record_length c.across Line) c.lines id

abbrev pub has_car : List ℕ → Counts → ℕ → Bool
has_car s c id = seen s (cars_from c) (record_length c.across Car) c.cars id

abbrev pub has_demand : List ℕ → Counts → ℕ → Bool
has_demand s c id = seen s (demands_from c) (record_length c.across Demand) c.demands id

abbrev pub has_closed : List ℕ → Counts → ℕ → Bool
has_closed s c id = seen s (closures_from c) (record_length c.across Closed) c.closures id

-- the id of the last stop record, 0 before the first
unfoldable pub last_stop : List ℕ → Counts → ℕ
last_stop s c = cond (eqb c.stops 0) 0 (read (from s (stop_start c (c.stops - 1))) stop_id_field)

-- a field that is absent has a one bit
abbrev pub absent_set : Fields → Field → Field → Bool
absent_set f present x = not (flag f present) && not (eqb (read f x) 0)

-- an id that is present is 0
abbrev pub present_zero : Fields → Field → Field → Bool
present_zero f present x = flag f present && eqb (read f x) 0

-- ---- kind 1, policy

abbrev pub strategy_at : Fields → Strategy
strategy_at f = strategy_of (read f policy_strategy_field)

-- "Unused are ETD's sixth weight, SCAN's six": one of them has a one bit
abbrev pub unused_weights : Strategy → Fields → Bool
unused_weights Etd f = not (eqb (read f policy_w5_field) 0)
unused_weights Rsr f = false
unused_weights Scan f =
    not (eqb (read f policy_w0_field) 0)
    || (not (eqb (read f policy_w1_field) 0)
    || (not (eqb (read f policy_w2_field) 0)
    || (not (eqb (read f policy_w3_field) 0)
    || (not (eqb (read f policy_w4_field) 0)
    || not (eqb (read f policy_w5_field) 0)))))
unused_weights strategy.Unknown f = false

-- "8, strategy 3, .. or a one bit in an absent or unused field"
unfoldable pub refusal8_policy : Fields → Bool
refusal8_policy f = eqb (strategy_code (strategy_at f)) 3 || unused_weights (strategy_at f) f

-- "11, a double outside: .. the six weights 0 to 1,000,000,000; .. tick rate 1 to 1,000,000"
unfoldable pub refusal11_policy : Fields → Bool
refusal11_policy f =
    not (is_tick_rate (double f policy_rate_field)
    && (is_mass (double f policy_w0_field)
    && (is_mass (double f policy_w1_field)
    && (is_mass (double f policy_w2_field)
    && (is_mass (double f policy_w3_field)
    && (is_mass (double f policy_w4_field)
    && is_mass (double f policy_w5_field)))))))

-- "12, limit 0"
unfoldable pub refusal12 : Fields → Bool
refusal12 f = eqb (read f policy_limit_field) 0

-- ---- kind 2, stop

-- "9, id 0 in any id field that is present and used, a stop id not above the last"
unfoldable pub refusal9_stop : List ℕ → Counts → Fields → Bool
refusal9_stop s c f = eqb (read f stop_id_field) 0 || leb (read f stop_id_field) (last_stop s c)

-- "11, .. positions -1,000,000 to 1,000,000"; of request F-12: "a second coordinate after the position, same range"
unfoldable pub refusal11_stop : Counts → Fields → Bool
refusal11_stop c f = not (is_placed (point f stop_position_field (stop_across_field c.across)))

-- ---- kind 3, line

-- "9, id 0 .., a line id of an earlier line"
unfoldable pub refusal9_line : List ℕ → Counts → Fields → Bool
refusal9_line s c f = eqb (read f line_id_field) 0 || has_line s c (read f line_id_field)

-- "10, .. a mask bit past the stops"
unfoldable pub refusal10_line : Counts → Fields → Bool
refusal10_line c f = past_stops (read f line_serves_field) c.stops

-- ---- kind 4, car

abbrev pub phase_at : Fields → Phase
phase_at f = phase_of (read f car_phase_field) (read f car_stop_field)

-- "Unused are .. the stop of any phase but 1 and 2": it has a one bit
abbrev pub unused_stop : Phase → Bool → Bool
unused_stop Idle set = set
unused_stop (MovingToStop id) set = false
unused_stop (Repositioning id) set = false
unused_stop DoorOpening set = set
unused_stop Loading set = set
unused_stop DoorClosing set = set
unused_stop Stopped set = set
unused_stop phase.Unknown set = false

-- "8, .. phase 7, or a one bit in an absent or unused field"
unfoldable pub refusal8_car : Counts → Fields → Bool
refusal8_car c f =
    eqb (phase_code (phase_at f)) 7
    || (unused_stop (phase_at f) (not (eqb (read f car_stop_field) 0))
    || (absent_set f car_has_target_field car_target_field
    || (absent_set f (past c.across car_has_bypass_up_field) (past c.across car_bypass_up_field)
    || absent_set f (past c.across car_has_bypass_down_field) (past c.across car_bypass_down_field))))

-- "9, id 0 in any id field that is present and used, .. a car id of an earlier car"
unfoldable pub refusal9_car : List ℕ → Counts → Fields → Bool
refusal9_car s c f =
    eqb (read f car_id_field) 0
    || (eqb (read f car_line_field) 0
    || ((is_moving (phase_at f) && eqb (read f car_stop_field) 0)
    || (present_zero f car_has_target_field car_target_field
    || has_car s c (read f car_id_field))))

-- "10, no record for a car's line, .. a mask bit past the stops"
unfoldable pub refusal10_car : List ℕ → Counts → Fields → Bool
refusal10_car s c f =
    not (has_line s c (read f car_line_field))
    || (past_stops (read f (past c.across car_restricted_field)) c.stops
    || past_stops (read f (past c.across car_calls_field)) c.stops)

-- "11, a double outside: positions ..; speed 0, or 1/1,024 to 1,000; capacity, load .. 0 to 1,000,000,000; thresholds 0 to 1,000"; an absent
-- threshold is zero by then
unfoldable pub refusal11_car : Counts → Fields → Bool
refusal11_car c f =
    not (is_placed (point f car_position_field (car_across_field c.across))
    && (is_speed (double f (past c.across car_speed_field))
    && (is_mass (double f (past c.across car_capacity_field))
    && (is_mass (double f (past c.across car_load_field))
    && (is_threshold (double f (past c.across car_bypass_up_field))
    && is_threshold (double f (past c.across car_bypass_down_field)))))))

-- "13, twice the transition ticks plus open ticks above 4,294,967,295"
unfoldable pub refusal13 : Counts → Fields → Bool
refusal13 c f = ltb 4294967295 (2 * read f (past c.across car_transition_field) + read f (past c.across car_dwell_field))

-- ---- kind 5, aboard

-- "8, .. a one bit in an absent or unused field"
unfoldable pub refusal8_aboard : Fields → Bool
refusal8_aboard f = absent_set f aboard_has_destination_field aboard_destination_field

-- "9, id 0 in any id field that is present and used"
unfoldable pub refusal9_aboard : Fields → Bool
refusal9_aboard f = eqb (read f aboard_car_field) 0 || present_zero f aboard_has_destination_field aboard_destination_field

-- "10, no record for .. an aboard rider's car"
unfoldable pub refusal10_aboard : List ℕ → Counts → Fields → Bool
refusal10_aboard s c f = not (has_car s c (read f aboard_car_field))

-- ---- kind 6, waiting

-- "8, .. a one bit in an absent or unused field"
unfoldable pub refusal8_waiting : Fields → Bool
refusal8_waiting f = absent_set f waiting_has_line_field waiting_line_field || absent_set f waiting_has_destination_field waiting_destination_field

-- "9, id 0 in any id field that is present and used"
unfoldable pub refusal9_waiting : Fields → Bool
refusal9_waiting f = eqb (read f waiting_stop_field) 0 ||
    (present_zero f waiting_has_line_field waiting_line_field || present_zero f waiting_has_destination_field waiting_destination_field)

-- "10, no record for .. the stop of kinds 6 and 7"
unfoldable pub refusal10_waiting : List ℕ → Counts → Fields → Bool
refusal10_waiting s c f = not (has_stop s c (read f waiting_stop_field))

-- "11, .. rider weight .. 0 to 1,000,000,000"
unfoldable pub refusal11_waiting : Fields → Bool
refusal11_waiting f = not (is_mass (double f waiting_weight_field))

-- "14, wait ticks above 9,007,199,254,740,992"
unfoldable pub refusal14 : Fields → Bool
refusal14 f = ltb 9007199254740992 (read f waiting_wait_field)

-- ---- kind 7, demand

-- "9, id 0 .., a second kind 7 for a stop"
unfoldable pub refusal9_demand : List ℕ → Counts → Fields → Bool
refusal9_demand s c f = eqb (read f demand_stop_field) 0 || has_demand s c (read f demand_stop_field)

-- "10, no record for .. the stop of kinds 6 and 7"
unfoldable pub refusal10_demand : List ℕ → Counts → Fields → Bool
refusal10_demand s c f = not (has_stop s c (read f demand_stop_field))

-- ---- kind 8, closed

-- 9, an id is 0, or of request F-2: "A second one for a stop is 9"
unfoldable pub refusal9_closed : List ℕ → Counts → Fields → Bool
refusal9_closed s c f = eqb (read f closed_stop_field) 0 || has_closed s c (read f closed_stop_field)

-- "an unlisted stop is 10"
unfoldable pub refusal10_closed : List ℕ → Counts → Fields → Bool
refusal10_closed s c f = not (has_stop s c (read f closed_stop_field))
