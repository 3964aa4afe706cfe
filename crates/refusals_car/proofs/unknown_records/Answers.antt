-- refusals_car::unknown_records meets its contract.
use Prim.Native.Nat.{ℕ}
use Rattle.layout.specs.Table.{past, car_line_field, car_restricted_field, car_calls_field}
use Rattle.layout.specs.Records.{from, read}
use Rattle.layout.specs.Refusals.{has_line, refusal10_car}
use Rattle.layout.specs.declared.Counts.{Counts}
use Rattle.mask.specs.Mask.{past_stops}
use mathlib.Core.Bool.{Bool, not, ◌||◌}
use mathlib.Core.List.{List}
use mathlib.Core.Path.{◌≡◌}
use Rattle.refusals_car.proofs.unknown_records.Goals as goal

as_read : (s : List ℕ) (c : Counts) (at : ℕ) {line restricted calls : ℕ} {known restricted-past calls-past : Bool} →
    line ≡ read (from s at) car_line_field →
    known ≡ has_line s c line →
    restricted ≡ read (from s at) (past c.across car_restricted_field) →
    restricted-past ≡ past_stops restricted c.stops →
    calls ≡ read (from s at) (past c.across car_calls_field) →
    calls-past ≡ past_stops calls c.stops →
    (not known || (restricted-past || calls-past)) ≡ refusal10_car s c (from s at)
unfolding refusal10_car
as_read s c at line-is Known-is restricted-is restricted-past-is calls_is calls-past-is =
    rw (calls-past-is, calls_is, restricted-past-is, restricted-is, Known-is, line-is)

pub returns : goal.returns
returns c =
    let start = c in
    let a = start.args in
    as_read a.s.now a.c a.at start.requires.1 c.has_line-known.ensures c.field.ensures.is c.past_stops-restricted.ensures
    c.field-2.ensures.is c.past_stops-calls.ensures
