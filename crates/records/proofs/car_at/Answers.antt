-- records::car_at meets its contract.
use Rattle.components.specs.Codes.{phase_of, direction_of, mode_of}
use Rattle.layout.specs.Table.{past, car_speed_field, car_capacity_field, car_load_field}
use Rattle.layout.specs.Records.{from, double, car_of}
use mathlib.Core.Path.{◌≡◌, ap, ap₂, ◌∙◌}
use Rattle.records.proofs.car_at.Goals as goal

pub returns : goal.returns
unfolding car_of
returns c =
    let d1 = c in
    let d2 = c in
    let d3 = c in
    let d4 = c in
    let d5 = c in
    let a = d5.args in
    let f = from a.s.now a.at in
    let speed : d2.double_at.result ≡ double f (past a.across car_speed_field) = d2.double_at.ensures in
    let capacity : d1.double_at-2.result ≡ double f (past a.across car_capacity_field) = d1.double_at-2.ensures in
    let load : d1.double_at-3.result ≡ double f (past a.across car_load_field) = d1.double_at-3.ensures in
    λ i. record {
      id = d5.field32.ensures i;
      line = d5.field32-2.ensures i;
      phase = (d4.of_code.ensures.is ∙ ap₂ phase_of d5.field.ensures.is d4.field32-3.ensures) i;
      target = d4.field32-4.ensures i;
      listed = d4.flag.ensures i;
      up = d3.flag-2.ensures i;
      down = d3.flag-3.ensures i;
      direction = (d3.from.ensures.0 ∙ ap direction_of d3.flag-4.ensures) i;
      mode = (d2.from-2.ensures.0 ∙ ap mode_of d2.flag-5.ensures) i;
      position = d2.point_at.ensures i;
      speed = speed i;
      capacity = capacity i;
      load = load i;
      bypassup = d1.threshold_at.ensures i;
      bypassdown = d1.threshold_at-2.ensures i;
      transition = c.field32-5.ensures i;
      dwell = c.field32-6.ensures i;
      restricted = c.field-2.ensures.is i;
      calls = c.field-3.ensures.is i;
    }
