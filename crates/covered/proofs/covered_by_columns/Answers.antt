-- covered::covered_by_columns meets its contract.
use Rattle.layout.specs.Table.{car_line_field, line_id_field}
use Rattle.layout.specs.Offsets.{record_length}
use Rattle.components.specs.declared.Kind.TheVariants.{Line}
use Prim.Native.Nat.{ℕ, ◌+◌, ◌*◌}
use Rattle.components.specs.Cars.{remaining}
use Rattle.covered.proofs.Front.{held_front}
use Rattle.covered.specs.Columns.{served_target}
use Rattle.layout.specs.Records.{from, car_of, line_of, sheet_of, read}
use Rattle.std.proofs.lemmas.List.{length-take-le}
use lib.Ieee.{nan}
use mathlib.Core.Path.{ap, ap₂, ◌∙◌}
use native.Mathlib.Omega.{arith}
use Rattle.covered.proofs.covered_by_columns.Goals as goal

-- the columns hold the cars' and the lines' fields
pub covered_waits-requires-clause-holds_serving : goal.covered_waits-requires-clause-holds_serving
unfolding sheet_of car_of line_of
covered_waits-requires-clause-holds_serving c =
    let a = c.args in
    let b = a.s.now in
    let at = c.cars_from in
    let len = c.car_bits in
    let lines = c.lines_from in
    let p = c.requires in (
      record {
        target = λ i l. held_front (λ k. served_target ((sheet_of b a.c).car k)) a.c.cars _ _ c.fill_targets.ensures.1 0 i l;
        line = λ i l.
            held_front (λ k. read (from b (at.result + len.result * k)) car_line_field) a.c.cars _ _ c.fill32.ensures.1 0 i l
            ∙ ap₂ (λ (x y : ℕ). read (from b (x + y * i)) car_line_field) at.ensures len.ensures;
        room = λ i l. held_front (λ k. remaining ((sheet_of b a.c).car k)) a.c.cars _ _ c.fill_rooms.ensures.1 nan i l;
        line_id = λ l k.
            held_front (λ k. read (from b (lines.result + record_length 0 Line * k)) line_id_field) a.c.lines _ _ c.fill32-2.ensures.1 0 l k
            ∙ ap (λ (x : ℕ). read (from b (x + record_length 0 Line * l)) line_id_field) lines.ensures;
      },
      length-take-le a.c.cars c.fill_targets.new.out (omega (arith, p.0.cars, c.fill_targets.ensures.0)),
      length-take-le a.c.lines c.fill32-2.new.out (omega (arith, p.0.lines, c.fill32-2.ensures.0)),
      p.2,
    )
