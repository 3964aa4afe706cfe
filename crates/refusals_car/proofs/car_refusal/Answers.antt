-- refusals_car::car_refusal meets its contract.
use Prim.Native.Nat.{ℕ}
use Rattle.layout.specs.Offsets.{end_of}
use Rattle.layout.specs.Table.{car_phase_field, car_stop_field}
use Rattle.layout.specs.Records.{from, read}
use Rattle.layout.specs.Refusals.{phase_at, refusal8_car, refusal9_car, refusal10_car, refusal11_car, refusal13}
use Rattle.layout.specs.Verdict.{pick, first_of, body_refusal}
use Rattle.layout.specs.declared.Counts.{Counts}
use Rattle.components.specs.declared.Kind.TheVariants as Kind
use Rattle.components.specs.declared.Phase.{Phase}
use Rattle.components.specs.Codes.{phase_of}
use mathlib.Core.Bool.{Bool}
use mathlib.Core.List.{List}
use mathlib.Core.Path.{◌≡◌}
use Rattle.refusals_car.proofs.car_refusal.Goals as goal

-- the conditions as they are read, then the picks from the last to the first
by_number : (s : List ℕ) (c : Counts) {at r13 r11 r10 r9 r8 : ℕ} {outside long unused bad unknown : Bool} →
    at ≡ end_of c →
    outside ≡ refusal11_car c (from s at) →
    long ≡ refusal13 c (from s at) →
    unused ≡ refusal8_car c (from s at) →
    bad ≡ refusal9_car s c (from s at) →
    unknown ≡ refusal10_car s c (from s at) →
    r13 ≡ pick long 13 0 →
    r11 ≡ pick outside 11 r13 →
    r10 ≡ pick unknown 10 r11 →
    r9 ≡ pick bad 9 r10 →
    r8 ≡ pick unused 8 r9 →
    r8 ≡ body_refusal s c Kind.Car (from s (end_of c))
unfolding first_of
by_number s c at-is outside-is long-is unused-is bad-is unknown-is is13 is11 is10 is9 is8 =
    rw (is8, is9, is10, is11, is13, unknown-is, bad-is, unused-is, long-is, outside-is, at-is)

-- the phase as it is read
phase_read : (s : List ℕ) (at : ℕ) {code stop : ℕ} {phase : Phase} →
    phase ≡ phase_of code stop →
    code ≡ read (from s at) car_phase_field →
    stop ≡ read (from s at) car_stop_field →
    phase ≡ phase_at (from s at)
phase_read s at phase-is code_is stop_is = rw (phase-is, code_is, stop_is)

pub unused_bits-unused-requires : goal.unused_bits-unused-requires
unused_bits-unused-requires c =
    let start = c in
    let a = start.args in
    let target = c.optional_at-target.ensures in
    let stop = c.field32-stop.ensures in (
      start.requires.0,
      stop,
      phase_read a.s.now a.at c.of_code-phase.ensures.is c.field.ensures.is stop,
      target.0,
      c.field-up.ensures.is,
      c.field-down.ensures.is,
    )

pub bad_ids-bad-requires : goal.bad_ids-bad-requires
bad_ids-bad-requires c =
    let start = c in
    let a = start.args in
    let stop = c.field32-stop.ensures in (
      start.requires.2,
      c.field32-line.ensures,
      stop,
      phase_read a.s.now a.at c.of_code-phase.ensures.is c.field.ensures.is stop,
      c.optional_at-target.ensures.1,
      start.requires.3,
    )

pub unknown_records-unknown-requires : goal.unknown_records-unknown-requires
unknown_records-unknown-requires c = (c.requires.0, c.field32-line.ensures)

pub out_of_range-requires : goal.out_of_range-requires
out_of_range-requires c = (c.requires.0, c.field-up.ensures.is, c.field-down.ensures.is)

pub long_doors-requires : goal.long_doors-requires
long_doors-requires c = c.requires.0

pub returns : goal.returns
returns c =
    let late = c in
    let tests = c in
    let start = c in
    let a = start.args in
    by_number a.s.now a.c start.requires.1 tests.out_of_range.ensures tests.long_doors.ensures
    tests.unused_bits-unused.ensures tests.bad_ids-bad.ensures
    tests.unknown_records-unknown.ensures
    late.pick.ensures late.pick-late.ensures c.pick-2.ensures c.pick-3.ensures c.pick-4.ensures
