-- covered::target_at meets its contract.
use Rattle.layout.specs.Table.{car_phase_field, car_stop_field, car_target_field}
use Prim.Native.Nat.{ℕ}
use Rattle.components.specs.Cars.{servicing}
use Rattle.components.specs.Codes.{phase_of}
use Rattle.components.specs.declared.Phase.{Phase}
use Rattle.covered.specs.Columns.{served_target}
use Rattle.layout.specs.Records.{from, car_of, read}
use mathlib.Core.Bool.{Bool, true, false}
use mathlib.Core.List.{List}
use mathlib.Core.Path.{◌≡◌}
use Rattle.covered.proofs.target_at.Goals as goal

serving : (s : List ℕ) (at w : ℕ) {code stop target : ℕ} {phase : Phase} {serves : Bool} →
    code ≡ read (from s at) car_phase_field →
    stop ≡ read (from s at) car_stop_field →
    phase ≡ phase_of code stop →
    serves ≡ servicing phase →
    serves ≡ true →
    target ≡ read (from s at) car_target_field →
    target ≡ served_target (car_of w (from s at))
unfolding car_of
serving s at w code_is stop_is phase-is serves_is is target_is =
    rw (← code_is, ← stop_is, ← phase-is, ← serves_is, is) target_is

not_serving : (s : List ℕ) (at w : ℕ) {code stop : ℕ} {phase : Phase} {serves : Bool} →
    code ≡ read (from s at) car_phase_field →
    stop ≡ read (from s at) car_stop_field →
    phase ≡ phase_of code stop →
    serves ≡ servicing phase →
    serves ≡ false →
    0 ≡ served_target (car_of w (from s at))
unfolding car_of
not_serving s at w code_is stop_is phase-is serves_is is = rw (← code_is, ← stop_is, ← phase-is, ← serves_is, is)

pub returns-then-servicing : goal.returns-then-servicing
returns-then-servicing c w =
    let r = c in
    let a = r.args in
    serving a.s.now a.at w r.field.ensures.is r.field32.ensures r.of_code-phase.ensures.is
    c.servicing.ensures c.if-servicing.true c.field32-then-servicing.ensures

pub returns-else-servicing : goal.returns-else-servicing
returns-else-servicing c w =
    let r = c in
    let a = r.args in
    not_serving a.s.now a.at w r.field.ensures.is r.field32.ensures r.of_code-phase.ensures.is
    c.servicing.ensures c.if-servicing.false
