-- refusals_car::long_doors meets its contract.
use Prim.Native.Nat.{ℕ, ◌+◌, ◌*◌}
use Rattle.layout.specs.Table.{past, car_transition_field, car_dwell_field}
use Rattle.layout.specs.declared.Counts.{Counts}
use Rattle.layout.specs.Records.{from, read}
use Rattle.layout.specs.Refusals.{refusal13}
use lib.Dec.{ltb}
use mathlib.Core.List.{List}
use mathlib.Core.Path.{◌≡◌}
use Rattle.refusals_car.proofs.long_doors.Goals as goal

as_read : (s : List ℕ) (c : Counts) (at : ℕ) {transition dwell : ℕ} →
    transition ≡ read (from s at) (past c.across car_transition_field) →
    dwell ≡ read (from s at) (past c.across car_dwell_field) →
    ltb 4294967295 (2 * transition + dwell) ≡ refusal13 c (from s at)
unfolding refusal13
as_read s c at transition-is dwell-is = rw (transition-is, dwell-is)

pub returns : goal.returns
returns c =
    let a = c.args in
    as_read a.s.now a.c a.at c.field-transition.ensures.is c.field-dwell.ensures.is
