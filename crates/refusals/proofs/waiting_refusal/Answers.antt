-- refusals::waiting_refusal meets its contract.
use Prim.Native.Nat.{ℕ}
use Rattle.conditions.specs.Ids.{contains_seen}
use Rattle.fp.specs.Ranges.{is_mass}
use Rattle.layout.specs.Offsets.{end_of}
use Rattle.layout.specs.Table.{waiting_stop_field, waiting_has_line_field, waiting_line_field, waiting_has_destination_field, waiting_destination_field, waiting_weight_field, waiting_wait_field}
use Rattle.layout.specs.Records.{from, double, read}
use Rattle.layout.specs.Refusals.{absent_set, present_zero, has_stop, refusal8_waiting, refusal9_waiting, refusal10_waiting, refusal11_waiting, refusal14}
use Rattle.layout.specs.Verdict.{pick, first_of, body_refusal}
use Rattle.layout.specs.declared.Counts.{Counts}
use Rattle.components.specs.declared.Kind.TheVariants as Kind
use lib.Dec.{eqb, ltb}
use mathlib.Core.Bool.{Bool, not, ◌||◌}
use mathlib.Core.List.{List}
use mathlib.Core.Path.{◌≡◌, ◌∙◌}
use Rattle.refusals.proofs.waiting_refusal.Goals as goal

-- the conditions as they are read, then the picks from the last to the first
by_number : (s : List ℕ) (c : Counts) {at stop wait r14 r11 r10 r9 r8 : ℕ} {known line-unused line-zero to-unused to-zero light : Bool} →
    at ≡ end_of c →
    stop ≡ read (from s at) waiting_stop_field →
    known ≡ has_stop s c stop →
    line-unused ≡ absent_set (from s at) waiting_has_line_field waiting_line_field →
    line-zero ≡ present_zero (from s at) waiting_has_line_field waiting_line_field →
    to-unused ≡ absent_set (from s at) waiting_has_destination_field waiting_destination_field →
    to-zero ≡ present_zero (from s at) waiting_has_destination_field waiting_destination_field →
    light ≡ is_mass (double (from s at) waiting_weight_field) →
    wait ≡ read (from s at) waiting_wait_field →
    r14 ≡ pick (ltb 9007199254740992 wait) 14 0 →
    r11 ≡ pick (not light) 11 r14 →
    r10 ≡ pick (not known) 10 r11 →
    r9 ≡ pick (eqb stop 0 || (line-zero || to-zero)) 9 r10 →
    r8 ≡ pick (line-unused || to-unused) 8 r9 →
    r8 ≡ body_refusal s c Kind.Waiting (from s (end_of c))
unfolding first_of refusal8_waiting refusal9_waiting refusal10_waiting refusal11_waiting refusal14
by_number s c at-is stop_is Known-is line-unused-is line-zero-is to-unused-is to-zero-is light-is wait-is is14 is11 is10 is9 is8 =
    rw (
      is8,
      is9,
      is10,
      is11,
      is14,
      wait-is,
      light-is,
      to-zero-is,
      to-unused-is,
      line-zero-is,
      line-unused-is,
      Known-is,
      stop_is,
      at-is,
    )

pub returns : goal.returns
returns c =
    let late = c in
    let r = c in
    let line = c in
    let start = c in
    let a = start.args in
    by_number a.s.now a.c start.requires.0 start.requires.1
    (line.contains-known.ensures ∙ contains_seen _ _ _ _ _ _ start.requires.2) line.optional_at-line.ensures.0 line.optional_at-line.ensures.1
    r.optional_at-destination.ensures.0 r.optional_at-destination.ensures.1 r.mass_at-light.ensures r.field-long.ensures.is
    late.pick.ensures late.pick-2.ensures late.pick-late.ensures c.pick-3.ensures c.pick-4.ensures
