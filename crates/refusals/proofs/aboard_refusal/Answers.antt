-- refusals::aboard_refusal meets its contract.
use Prim.Native.Nat.{ℕ}
use Rattle.conditions.specs.Ids.{contains_seen}
use Rattle.layout.specs.Offsets.{end_of}
use Rattle.layout.specs.Table.{aboard_car_field, aboard_has_destination_field, aboard_destination_field}
use Rattle.layout.specs.Records.{from, read}
use Rattle.layout.specs.Refusals.{absent_set, present_zero, has_car, refusal8_aboard, refusal9_aboard, refusal10_aboard}
use Rattle.layout.specs.Verdict.{pick, first_of, body_refusal}
use Rattle.layout.specs.declared.Counts.{Counts}
use Rattle.components.specs.declared.Kind.TheVariants as Kind
use lib.Dec.{eqb}
use mathlib.Core.Bool.{Bool, not, ◌||◌}
use mathlib.Core.List.{List}
use mathlib.Core.Path.{◌≡◌, ◌∙◌}
use Rattle.refusals.proofs.aboard_refusal.Goals as goal

-- the conditions as they are read, then the picks from the last to the first
by_number : (s : List ℕ) (c : Counts) {at car r10 r9 r8 : ℕ} {known unused zero : Bool} →
    at ≡ end_of c →
    car ≡ read (from s at) aboard_car_field →
    known ≡ has_car s c car →
    unused ≡ absent_set (from s at) aboard_has_destination_field aboard_destination_field →
    zero ≡ present_zero (from s at) aboard_has_destination_field aboard_destination_field →
    r10 ≡ pick (not known) 10 0 →
    r9 ≡ pick (eqb car 0 || zero) 9 r10 →
    r8 ≡ pick unused 8 r9 →
    r8 ≡ body_refusal s c Kind.Aboard (from s (end_of c))
unfolding first_of refusal8_aboard refusal9_aboard refusal10_aboard
by_number s c at-is car_is Known-is unused-is zero_is is10 is9 is8 =
    rw (is8, is9, is10, zero_is, unused-is, Known-is, car_is, at-is)

pub returns : goal.returns
returns c =
    let r = c in
    let start = c in
    let a = start.args in
    by_number a.s.now a.c start.requires.0 start.requires.1
    (r.contains-known.ensures ∙ contains_seen _ _ _ _ _ _ start.requires.2) r.optional_at-destination.ensures.0 r.optional_at-destination.ensures.1
    c.pick.ensures c.pick-late.ensures c.pick-2.ensures
