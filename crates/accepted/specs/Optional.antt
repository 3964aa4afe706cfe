-- An optional id of an accepted sheet is 0 exactly where its present bit is not set: nothing is lost where the sheet holds the field alone. Assumes
-- nothing.
use Rattle.std.specs.Prelude.{Ok}
use Rattle.std.specs.Prelude.{ℕ, ◌<◌, ◌≡◌, refl, Bool, true, false, not, ◌&&◌, List}
use Rattle.std.proofs.Common.{sym, arith}
use Rattle.std.proofs.Math.Dec.{eqb}
use Rattle.laws.specs.Bools.{never, neither_left, neither_right}
use Rattle.components.specs.Cars.{is_moving}
use Rattle.components.specs.declared.Kind.TheVariants as kind
use Rattle.components.specs.Codes.{phase_code}
use Rattle.layout.specs.declared.Counts.{Counts}
use Rattle.layout.specs.Offsets.{car_start, aboard_start, waiting_start}
use Rattle.layout.specs.Table.{car_id_field, car_line_field, car_stop_field, car_has_target_field, car_target_field, aboard_car_field, aboard_has_destination_field, aboard_destination_field}
use Rattle.layout.specs.Table.{waiting_stop_field, waiting_has_line_field, waiting_line_field, waiting_has_destination_field, waiting_destination_field}
use Rattle.layout.specs.Records.{Fields, from, flag, car_of, aboard_of, waiting_of, sheet_of, read}
use Rattle.layout.specs.Refusals.{absent_set, present_zero, unused_stop, phase_at, refusal8_car, refusal9_car, refusal8_aboard, refusal9_aboard}
use Rattle.layout.specs.Refusals.{refusal8_waiting, refusal9_waiting}
use Rattle.layout.specs.Verdict.{verdict, first_of, body_refusal}
use Rattle.layout.specs.VerdictLaws.{pick_none}
use Rattle.accepted.specs.Accepted.{whole, body_at}

-- the present bit p of a field that is 0 where z holds
exact : (p z : Bool) → (not p && not z) ≡ false → (p && z) ≡ false → p ≡ not z
exact true true a b = never (sym b)
exact true false a b = refl
exact false true a b = refl
exact false false a b = never (sym a)

module _ (s : List ℕ) (c : Counts) (f : Fields) where
  target_exact : body_refusal s c kind.Car f ≡ 0 → flag f car_has_target_field ≡ not (eqb (read f car_target_field) 0)
  unfolding first_of refusal8_car refusal9_car
  target_exact e =
      let a = pick_none (refusal8_car c f) 8 _ (omega arith) e in
      let b = pick_none (refusal9_car s c f) 9 _ (omega arith) a.1 in
      let p = neither_right (eqb (phase_code (phase_at f)) 7) _ a.0 in
      let g = neither_right (unused_stop (phase_at f) (not (eqb (read f car_stop_field) 0))) _ p in
      let h = neither_right (eqb (read f car_line_field) 0) _ (neither_right (eqb (read f car_id_field) 0) _ b.0) in
      let k = neither_right (is_moving (phase_at f) && eqb (read f car_stop_field) 0) _ h in
      exact (flag f car_has_target_field) (eqb (read f car_target_field) 0) (neither_left (absent_set f car_has_target_field car_target_field) _ g)
      (neither_left (present_zero f car_has_target_field car_target_field) _ k)

  aboard_exact : body_refusal s c kind.Aboard f ≡ 0 → flag f aboard_has_destination_field ≡ not (eqb (read f aboard_destination_field) 0)
  unfolding first_of refusal8_aboard refusal9_aboard
  aboard_exact e =
      let a = pick_none (refusal8_aboard f) 8 _ (omega arith) e in
      let b = pick_none (refusal9_aboard f) 9 _ (omega arith) a.1 in
      exact (flag f aboard_has_destination_field) (eqb (read f aboard_destination_field) 0) a.0 (neither_right (eqb (read f aboard_car_field) 0) _ b.0)

  waiting_exact : body_refusal s c kind.Waiting f ≡ 0 → (flag f waiting_has_line_field ≡ not (eqb (read f waiting_line_field) 0))
      × (flag f waiting_has_destination_field ≡ not (eqb (read f waiting_destination_field) 0))
  unfolding first_of refusal8_waiting refusal9_waiting
  waiting_exact e =
      let a = pick_none (refusal8_waiting f) 8 _ (omega arith) e in
      let b = pick_none (refusal9_waiting f) 9 _ (omega arith) a.1 in
      let g = neither_right (eqb (read f waiting_stop_field) 0) _ b.0 in (
        exact (flag f waiting_has_line_field) (eqb (read f waiting_line_field) 0) (neither_left (absent_set f waiting_has_line_field waiting_line_field) _ a.0)
            (neither_left (present_zero f waiting_has_line_field waiting_line_field) _ g),
        exact (flag f waiting_has_destination_field) (eqb (read f waiting_destination_field) 0)
            (neither_right (absent_set f waiting_has_line_field waiting_line_field) _ a.0) (neither_right (present_zero f waiting_has_line_field waiting_line_field) _ g),
      )

-- each present bit says that the sheet's field is not 0
pub record Optionals (s : List ℕ) (c : Counts) : Type 0 where
  pub target : (i : ℕ) → i < c.cars → flag (from s (car_start c i)) car_has_target_field ≡ not (eqb ((sheet_of s c).car i).target 0)
  pub destination : (i : ℕ) → i < c.aboards → flag (from s (aboard_start c i)) aboard_has_destination_field ≡ not
      (eqb ((sheet_of s c).aboard i).destination 0)
  pub line : (i : ℕ) → i < c.waits → flag (from s (waiting_start c i)) waiting_has_line_field ≡ not (eqb ((sheet_of s c).waiting i).line 0)
  pub bound_for_lem : (i : ℕ) → i < c.waits → flag (from s (waiting_start c i)) waiting_has_destination_field ≡ not
      (eqb ((sheet_of s c).waiting i).destination 0)

pub optional_ids : (s : List ℕ) (c : Counts) → verdict s ≡ Ok c → Optionals s c
unfolding sheet_of car_of aboard_of waiting_of
optional_ids s c e =
    let r = (whole s c e).records in
    let w : (i : ℕ) → i < c.waits → _ = λ i l.
    waiting_exact s _ (from s (waiting_start c i)) (body_at (r.waits i l) (waiting_start c i) (omega arith)) in
    record {
      target = λ i l. target_exact s _ (from s (car_start c i)) (body_at (r.cars i l) (car_start c i) (omega arith));
      destination = λ i l. aboard_exact s _ (from s (aboard_start c i)) (body_at (r.aboards i l) (aboard_start c i) (omega arith));
      line = λ i l. (w i l).0;
      bound_for_lem = λ i l. (w i l).1;
    }
