-- sheet::take_record meets its contract.
use Prim.Native.Nat.{ℕ}
use Rattle.components.specs.declared.Kind.TheVariants as kind
use Rattle.conditions.specs.Ids.{contains_seen}
use Rattle.layout.specs.Offsets.{end_of}
use Rattle.layout.specs.Table.{first}
use Rattle.layout.specs.Records.{from, read}
use Rattle.layout.specs.Refusals.{has_stop, has_demand, has_closed, refusal9_demand, refusal10_demand, refusal9_closed, refusal10_closed}
use Rattle.layout.specs.Verdict.{pick, first_of, body_refusal}
use Rattle.layout.specs.VerdictLaws.{clean}
use Rattle.layout.specs.declared.Counts.{Counts}
use Rattle.sheet.specs.Kept.{kept, stop_room, car_room, demand_room, closed_room}
use borrow.Author.Tests.{eqb-true}
use lib.Dec.{eqb}
use mathlib.Core.Bool.{Bool, not, ◌||◌}
use mathlib.Core.List.{List}
use mathlib.Core.Path.{◌≡◌, refl, sym, ◌∙◌}
use Rattle.sheet.proofs.take_record.Goals as goal

-- of a record that a stop has once at most: the conditions as they are read, then the picks
demand_by_number : (s : List ℕ) (c : Counts) {at id r : ℕ} {again known : Bool} →
    at ≡ end_of c →
    id ≡ read (from s at) (first 32) →
    again ≡ has_demand s c id →
    known ≡ has_stop s c id →
    r ≡ pick (eqb id 0 || again) 9 (pick (not known) 10 0) →
    r ≡ body_refusal s c kind.Demand (from s (end_of c))
unfolding first_of refusal9_demand refusal10_demand
demand_by_number s c at-is id-is again-is Known-is is = rw (is, Known-is, again-is, id-is, at-is)

closed_by_number : (s : List ℕ) (c : Counts) {at id r : ℕ} {again known : Bool} →
    at ≡ end_of c →
    id ≡ read (from s at) (first 32) →
    again ≡ has_closed s c id →
    known ≡ has_stop s c id →
    r ≡ pick (eqb id 0 || again) 9 (pick (not known) 10 0) →
    r ≡ body_refusal s c kind.Closed (from s (end_of c))
unfolding first_of refusal9_closed refusal10_closed
closed_by_number s c at-is id-is again-is Known-is is = rw (is, Known-is, again-is, id-is, at-is)

pub record_refusal-requires : goal.record_refusal-requires
record_refusal-requires c =
    let p = c.requires in
    (p.0, p.1.starts, p.1.last_is, p.2, p.3, p.4, sym c.in-Policy.is ∙ p.6, c.policy_refusal-body.ensures)

pub returns-in-Policy : goal.returns-in-Policy
unfolding kept
returns-in-Policy c = rw c.in-Policy.is (c.record_refusal.ensures, refl, refl, refl, refl)

pub record_refusal-number-requires : goal.record_refusal-number-requires
record_refusal-number-requires c =
    let p = c.requires in
    (p.0, p.1.starts, p.1.last_is, p.2, p.3, p.4, sym c.in-Stop.is ∙ p.6, c.stop_refusal-body.ensures)

pub keep-requires : goal.keep-requires
keep-requires c e =
    let start = c in
    let p = start.requires in
    stop_room _ _ p.1.read (clean _ _ (sym c.record_refusal-number.ensures ∙ eqb-true _ 0 e)) start.args.tables.now.stops p.1.stop_places
    (sym p.6 ∙ c.in-Stop.is)

pub returns-in-Stop : goal.returns-in-Stop
unfolding kept
returns-in-Stop c = rw c.in-Stop.is (c.record_refusal-number.ensures, c.keep.ensures, refl, refl, refl)

pub record_refusal-requires-in-Line : goal.record_refusal-requires-in-Line
record_refusal-requires-in-Line c =
    let p = c.requires in
    (p.0, p.1.starts, p.1.last_is, p.2, p.3, p.4, sym c.in-Line.is ∙ p.6, c.line_refusal-body.ensures)

pub returns-in-Line : goal.returns-in-Line
unfolding kept
returns-in-Line c = rw c.in-Line.is (c.record_refusal-in-Line.ensures, refl, refl, refl, refl)

pub record_refusal-number-requires-in-Car : goal.record_refusal-number-requires-in-Car
record_refusal-number-requires-in-Car c =
    let p = c.requires in
    (p.0, p.1.starts, p.1.last_is, p.2, p.3, p.4, sym c.in-Car.is ∙ p.6, c.car_refusal-body.ensures)

pub keep-requires-in-Car : goal.keep-requires-in-Car
keep-requires-in-Car c e =
    let start = c in
    let p = start.requires in
    car_room _ _ p.1.read (clean _ _ (sym c.record_refusal-number-in-Car.ensures ∙ eqb-true _ 0 e)) start.args.tables.now.cars p.1.car_places
    (sym p.6 ∙ c.in-Car.is)

pub returns-in-Car : goal.returns-in-Car
unfolding kept
returns-in-Car c = rw c.in-Car.is (c.record_refusal-number-in-Car.ensures, refl, c.keep-in-Car.ensures, refl, refl)

pub record_refusal-requires-in-Aboard : goal.record_refusal-requires-in-Aboard
record_refusal-requires-in-Aboard c =
    let p = c.requires in
    (p.0, p.1.starts, p.1.last_is, p.2, p.3, p.4, sym c.in-Aboard.is ∙ p.6, c.aboard_refusal-body.ensures)

pub returns-in-Aboard : goal.returns-in-Aboard
unfolding kept
returns-in-Aboard c = rw c.in-Aboard.is (c.record_refusal-in-Aboard.ensures, refl, refl, refl, refl)

pub record_refusal-requires-in-Waiting : goal.record_refusal-requires-in-Waiting
record_refusal-requires-in-Waiting c =
    let p = c.requires in
    (p.0, p.1.starts, p.1.last_is, p.2, p.3, p.4, sym c.in-Waiting.is ∙ p.6, c.waiting_refusal-body.ensures)

pub returns-in-Waiting : goal.returns-in-Waiting
unfolding kept
returns-in-Waiting c = rw c.in-Waiting.is (c.record_refusal-in-Waiting.ensures, refl, refl, refl, refl)

pub record_refusal-number-requires-in-Demand : goal.record_refusal-number-requires-in-Demand
record_refusal-number-requires-in-Demand c =
    let p = c.requires in
    let t = p.1.tables in
    (p.0, p.1.starts, p.1.last_is, p.2, p.3, p.4, sym c.in-Demand.is ∙ p.6, demand_by_number _ _ p.1.starts p.5 (contains_seen _ _ _ _ _ _ t.demand_ids) (contains_seen _ _ _ _ _ _ t.stop_ids) c.one_a_stop-body.ensures)

pub keep-requires-in-Demand : goal.keep-requires-in-Demand
keep-requires-in-Demand c e =
    let start = c in
    let p = start.requires in
    demand_room _ _ p.1.read (clean _ _ (sym c.record_refusal-number-in-Demand.ensures ∙ eqb-true _ 0 e)) start.args.tables.now.demands p.1.demand_places
    (sym p.6 ∙ c.in-Demand.is)

pub returns-in-Demand : goal.returns-in-Demand
unfolding kept
returns-in-Demand c = rw c.in-Demand.is (c.record_refusal-number-in-Demand.ensures, refl, refl, c.keep-in-Demand.ensures, refl)

pub record_refusal-number-requires-in-Closed : goal.record_refusal-number-requires-in-Closed
record_refusal-number-requires-in-Closed c =
    let p = c.requires in
    let t = p.1.tables in
    (p.0, p.1.starts, p.1.last_is, p.2, p.3, p.4, sym c.in-Closed.is ∙ p.6, closed_by_number _ _ p.1.starts p.5 (contains_seen _ _ _ _ _ _ t.closed_ids) (contains_seen _ _ _ _ _ _ t.stop_ids) c.one_a_stop-body-in-Closed.ensures)

pub keep-requires-in-Closed : goal.keep-requires-in-Closed
keep-requires-in-Closed c e =
    let start = c in
    let p = start.requires in
    closed_room _ _ p.1.read (clean _ _ (sym c.record_refusal-number-in-Closed.ensures ∙ eqb-true _ 0 e)) start.args.tables.now.closures p.1.closed_places
    (sym p.6 ∙ c.in-Closed.is)

pub returns-in-Closed : goal.returns-in-Closed
unfolding kept
returns-in-Closed c = rw c.in-Closed.is (c.record_refusal-number-in-Closed.ensures, refl, refl, refl, c.keep-in-Closed.ensures)

pub record_refusal-requires-in-Unknown : goal.record_refusal-requires-in-Unknown
unfolding first_of
record_refusal-requires-in-Unknown c =
    let p = c.requires in
    (p.0, p.1.starts, p.1.last_is, p.2, p.3, p.4, sym c.in-Unknown.is ∙ p.6, refl)

pub returns-in-Unknown : goal.returns-in-Unknown
unfolding kept
returns-in-Unknown c = rw c.in-Unknown.is (c.record_refusal-in-Unknown.ensures, refl, refl, refl, refl)
