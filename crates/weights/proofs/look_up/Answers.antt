-- weights::look_up meets its contract.
use Rattle.fp.specs.Num.{zero}
use Rattle.laws.specs.Folds.{any, any_no}
use Rattle.laws.specs.Tables.{tab, tab_next}
use Rattle.weight_store.specs.Keys.{unpacked, held_entry, held_issue}
use Rattle.weights.proofs.Found.{none_found, taken_below, six_found}
use Rattle.weights.proofs.Leads.{takes_one}
use Rattle.weights.specs.LookUp.{slot_weight, missing}
use borrow.Author.Rules.{scaled_Fits}
use lib.ListN.{length, drop, replicate, length-set}
use mathlib.Core.Path.{◌≡◌, refl, sym, ◌∙◌}
use native.Mathlib.Omega.{arith}
use Rattle.weights.proofs.look_up.Goals as goal

pub loop-slot-init : goal.loop-slot-init
unfolding any tab
loop-slot-init c = (omega arith, refl, refl, refl)

pub returns-then-i-records : goal.returns-then-i-records
returns-then-i-records c =
    let a = c.args in
    let l = c.loop-slot in
    let e = held_entry a.records.now.keys.now a.records.now.values.now in
    rw c.from.ensures
    (none_found (length a.records.now.keys.now) e a.day (held_issue a.records.now.keys.now a.records.now.values.now) l.slot c.loop-slot-test.true (sym l.invariant.2)
    (sym (c.first_taken-i.ensures a.records.now.values.now) ∙ c.if-i-records.true))

pub offset_bounds-records-i : goal.offset_bounds-records-i
offset_bounds-records-i c =
    let a = c.args in
    let t = c.first_taken-i.ensures a.records.now.values.now in
    let e = held_entry a.records.now.keys.now a.records.now.values.now in
    let b = taken_below (length a.records.now.keys.now) e a.day (held_issue a.records.now.keys.now a.records.now.values.now) c.loop-slot.slot (λ q. c.if-i-records.false (t ∙ q)) in
    scaled_Fits c.first_taken-i.result 256 8 (omega (arith, t, b, c.requires)) (omega arith)

pub bounds-records-i : goal.bounds-records-i
bounds-records-i c =
    let a = c.args in
    let t = c.first_taken-i.ensures a.records.now.values.now in
    let e = held_entry a.records.now.keys.now a.records.now.values.now in
    let b = taken_below (length a.records.now.keys.now) e a.day (held_issue a.records.now.keys.now a.records.now.values.now) c.loop-slot.slot (λ q. c.if-i-records.false (t ∙ q)) in
    omega (arith, t, b)

pub loop-slot-preserved : goal.loop-slot-preserved
unfolding slot_weight held_entry unpacked
loop-slot-preserved c =
    let a = c.args in
    let l = c.loop-slot in
    let e = held_entry a.records.now.keys.now a.records.now.values.now in
    let t = c.first_taken-i.ensures a.records.now.values.now in (
      omega (arith, c.loop-slot-test.true),
      simp length-set l.invariant.1,
      any_no (missing (length a.records.now.keys.now) e a.day) l.slot
          (takes_one (length a.records.now.keys.now) e a.day l.slot (held_issue a.records.now.keys.now a.records.now.values.now) (λ q. c.if-i-records.false (t ∙ q))) l.invariant.2,
      rw c.from-in-loop-slot.ensures
          (tab_next (slot_weight (length a.records.now.keys.now) e a.day) (replicate 6 zero) l.six l.slot c.weight_back.result (omega (arith, c.loop-slot-test.true)) l.invariant.3
          (rw (← t) c.weight_back.ensures)),
    )

pub returns : goal.returns
returns c =
    let a = c.args in
    let l = c.loop-slot in
    let e = held_entry a.records.now.keys.now a.records.now.values.now in
    let q : l.slot ≡ 6 = omega (arith, l.invariant.0, c.loop-slot-test.false) in
    six_found (length a.records.now.keys.now) e a.day (held_issue a.records.now.keys.now a.records.now.values.now) l.six (drop 6 (replicate 6 zero)) _ (rw q at (sym l.invariant.2)) (rw q at l.invariant.3)
