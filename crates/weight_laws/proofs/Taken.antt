-- The record that a slot takes, and that its weight is in range (Answered). Assumes nothing.
use Rattle.std.specs.Prelude.{Ok}
use Rattle.std.specs.Prelude.{ℕ, ◌<◌, ◌≡◌, List, eqb, leb}
use Rattle.std.specs.Float.Ieee.{binary64}
use Rattle.std.specs.Float.Ieee.Bits.{of_bits-fits}
use borrow.Author.Tests.{eqb-true, eq-eqb, leb-true, le-leb, not-false}
use Rattle.laws.specs.Bools.{both, both_left, both_right}
use Rattle.laws.specs.Folds.{any_none}
use Rattle.weights.specs.declared.answer.SixWeights.{SixWeights}
use Rattle.weight_store.specs.Entries.{entry_count, entry_of, issue_lt}
use Rattle.weights.proofs.Leads.{takes, taken_started, taken_top}
use Rattle.weights.specs.LookUp.{started, missing, first_taken, slot_weight}
use Rattle.weight_store.specs.Passed.{passed}
use Rattle.weight_store.specs.Refusals.{entry_refused}
use Rattle.weight_store.specs.Values.{weight_back}
use Rattle.weights.specs.Answers.{weights_of}
use Rattle.weight_laws.specs.Answered.{answered, in_slot, six_slot, TakenEntry, InRange}

module _ (s : List ℕ) (day : ℕ) (x : SixWeights) (h : weights_of s day ≡ Ok x) (slot : ℕ) (l : slot < 6) where
  pub taken_entry : (i : ℕ) × TakenEntry s day slot (in_slot x slot) i
  unfolding started missing slot_weight weight_back
  taken_entry =
      let a = answered s day x h in
      let n = entry_count s in
      let e = entry_of s in
      let t = takes n e day slot (issue_lt s) (not-false _ (any_none (missing n e day) 6 a.complete slot l)) in
      let i = first_taken n e day slot in
      let st = taken_started n e day slot i t.is_it in
      let w : in_slot x slot ≡ weight_back (e i).value = rw (← a.six) (six_slot n e day slot l) in (
        i,
        record {
          there = t.below;
          its_slot = eqb-true _ _ (both_left (eqb (e i).setting slot) (leb (e i).start day) st);
          not_after = leb-true _ _ (both_right (eqb (e i).setting slot) (leb (e i).start day) st);
          its_value = w;
          inside = rw w (passed s i (any_none (entry_refused s) n a.accepted.passed i t.below)).inside;
          top = λ j lj p q. taken_top n e day slot i t.is_it j lj (both (eq-eqb _ _ p) (le-leb _ _ q));
        },
      )

  -- it is a double from 0 to 1,000,000,000
  pub slot_inside : InRange (in_slot x slot)
  unfolding weight_back
  slot_inside =
      let (i, t) = taken_entry in
      record { mass = t.inside; double = rw t.its_value (of_bits-fits binary64 (entry_of s i).value) }
