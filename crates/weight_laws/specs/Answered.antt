-- What a store that answers is: every record passes, no two disagree, and each slot's weight is that of a started record of the slot such that no
-- started record of the slot is later, or as late with a higher issue. Assumes nothing.
use Rattle.std.specs.Prelude.{Ok}
use Rattle.layout.specs.Refused.{refused}
use Rattle.std.specs.Prelude.{ℕ, zero, suc, ◌≤◌, ◌<◌, ◌≡◌, refl, Bool, true, false, not, cond, List, ◌⊎◌, T, Float}
use Rattle.std.proofs.Common.{arith}
use Rattle.std.specs.Float.{nan, inf, fin}
use Rattle.std.specs.Float.Ieee.{of_bits, to_bits, fits, is_nan, binary64}
use Rattle.std.specs.Float.Ieee.Bits.{to_bits-of_bits}
use Rattle.laws.specs.Bools.{never}
use Rattle.laws.specs.Folds.{any}
use Rattle.fp.specs.Inside.{mass_finite}
use Rattle.fp.specs.Num.{finite}
use Rattle.fp.specs.Ranges.{is_mass}
use Rattle.bits.specs.Field.{field_lt}
use Rattle.weight_store.specs.Entries.{Entry}
use Rattle.weights.specs.declared.answer.SixWeights.{SixWeights}
use Rattle.weight_store.specs.Entries.{entry_count, entry_of}
use Rattle.laws.specs.First.{first_none}
use Rattle.weights.specs.LookUp.{missing, slot_weight, first_missing}
use Rattle.weight_store.specs.Refusals.{entry_refused, first_refused, disagrees_earlier, first_disagreeing}
use Rattle.weight_store.specs.Values.{weight_back}
use Rattle.weights.specs.Answers.{six_of, look_up, passed_answer, weights_of}

-- every record passes, and none disagrees with an earlier one
pub record AcceptedStore (s : List ℕ) : Type 0 where
  pub passed : any (entry_refused s) (entry_count s) ≡ false
  pub agreed : any (disagrees_earlier (entry_of s)) (entry_count s) ≡ false

pub record AnsweredStore (s : List ℕ) (day : ℕ) (x : SixWeights) : Type 0 where
  pub accepted : AcceptedStore s
  pub complete : any (missing (entry_count s) (entry_of s) day) 6 ≡ false
  pub six : six_of (entry_count s) (entry_of s) day ≡ x

three : (a b c : Bool) (m n p q r t : ℕ) (y x : SixWeights) → cond a (refused m n) (cond b (refused p q) (cond c (refused r t) (Ok y))) ≡ Ok x
    → (a ≡ false) × (b ≡ false) × (c ≡ false) × (y ≡ x)
three true b c m n p q r t y x h = absurd (let z : ◌≡◌ {A = ℕ} 0 1 = cc in omega arith)
three false true c m n p q r t y x h = absurd (let z : ◌≡◌ {A = ℕ} 0 1 = cc in omega arith)
three false false true m n p q r t y x h = absurd (let z : ◌≡◌ {A = ℕ} 0 1 = cc in omega arith)
three false false false m n p q r t y x h = (refl, refl, refl, cc)

pub answered : (s : List ℕ) (day : ℕ) (x : SixWeights) → weights_of s day ≡ Ok x → AnsweredStore s day x
unfolding weights_of passed_answer look_up first_refused first_disagreeing first_missing
answered s day x h =
    let (a, b, c, y) = three _ _ _ _ _ _ _ _ _ _ x h in
    record {
      accepted = record {
        passed = first_none (entry_refused s) (entry_count s) a;
        agreed = first_none (disagrees_earlier (entry_of s)) (entry_count s) b;
      };
      complete = first_none (missing (entry_count s) (entry_of s) day) 6 c;
      six = y;
    }

-- ---- the six by their slots

abbrev pub in_slot : SixWeights → ℕ → Float
in_slot x zero = x.w0
in_slot x (suc zero) = x.w1
in_slot x (suc (suc zero)) = x.w2
in_slot x (suc (suc (suc zero))) = x.w3
in_slot x (suc (suc (suc (suc zero)))) = x.w4
in_slot x (suc (suc (suc (suc (suc k))))) = x.w5

pub six_slot : (n : ℕ) (e : ℕ → Entry) (day k : ℕ) → k < 6 → in_slot (six_of n e day) k ≡ slot_weight n e day k
unfolding six_of
six_slot n e day zero l = refl
six_slot n e day (suc zero) l = refl
six_slot n e day (suc (suc zero)) l = refl
six_slot n e day (suc (suc (suc zero))) l = refl
six_slot n e day (suc (suc (suc (suc zero)))) l = refl
six_slot n e day (suc (suc (suc (suc (suc zero))))) l = refl
six_slot n e day (suc (suc (suc (suc (suc (suc k)))))) l = absurd (omega arith)

-- ---- the record that a slot takes

-- a slot's weight is that of a record of the slot that has started by the day, and no started record of the slot is later, or as late with a higher
-- issue
pub record TakenEntry (s : List ℕ) (day slot : ℕ) (w : Float) (i : ℕ) : Type 0 where
  pub there : i < entry_count s
  pub its_slot : (entry_of s i).setting ≡ slot
  pub not_after : (entry_of s i).start ≤ day
  pub its_value : w ≡ weight_back (entry_of s i).value
  pub inside : is_mass w ≡ true
  pub top : (j : ℕ) → j < entry_count s → (entry_of s j).setting ≡ slot → (entry_of s j).start ≤ day
      → ((entry_of s j).start < (entry_of s i).start) ⊎ (((entry_of s j).start ≡ (entry_of s i).start) × ((entry_of s j).issue ≤ (entry_of s i).issue))

-- "The look-up then hands back the stored bits, which a planner can compare with the file": the bits of a slot's weight are the taken record's
pub stored_bits : (s : List ℕ) (day slot : ℕ) (w : Float) (i : ℕ) → TakenEntry s day slot w i → to_bits binary64 w ≡ (entry_of s i).value
unfolding entry_of weight_back is_nan
stored_bits s day slot w i t =
    let e = t.its_value in
    rw e (to_bits-of_bits binary64 (entry_of s i).value (field_lt _ _ 64) (number (of_bits binary64 (entry_of s i).value) (mass_finite _ (rw e at t.inside))))
  where
    number : (x : Float) → finite x ≡ true → T (not (is_nan x))
    number nan h = never h
    number (inf s) h = never h
    number (fin s m e) h = tt

-- a double in the weights' range
pub record InRange (w : Float) : Type 0 where
  pub mass : is_mass w ≡ true
  pub double : T (fits binary64 w)
