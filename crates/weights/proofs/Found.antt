-- The look-up by its slots: 18 at the first slot that takes no record, else the six. Assumes nothing.
use Rattle.std.specs.Prelude.{Ok}
use Rattle.layout.specs.Refused.{refused}
use Rattle.std.specs.Prelude.{ℕ, ◌^◌, ◌<◌, ◌≡◌, false, List, ◌++◌, Float}
use Rattle.std.proofs.Common.{arith}
use Rattle.std.proofs.Math.ListN.{get_or}
use borrow.Author.Tests.{lt-ltb}
use Rattle.laws.specs.First.{first_at, first_is, none_first}
use Rattle.laws.specs.Folds.{any}
use Rattle.laws.specs.Tables.{tab, get_or-tab}
use Rattle.weight_store.specs.Entries.{Entry}
use Rattle.weights.specs.Answers.{six_of, look_up}
use Rattle.weights.proofs.Leads.{takes_none}
use Rattle.weights.specs.LookUp.{taken, first_taken, slot_weight, missing, first_missing}

module _ (n : ℕ) (e : ℕ → Entry) (day : ℕ) (small : (i : ℕ) → (e i).issue < 2 ^ 16) where
  -- a slot that takes none, after slots that each take one
  pub none_found : (slot : ℕ) → slot < 6 → any (missing n e day) slot ≡ false → first_taken n e day slot ≡ n → refused 18 slot ≡ look_up n e day
  unfolding look_up first_missing
  none_found slot l before h =
      let q = first_at (missing n e day) 6 slot l before (takes_none n e day slot small h) in
      rw (q, lt-ltb slot 6 l)

  -- what a slot takes is there
  pub taken_below : (slot : ℕ) → (first_taken n e day slot ≡ n → ⊥) → first_taken n e day slot < n
  unfolding first_taken
  taken_below slot h = let w = (first_is (taken n e day slot) n).within in omega (arith, w, h)

  -- each slot takes one
  pub six_found : (six r : List Float) (d : Float) → any (missing n e day) 6 ≡ false → six ≡ tab (slot_weight n e day) 6 ++ r
      → Ok (record { w0 = get_or six 0 d; w1 = get_or six 1 d; w2 = get_or six 2 d; w3 = get_or six 3 d; w4 = get_or six 4 d; w5 = get_or six 5 d })
      ≡ look_up n e day
  unfolding look_up first_missing six_of
  six_found six r d none is =
      let at : (k : ℕ) → k < 6 → get_or six k d ≡ slot_weight n e day k = λ k l. rw is (get_or-tab (slot_weight n e day) 6 k r d l) in
      rw (
        none_first (missing n e day) 6 none,
        at 0 (omega arith),
        at 1 (omega arith),
        at 2 (omega arith),
        at 3 (omega arith),
        at 4 (omega arith),
        at 5 (omega arith),
      )
