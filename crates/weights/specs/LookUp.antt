-- The look-up: what a slot takes for a day, of n records e. Request F-1: "Asked for a day, each slot takes the record with the latest start not after
-- it, and of these the highest issue". Assumes nothing.
use Rattle.std.specs.Prelude.{ℕ, Bool, not, ◌&&◌, eqb, ltb, leb, Float}
use Rattle.laws.specs.Folds.{any}
use Rattle.laws.specs.First.{first_index}
use Rattle.weight_store.specs.Entries.{Entry}
use Rattle.weight_store.specs.Values.{weight_back}

-- a record of the slot with a "start not after" the day
unfoldable pub started : ℕ → ℕ → Entry → Bool
started day slot a = eqb a.setting slot && leb a.start day

module _ (n : ℕ) (e : ℕ → Entry) (day : ℕ) where
  -- "the record with the latest start not after it": no started record of the slot starts later
  unfoldable pub latest : ℕ → ℕ → Bool
  latest slot i = started day slot (e i) && not (any (λ j. started day slot (e j) && ltb (e i).start (e j).start) n)

  -- "and of these the highest issue": none of these has a higher one
  unfoldable pub taken : ℕ → ℕ → Bool
  taken slot i = latest slot i && not (any (λ j. latest slot j && ltb (e i).issue (e j).issue) n)

  -- "each slot takes the record": the first of them, where it is repeated; n where there is none
  unfoldable pub first_taken : ℕ → ℕ
  first_taken slot = first_index (taken slot) n

  unfoldable pub slot_weight : ℕ → Float
  slot_weight slot = weight_back (e (first_taken slot)).value

  -- "a slot has no record for the day"
  unfoldable pub missing : ℕ → Bool
  missing slot = not (any (λ i. started day slot (e i)) n)

  -- 18, "the lowest such slot"; 6 where each has one
  unfoldable pub first_missing : ℕ
  first_missing = first_index missing 6
