-- The totals of a list whose cases are compared one by one. Assumes nothing.
use Rattle.std.specs.Prelude.{ℕ, ◌+◌, ◌≤◌, ◌<◌, Option, Some, None}
use Rattle.laws.specs.Bools.{bit}
use Rattle.lists.specs.declared.Case.{Case}
use Rattle.lists.specs.declared.Step.{Step}
use Rattle.lists.specs.declared.Tally.{Tally}
use Rattle.lists.specs.Turns.{Replayed}

-- after a case, or after one that is cut short
unfoldable pub turn_by : {C : Type 0} → Option Case → ℕ → Tally C → Step (Tally C)
turn_by None end t =
    record { next = end; totals = record { cases = t.cases; compared = t.compared; marked = t.marked; differ = t.differ + 1 } }
turn_by (Some c) end t =
    record {
      next = c.next;
      totals = record {
        cases = t.cases;
        compared = t.compared + 1;
        marked = t.marked + bit c.marked;
        differ = t.differ + bit c.differs;
      };
    }

-- before the first case
abbrev pub no_case : {C : Type 0} → C → Tally C
no_case cases = record { cases = cases; compared = 0; marked = 0; differ = 0 }

-- the totals after a whole list that ends at a byte
abbrev pub AllCompared : {C : Type 0} → (ℕ → Option Case) → ℕ → C → Tally C → Type 0
AllCompared {C} case_of end cases t = Replayed {T = Tally C} (λ at t. turn_by (case_of at) end t) end (no_case cases) t

-- no count is above the number of bytes that were read
pub record Counted {C : Type 0} (at : ℕ) (t : Tally C) : Type 0 where
  pub compared : t.compared ≤ at
  pub marked : t.marked ≤ at
  pub differ : t.differ ≤ at

-- a case from byte at on lies inside the bytes
pub record IsWithin (at end : ℕ) (c : Case) : Type 0 where
  pub on : at < c.next
  pub within : c.next ≤ end
