-- Records put one after another into a buffer: the counts and the buffer after each, by the definitions of the writer's answers, and the sheet that
-- is finished. Assumes nothing.
use Rattle.std.specs.Prelude.{ℕ, zero, suc, ◌<◌, ◌≡◌, true, List, length, take}
use Rattle.components.specs.declared.Policy.{Policy}
use Rattle.components.specs.declared.Stop.{Stop}
use Rattle.components.specs.declared.Line.{Line}
use Rattle.components.specs.declared.Car.{Car}
use Rattle.components.specs.declared.Aboard.{Aboard}
use Rattle.components.specs.declared.Waiting.{Waiting}
use Rattle.components.specs.declared.Demand.{Demand}
use Rattle.components.specs.declared.Kind.{Kind}
use Rattle.components.specs.declared.Kind.TheVariants as kind
use Rattle.layout.specs.declared.Counts.{Counts}
use Rattle.layout.specs.Offsets.{none, next, end_of, across_bits}
use Rattle.values.specs.Values.{policy_values, stop_values, line_values, car_values, aboard_values, waiting_values, demand_values, closed_values}
use Rattle.encoder.specs.Encoded.{record_at}
use Rattle.writer.specs.declared.Edition.{Edition}
use Rattle.writer.specs.Puts.{edition_code, head_put, start_of, answer_of, is_written, finished, sheet_bytes}

-- what is put: a record of one of the eight kinds; a policy has the limit beside it, a closed landing is a stop's id
pub data Item : Type 0 where
  policy : ℕ → Policy → Item
  stop : Stop → Item
  line : Line → Item
  car : Car → Item
  aboard : Aboard → Item
  waiting : Waiting → Item
  demand : Demand → Item
  closed : ℕ → Item

abbrev pub item_kind : Item → Kind
item_kind (policy l x) = kind.Policy
item_kind (stop x) = kind.Stop
item_kind (line x) = kind.Line
item_kind (car x) = kind.Car
item_kind (aboard x) = kind.Aboard
item_kind (waiting x) = kind.Waiting
item_kind (demand x) = kind.Demand
item_kind (closed id) = kind.Closed

abbrev pub item_values : Item → List ℕ
item_values (policy l x) = policy_values l x
item_values (stop x) = stop_values x
item_values (line x) = line_values x
item_values (car x) = car_values x
item_values (aboard x) = aboard_values x
item_values (waiting x) = waiting_values x
item_values (demand x) = demand_values x
item_values (closed id) = closed_values id

-- the bits of a second coordinate
abbrev pub across_of : Edition → ℕ
across_of e = across_bits (edition_code e)

module _ (s : List ℕ) (e : Edition) (r : ℕ → Item) where
  -- the counts after n items
  unfoldable pub counts_at : ℕ → Counts
  counts_at zero = none (across_of e)
  counts_at (suc n) = next (counts_at n) (item_kind (r n))

  -- what the buffer holds after n items
  unfoldable pub buffer_at : ℕ → List ℕ
  buffer_at zero = head_put s e
  buffer_at (suc n) = record_at (buffer_at n) (end_of (counts_at n)) (across_of e) (item_kind (r n)) (item_values (r n))

  -- the head and the first n items were written
  pub record AllWritten (n : ℕ) : Type 0 where
    pub started : is_written (start_of (length s) e) ≡ true
    pub put : (i : ℕ) → i < n → is_written (answer_of (length s) (counts_at i) (item_kind (r i))) ≡ true

  -- the sheet that is finished after n items: as many of the buffer's bytes as finish answers
  unfoldable pub sheet_at : ℕ → List ℕ
  sheet_at n = take (sheet_bytes (counts_at n)) (finished (buffer_at n) (counts_at n))
