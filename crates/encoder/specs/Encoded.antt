-- A record put at a bit: each field of its row, with its number. Document 01: "Each record: kind 6 bits, body length in bits 16 bits, body." Assumes
-- nothing.
use Rattle.std.specs.Prelude.{ℕ, ◌+◌, List, [], ◌∷◌}
use Rattle.put.specs.Put.{put_at}
use Rattle.components.specs.declared.Policy.{Policy}
use Rattle.components.specs.declared.Stop.{Stop}
use Rattle.components.specs.declared.Line.{Line}
use Rattle.components.specs.declared.Car.{Car}
use Rattle.components.specs.declared.Aboard.{Aboard}
use Rattle.components.specs.declared.Waiting.{Waiting}
use Rattle.components.specs.declared.Demand.{Demand}
use Rattle.components.specs.declared.Kind.{Kind}
use Rattle.components.specs.declared.Kind.TheVariants as kind
use Rattle.components.specs.Codes.{kind_code}
use Rattle.layout.specs.Offsets.{body_length, across_in}
use Rattle.layout.specs.Table.{Field, record_kind_field, record_stated_field, row}
use Rattle.values.specs.Values.{policy_values, stop_values, line_values, car_values, aboard_values, waiting_values, demand_values, closed_values}

-- fields of what starts at bit at, each with its number
unfoldable pub fields_put : List ℕ → ℕ → List Field → List ℕ → List ℕ
fields_put s at [] vs = s
fields_put s at (f ∷ fs) [] = s
fields_put s at (f ∷ fs) (v ∷ vs) = fields_put (put_at s (at + f.start) f.width v) at fs vs

-- a record's fields, where second coordinates have w bits
abbrev pub record_fields : ℕ → Kind → List Field
record_fields w k = record_kind_field ∷ record_stated_field ∷ row w k

-- their numbers, with those of the body
abbrev pub record_values : ℕ → Kind → List ℕ → List ℕ
record_values w k body = kind_code k ∷ (body_length k + across_in w k) ∷ body

-- the record, its first bit at bit at
unfoldable pub record_at : List ℕ → ℕ → ℕ → Kind → List ℕ → List ℕ
record_at s at w k body = fields_put s at (record_fields w k) (record_values w k body)

-- of each kind
module _ (s : List ℕ) (at w : ℕ) where
  abbrev pub policy_at : ℕ → Policy → List ℕ
  policy_at limit x = record_at s at w kind.Policy (policy_values limit x)

  abbrev pub stop_at : Stop → List ℕ
  stop_at x = record_at s at w kind.Stop (stop_values x)

  abbrev pub line_at : Line → List ℕ
  line_at x = record_at s at w kind.Line (line_values x)

  abbrev pub car_at : Car → List ℕ
  car_at x = record_at s at w kind.Car (car_values x)

  abbrev pub aboard_at : Aboard → List ℕ
  aboard_at x = record_at s at w kind.Aboard (aboard_values x)

  abbrev pub waiting_at : Waiting → List ℕ
  waiting_at x = record_at s at w kind.Waiting (waiting_values x)

  abbrev pub demand_at : Demand → List ℕ
  demand_at x = record_at s at w kind.Demand (demand_values x)

  abbrev pub closed_at : ℕ → List ℕ
  closed_at id = record_at s at w kind.Closed (closed_values id)
