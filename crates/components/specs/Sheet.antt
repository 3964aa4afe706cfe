-- A sheet without its candidate limit: how many records of each kind there are, and each by its index in record order. The pass is defined over
-- this and knows nothing of bits. Past a count a record may be anything, and no definition looks there.
use Rattle.std.specs.Prelude.{ℕ}
use Rattle.components.specs.declared.Policy.{Policy}
use Rattle.components.specs.declared.Stop.{Stop}
use Rattle.components.specs.declared.Line.{Line}
use Rattle.components.specs.declared.Car.{Car}
use Rattle.components.specs.declared.Aboard.{Aboard}
use Rattle.components.specs.declared.Waiting.{Waiting}
use Rattle.components.specs.declared.Demand.{Demand}

pub record Sheet : Type 0 where
  pub policy : Policy
  pub stops : ℕ
  pub stop : ℕ → Stop
  pub lines : ℕ
  pub line : ℕ → Line
  pub cars : ℕ
  pub car : ℕ → Car
  pub aboards : ℕ
  pub aboard : ℕ → Aboard
  pub waits : ℕ
  pub waiting : ℕ → Waiting
  pub demands : ℕ
  pub demand : ℕ → Demand
  -- the stops of the records of kind 8
  pub closures : ℕ
  pub closed : ℕ → ℕ
