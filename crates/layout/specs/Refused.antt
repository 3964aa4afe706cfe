-- A refusal as an answer. Document 01: "The answer is the number and the bit offset where the record starts". Assumes nothing.
use Rattle.std.specs.Prelude.{ℕ, Result, Err}
use Rattle.layout.specs.declared.Refusal.{Refusal}

abbrev pub refused : {A : Type 0} → ℕ → ℕ → Result A Refusal
refused number offset = Err (record { number = number; offset = offset })
