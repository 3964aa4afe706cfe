-- The limit is bytes 6 and 7, whole: what it means that two byte lists agree everywhere else. proofs/SameSheet says what follows. Assumes nothing.
use Rattle.std.specs.Prelude.{ℕ, ◌≡◌, List, ◌≢◌, get_or}

-- "agree in every bit but the policy's limit"
abbrev pub AgreeButLimit : List ℕ → List ℕ → Type 0
AgreeButLimit s t = (k : ℕ) → k ≢ 6 → k ≢ 7 → get_or s k 0 ≡ get_or t k 0
