-- The six in lent places. Assumes nothing.
use Rattle.std.specs.Prelude.{Result}
use Rattle.weights.specs.declared.answer.SixWeights.{SixWeights}
use Rattle.layout.specs.declared.Refusal.{Refusal}
use Rattle.layout.specs.Refused.{refused}
use Rattle.std.specs.Prelude.{ℕ, ◌≤◌, ◌<◌, ◌≡◌, refl, List, [], ◌∷◌, Float, length, drop, set}
use Rattle.std.proofs.Common.{arith, lt-ltb, le-ltb}
use Rattle.weights.specs.Answers.{weights_of, lent_weights}

pub few_places : (s : List ℕ) (day places : ℕ) → places < 6 → refused 1 0 ≡ lent_weights s day places
unfolding lent_weights
few_places s day places l = rw (lt-ltb places 6 l)

pub enough_places : (s : List ℕ) (day places : ℕ) {v : Result SixWeights Refusal} → 6 ≤ places → v ≡ weights_of s day → v ≡ lent_weights s day places
unfolding lent_weights
enough_places s day places l e = rw (le-ltb places 6 l) e

-- six stores
pub six_stores : (l : List Float) (a b c d e f : Float) → 6 ≤ length l
    → set (set (set (set (set (set l 0 a) 1 b) 2 c) 3 d) 4 e) 5 f ≡ a ∷ b ∷ c ∷ d ∷ e ∷ f ∷ drop 6 l
six_stores (u ∷ v ∷ w ∷ x ∷ y ∷ z ∷ l) a b c d e f h = refl
six_stores [] a b c d e f h = absurd (omega arith)
six_stores (u ∷ []) a b c d e f h = absurd (omega arith)
six_stores (u ∷ v ∷ []) a b c d e f h = absurd (omega arith)
six_stores (u ∷ v ∷ w ∷ []) a b c d e f h = absurd (omega arith)
six_stores (u ∷ v ∷ w ∷ x ∷ []) a b c d e f h = absurd (omega arith)
six_stores (u ∷ v ∷ w ∷ x ∷ y ∷ []) a b c d e f h = absurd (omega arith)
