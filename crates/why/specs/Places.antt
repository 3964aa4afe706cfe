-- Eight stores into places. Assumes nothing.
use Rattle.std.specs.Prelude.{◌≤◌, ◌≡◌, refl, List, [], ◌∷◌, length, set, drop, Float}
use Rattle.std.proofs.Common.{arith}

pub eight_stores : (l : List Float) (a b c d e f g h : Float) → 8 ≤ length l
    → set (set (set (set (set (set (set (set l 0 a) 1 b) 2 c) 3 d) 4 e) 5 f) 6 g) 7 h ≡ a ∷ b ∷ c ∷ d ∷ e ∷ f ∷ g ∷ h ∷ drop 8 l
eight_stores (q ∷ r ∷ u ∷ v ∷ w ∷ x ∷ y ∷ z ∷ l) a b c d e f g h m = refl
eight_stores [] a b c d e f g h m = absurd (omega arith)
eight_stores (q ∷ []) a b c d e f g h m = absurd (omega arith)
eight_stores (q ∷ r ∷ []) a b c d e f g h m = absurd (omega arith)
eight_stores (q ∷ r ∷ u ∷ []) a b c d e f g h m = absurd (omega arith)
eight_stores (q ∷ r ∷ u ∷ v ∷ []) a b c d e f g h m = absurd (omega arith)
eight_stores (q ∷ r ∷ u ∷ v ∷ w ∷ []) a b c d e f g h m = absurd (omega arith)
eight_stores (q ∷ r ∷ u ∷ v ∷ w ∷ x ∷ []) a b c d e f g h m = absurd (omega arith)
eight_stores (q ∷ r ∷ u ∷ v ∷ w ∷ x ∷ y ∷ []) a b c d e f g h m = absurd (omega arith)
