-- A small sheet of edition 2 with second coordinates of minus zero, and its twin, by computation. Assumes nothing.
use Rattle.std.specs.Prelude.{ℕ, ◌≡◌, refl, List, [], ◌∷◌, ◌++◌}
use Rattle.laws.specs.Tables.{tab}
use Rattle.components.specs.declared.Kind.TheVariants.{Stop, Car}
use Rattle.layout.specs.Open.{reading}
use Rattle.layout.specs.Smallest.{Bits, number, widths, bytes, written, body, of, sheet, one, policy, scan, line}
use Rattle.twins.specs.Written.{bits_of, digits, number_of, packed}
use Rattle.twins.specs.Twin.{body_of, record_of, records_of, twin}

-- a stop and a car that have this second coordinate, in an edition
unfoldable pub stop : ℕ → ℕ → Bits
stop e across = of e Stop (1 ∷ one ∷ across ∷ [])

unfoldable pub car : ℕ → ℕ → Bits
car e across =
    of e Car (1 ∷ 1 ∷ 0 ∷ 0 ∷ 0 ∷ 0 ∷ 1 ∷ 1 ∷ 1 ∷ 0 ∷ 0 ∷ one ∷ across ∷ one ∷ one ∷ 0 ∷ 0 ∷ 0 ∷ 0 ∷ 0 ∷ 5 ∷ 7 ∷ 0 ∷ 1 ∷ [])

unfoldable pub small : ℕ → ℕ → List ℕ
small e across = sheet e 4 (scan ++ stop e across ++ line 1 1 ++ car e across)

pub small_twin : twin (small 2 0x8000_0000_0000_0000) ≡ small 1 0
unfolding reading tab bits_of digits number_of packed body_of record_of records_of twin number widths bytes written body of sheet policy scan line stop car
    small
small_twin = refl
