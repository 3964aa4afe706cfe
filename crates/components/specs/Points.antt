-- The distance between two points, and its laws: the same both ways, at least zero and finite between a sheet's points. Document 02, F-12: "Every
-- distance becomes the sum of the two absolute differences". Each difference is rounded, then the sum. Assumes nothing.
use Rattle.std.specs.Prelude.{ℕ, ◌+◌, ◌^◌, ◌<◌, ◌≡◌, refl, Bool, true, ◌&&◌, Float}
use Rattle.std.proofs.Common.{arith, ap₂}
use Rattle.std.specs.Int.Count.{count_trailing_zeros}
use Rattle.std.specs.Float.{binary64}
use Rattle.std.specs.Float.Ieee.{size, span, climb, units, odd, round, sum, neg, add, sub, le, of_fields, of_bits}
use Rattle.laws.specs.Bools.{both_left, both_right}
use Rattle.fp.specs.Num as Num
use Rattle.fp.specs.Num.{plus, finite, apart}
use Rattle.fp.specs.Ranges.{is_position}
use Rattle.fp.specs.Inside.{AtMost, size_finite, position_finite}
use Rattle.fp.specs.Nonneg.{plus_nonneg}
use Rattle.fp.specs.Apart.{apart_comm, apart_nonneg}
use Rattle.fp.specs.Sizes.{plus_size, apart_size, position_power}
use Rattle.components.specs.declared.Point.{Point}

-- the point of two coordinates
abbrev pub point_of : Float → Float → Point
point_of x y = record { along = x; across = y }

-- 3.0, 4.0 and 7.0, by their bits
abbrev three : Float
three = of_bits binary64 0x4008_0000_0000_0000

abbrev four : Float
four = of_bits binary64 0x4010_0000_0000_0000

abbrev seven : Float
seven = of_bits binary64 0x401c_0000_0000_0000

-- every distance of the pass is this one
unfoldable pub distance : Point → Point → Float
distance p q = plus (apart p.along q.along) (apart p.across q.across)

-- 3 along and 4 across are 7: the sum, and not the larger of the two
pub three_and_four : distance (point_of Num.zero Num.zero) (point_of three four) ≡ seven
unfolding distance apart count_trailing_zeros size span climb units odd round sum neg add sub of_fields of_bits
three_and_four = refl

-- "a second coordinate after the position, same range"
unfoldable pub is_placed : Point → Bool
is_placed p = is_position p.along && is_position p.across

pub distance_comm : (p q : Point) → distance p q ≡ distance q p
unfolding distance
distance_comm p q = ap₂ plus (apart_comm p.along q.along) (apart_comm p.across q.across)

pub along_inside : (p : Point) → is_placed p ≡ true → is_position p.along ≡ true
unfolding is_placed
along_inside p h = both_left (is_position p.along) (is_position p.across) h

pub across_inside : (p : Point) → is_placed p ≡ true → is_position p.across ≡ true
unfolding is_placed
across_inside p h = both_right (is_position p.along) (is_position p.across) h

pub distance_nonneg : (p q : Point) → is_placed p ≡ true → is_placed q ≡ true → le Num.zero (distance p q) ≡ true
unfolding distance
distance_nonneg p q a b =
    plus_nonneg (apart p.along q.along) (apart p.across q.across)
    (apart_nonneg p.along q.along (position_finite p.along (along_inside p a)) (position_finite q.along (along_inside q b)))
    (apart_nonneg p.across q.across (position_finite p.across (across_inside p a)) (position_finite q.across (across_inside q b)))

-- of coordinates that are at most 2^k in size
pub record Sized (k : ℕ) (p : Point) : Type 0 where
  pub along : AtMost (2 ^ k) p.along
  pub across : AtMost (2 ^ k) p.across

pub placed_size : (p : Point) → is_placed p ≡ true → Sized 20 p
placed_size p h =
    record { along = position_power p.along (along_inside p h); across = position_power p.across (across_inside p h) }

pub distance_size : (k : ℕ) (p q : Point) → k + 1 < 1023 → Sized k p → Sized k q → AtMost (2 ^ (k + 2)) (distance p q)
unfolding distance
distance_size k p q l a b =
    let e : k + 1 + 1 ≡ k + 2 = omega arith in
    let s = plus_size (k + 1) (apart p.along q.along) (apart p.across q.across) l
    (apart_size k p.along q.along (omega arith) a.along b.along) (apart_size k p.across q.across (omega arith) a.across
    b.across) in
    rw e at s

pub distance_finite : (p q : Point) → is_placed p ≡ true → is_placed q ≡ true → finite (distance p q) ≡ true
unfolding distance
distance_finite p q a b =
    let x = placed_size p a in
    let y = placed_size q b in
    let s = plus_size 21 (apart p.along q.along) (apart p.across q.across) (omega arith)
    (apart_size 20 p.along q.along (omega arith) x.along y.along) (apart_size 20 p.across q.across (omega arith) x.across y.across) in
    size_finite (2 ^ 22) (plus (apart p.along q.along) (apart p.across q.across)) s
