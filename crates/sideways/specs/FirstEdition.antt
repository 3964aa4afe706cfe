-- In edition 1 a distance is how far apart the two positions are, bit for bit: second coordinates of zero add nothing. Assumes nothing.
use Rattle.std.specs.Prelude.{Ok}
use Rattle.std.specs.Prelude.{ℕ, zero, suc, ◌*◌, ◌^◌, ◌≤◌, ◌<◌, ◌≡◌, refl, true, false, List, T, ℤ, Float}
use Rattle.std.proofs.Common.{mul_right_comm, mul-one, zero-mul, mul-le-mul_right, le_of_mul-le-mul_right, le_trans, le_of_eq, le_refl, lt_of_le_of_lt, arith, sym, ap, ap₂, ◌∙◌, ⊎_elim, lit<, pow_pos}
use Rattle.std.specs.Int.Count.{count_trailing_zeros}
use Rattle.std.specs.Float.{nan, inf, fin, binary64}
use Rattle.std.specs.Float.Ieee.{fits, to_bits, size, span, climb, units, odd, up, down, round, sum, neg, add, sub, eq, of_fields, of_bits}
use Rattle.std.specs.Float.Ieee.Bits.{is_true}
use Rattle.std.specs.Float.Ieee.Exact.{HasValue, round_exact}
use Rattle.std.specs.Float.Ieee.Fits.{down_pos, sub-fits, round-fits}
use Rattle.std.specs.Float.Ieee.Order.{le_of_values}
use Rattle.std.specs.Float.Ieee.Scale.{round_same}
use Rattle.fp.specs.Num as Num
use Rattle.fp.specs.Num.{abs, plus, minus, apart}
use Rattle.fp.specs.Inside.{AtMost}
use Rattle.fp.specs.Order.{eq_same, le_antisym}
use Rattle.fp.specs.Sizes.{apart_size, position_power}
use Rattle.rounding.specs.Unpack.{significand_of, exponent_of, significand_lt, value_of}
use Rattle.bits.specs.Field.{field_at}
use Rattle.components.specs.declared.Point.{Point}
use Rattle.components.specs.declared.Kind.{Kind}
use Rattle.components.specs.declared.Kind.TheVariants.{Policy, Stop, Line, Car, Aboard, Waiting, Demand, Closed, Unknown}
use Rattle.components.specs.Codes.{kind_of}
use Rattle.components.specs.Points.{distance, is_placed, along_inside}
use Rattle.layout.specs.declared.Counts.{Counts}
use Rattle.layout.specs.Offsets.{across_bits, next}
use Rattle.layout.specs.Records.{stop_of, car_of, sheet_of}
use Rattle.layout.specs.Refusals.{edition, record_count, kind_at}
use Rattle.layout.specs.Verdict.{at_first, records_verdict, verdict}
use Rattle.accepted.specs.Accepted.{on, at_end, headed, accepted}
use Rattle.alike.specs.Zeros.{is_zero, apart_zeros}

-- what is cleared of its sign fits
abs_fits : (x : Float) → T (fits binary64 x) → T (fits binary64 (abs x))
unfolding fits
abs_fits nan h = h
abs_fits (inf s) h = h
abs_fits (fin s zero e) h = h
abs_fits (fin s (suc m) e) h = h

-- two that have one value are level
level : (x y : Float) (a c : ℕ) → 0 < c → HasValue x false a c → HasValue y false a c → eq x y ≡ true
level x y a c p h k =
    le_antisym x y (is_true _ (le_of_values x y a c a c p p h k (le_refl (a * c)))) (is_true _ (le_of_values y x a c a c p p k h (le_refl (a * c))))

clear : (x : Float) (a c : ℕ) → HasValue x false a c → abs x ≡ x
clear nan a c h = absurd h
clear (inf s) a c h = absurd h
clear (fin s m e) a c h = rw h.0

-- a double of at most 2 ^ 21 that is not below zero, and 0.0
plus_zero : (m : ℕ) (e : ℤ) → T (fits binary64 (fin false m e)) → AtMost (2 ^ 21) (fin false m e) → plus (fin false m e) Num.zero ≡ fin false m e
unfolding add sum of_bits
plus_zero m e f most =
    let x : Float = fin false m e in
    let b = to_bits binary64 x in
    let n = significand_of b * 2 ^ exponent_of b in
    let v = value_of x f refl in
    let hx : HasValue x false n (2 ^ 1074) = (refl, v.1) in
    let large : n ≤ 2 ^ 21 * 2 ^ 1074 =
    le_of_mul-le-mul_right {k = down e}
    (le_trans (le_of_eq (sym v.1)) (le_trans (mul-le-mul_right (2 ^ 1074) most) (le_of_eq (mul_right_comm (2 ^ 21) (down e) (2 ^ 1074)))))
    (down_pos e) in
    let r = round binary64 false n (2 ^ 1074) in
    let hr : HasValue r false n (2 ^ 1074) =
    round_exact binary64 false n (2 ^ 1074) (significand_of b) (exponent_of b) (pow_pos 1074) (significand_lt b) (lt_of_le_of_lt large (lit< tt)) refl in
    let is : plus x Num.zero ≡ r =
    ap₂ (λ (a c : ℕ). round binary64 false a c) (omega (arith, mul-one (m * up e), zero-mul (down e))) (mul-one (down e))
    ∙ round_same binary64 false (m * up e) (down e) n (2 ^ 1074) (down_pos e) (pow_pos 1074) v.1 in
    is
    ∙ ⊎_elim
    (λ (z : r ≡ x). z)
    (λ (z : (abs r ≡ Num.zero) × (abs x ≡ Num.zero)). sym (clear r n (2 ^ 1074) hr) ∙ z.0 ∙ sym z.1)
    (eq_same r x (round-fits binary64 false n (2 ^ 1074)) f (level r x n (2 ^ 1074) (pow_pos 1074) hr hx))

apart_zero : (d : Float) → T (fits binary64 d) → AtMost (2 ^ 21) (abs d) → plus (abs d) Num.zero ≡ abs d
apart_zero nan f l = absurd l
apart_zero (inf s) f l = absurd l
apart_zero (fin s m e) f l = plus_zero m e (abs_fits (fin s m e) f) l

zero_apart : apart Num.zero Num.zero ≡ Num.zero
unfolding apart count_trailing_zeros size span climb units odd round sum neg add sub of_fields of_bits
zero_apart = refl

-- between a sheet's points whose second coordinates are zero, of either sign
pub distance_along : (p q : Point) → is_placed p ≡ true → is_placed q ≡ true → is_zero p.across ≡ true → is_zero q.across ≡ true
    → distance p q ≡ apart p.along q.along
unfolding distance apart
distance_along p q a b y z =
    ap (plus (apart p.along q.along)) (apart_zeros p.across q.across y z ∙ zero_apart)
    ∙ apart_zero (minus p.along q.along) (sub-fits binary64 p.along q.along)
    (apart_size 20 p.along q.along (omega arith) (position_power p.along (along_inside p a)) (position_power q.along (along_inside q b)))

-- ---- an accepted sheet of edition 1

next_across : (c : Counts) (k : Kind) → (next c k).across ≡ c.across
next_across c Policy = refl
next_across c Stop = refl
next_across c Line = refl
next_across c Car = refl
next_across c Aboard = refl
next_across c Waiting = refl
next_across c Demand = refl
next_across c Closed = refl
next_across c Unknown = refl

across_kept : (s : List ℕ) (n : ℕ) (c d : Counts) → records_verdict s n c ≡ Ok d → d.across ≡ c.across
across_kept s zero c d e = ap (λ (x : Counts). x.across) (sym (at_end s c d e))
across_kept s (suc n) c d e =
    across_kept s n (next c (kind_of (kind_at s c))) d (on s n c d e).1 ∙ next_across c (kind_of (kind_at s c))

-- the bits of a second coordinate are those of its edition
pub across_is : (s : List ℕ) (c : Counts) → verdict s ≡ Ok c → c.across ≡ across_bits (edition s)
across_is s c e = across_kept s (record_count s) (at_first s) c (headed s c e).rest

module _ (s : List ℕ) (c : Counts) (v : verdict s ≡ Ok c) (one : edition s ≡ 1) where
  none_across : c.across ≡ 0
  none_across = across_is s c v ∙ ap across_bits one

  stop_level : (j : ℕ) → is_zero ((sheet_of s c).stop j).position.across ≡ true
  unfolding sheet_of stop_of field_at of_bits eq
  stop_level j = rw none_across

  car_level : (i : ℕ) → is_zero ((sheet_of s c).car i).position.across ≡ true
  unfolding sheet_of car_of field_at of_bits eq
  car_level i = rw none_across

  placed_stop : (j : ℕ) → j < c.stops → is_placed ((sheet_of s c).stop j).position ≡ true
  unfolding sheet_of
  placed_stop j l = ((accepted s c v).sheet.stop j l).position

  placed_car : (i : ℕ) → i < c.cars → is_placed ((sheet_of s c).car i).position ≡ true
  unfolding sheet_of
  placed_car i l = ((accepted s c v).sheet.car i l).position

  -- from a car to a stop, and from a stop to a stop
  pub first_away : (i j : ℕ) → i < c.cars → j < c.stops
      → distance ((sheet_of s c).car i).position ((sheet_of s c).stop j).position
      ≡ apart ((sheet_of s c).car i).position.along ((sheet_of s c).stop j).position.along
  first_away i j li lj =
      distance_along ((sheet_of s c).car i).position ((sheet_of s c).stop j).position (placed_car i li) (placed_stop j lj) (car_level i) (stop_level j)

  pub first_between : (j k : ℕ) → j < c.stops → k < c.stops
      → distance ((sheet_of s c).stop j).position ((sheet_of s c).stop k).position
      ≡ apart ((sheet_of s c).stop j).position.along ((sheet_of s c).stop k).position.along
  first_between j k lj lk =
      distance_along ((sheet_of s c).stop j).position ((sheet_of s c).stop k).position (placed_stop j lj) (placed_stop k lk) (stop_level j) (stop_level k)
