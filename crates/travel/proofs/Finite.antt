-- In the domain the time is finite: it is at most 2^84 in size. Nothing is said of its sign: it can come out below zero. Assumes nothing.
use Rattle.std.specs.Prelude.{ℕ, ◌^◌, ◌≡◌, refl, ◌⊎◌, Bool, ◌&&◌, ◌||◌, cond, T, Float, Some, None}
use Rattle.std.proofs.Common.{arith, inl, inr, lit≤, lit<}
use Rattle.std.proofs.Math.Logic.{⊎_elim}
use Rattle.std.proofs.Math.Bool.{true, false}
use Rattle.std.specs.Float.Ieee.{binary64, of_bits, neg, lt, le, fits}
use Rattle.std.specs.Float.Ieee.Fits.{cond-fits, div-fits}
use Rattle.std.specs.Float.Ieee.Bits.{of_bits-fits}
use Rattle.laws.specs.Bools.{which, both_left, both_right, either, neither_left, neither_right, not_both}
use Rattle.fp.specs.Num.{zero, finite, plus, minus, times, over, max_zero, fma}
use Rattle.fp.specs.Ranges.{least_speed, is_position}
use Rattle.fp.specs.Inside.{AtMost, size_finite}
use Rattle.fp.specs.Nonneg.{nonneg, plus_nonneg, times_nonneg, over_nonneg, max_zero_nonneg}
use Rattle.fp.specs.Order.{real, finite_real, lt-le, le_self, le_total}
use Rattle.fp.specs.Sizes.{AtLeast, size_mono, neg_size, plus_size, minus_size, times_size, over_size, max_zero_size, position_power, least_power}
use Rattle.fp.specs.Sizes.{times_least, plus_least, least_above}
use Rattle.multiply_add.specs.MulAdd.{mul_add}
use Rattle.multiply_add.specs.Sizes.{mul_add_size, mul_add_fits}
use Rattle.square_root.specs.SquareRoot.{square_root}
use Rattle.square_root.proofs.Sizes.{root_size}
use Rattle.travel.specs.Ramps.{two, no_run, clamp_speed, brake_distance, brake_time, peak_speed, triangle_time, ramp_distance, cruise_distance}
use Rattle.travel.specs.Ramps.{trapezoid_time, run_time, seconds}
use Rattle.travel.specs.Domain.{is_sized, is_rate, in_domain}
use Rattle.travel.specs.Answers.{travel_time_of}

-- ---- the inputs

zero_size : (k : ℕ) → AtMost k zero
unfolding of_bits
zero_size k = omega arith

zero_real : real zero ≡ true
unfolding of_bits
zero_real = refl

two_size : AtMost (2 ^ 1) two
unfolding of_bits
two_size = lit≤ tt

two_least : AtLeast 0 two
unfolding of_bits
two_least = lit≤ tt

sized_power : (x : Float) → is_sized x ≡ true → AtMost (2 ^ 20) x
unfolding is_sized is_position
sized_power x h = position_power x h

-- a rate, or a top speed, above zero
rate_least : (x : Float) → is_rate x ≡ true → le x zero ≡ false → AtLeast 10 x
unfolding is_rate
rate_least x h n =
    least_power x (size_finite (2 ^ 20) x (sized_power x (both_left (is_sized x) _ h)))
    (⊎_elim (λ l. l) (λ l. absurd (not_both l n)) (either (le least_speed x) (le x zero) (both_right (is_sized x) _ h)))

-- ---- a run, of inputs of at most 2^20 with the last three at least 2^-10

record Run (d v m a b : Float) : Type 0 where
  way : AtMost (2 ^ 20) d
  ahead : le zero d ≡ true
  speed : AtMost (2 ^ 20) v
  onward : le zero v ≡ true
  top : AtMost (2 ^ 20) m
  top_least : AtLeast 10 m
  up : AtMost (2 ^ 20) a
  up_least : AtLeast 10 a
  down : AtMost (2 ^ 20) b
  down_least : AtLeast 10 b

-- one of two
either_size : (k : ℕ) (c : Bool) (x y : Float) → AtMost k x → AtMost k y → AtMost k (cond c x y)
either_size k true x y p q = p
either_size k false x y p q = q

either_nonneg : (c : Bool) (x y : Float) → le zero x ≡ true → le zero y ≡ true → le zero (cond c x y) ≡ true
either_nonneg true x y p q = p
either_nonneg false x y p q = q

-- what is at least 2^-i is at least zero
least_nonneg : (i : ℕ) (x : Float) → AtLeast i x → le zero x ≡ true
least_nonneg i x p = lt-le zero x (least_above i x p)

product_nonneg : (j k : ℕ) (x y : Float) → AtMost j x → AtMost k y → le zero x ≡ true → le zero y ≡ true → le zero (times x y) ≡ true
product_nonneg j k x y p q f g = times_nonneg x y (size_finite j x p) (size_finite k y q) f g

-- twice a rate
twice_least : (x : Float) → AtMost (2 ^ 20) x → AtLeast 10 x → AtLeast 10 (times two x)
twice_least x p q = times_least 0 10 (2 ^ 21) two x (lit≤ tt) two_least q (times_size 1 20 two x (lit≤ tt) two_size p)

brake_size : (v b : Float) → AtMost (2 ^ 20) v → AtMost (2 ^ 20) b → AtLeast 10 b → AtMost (2 ^ 50) (brake_distance v b)
unfolding brake_distance
brake_size v b p q l = over_size 40 10 (times v v) (times two b) (lit≤ tt) (times_size 20 20 v v (lit≤ tt) p p) (twice_least b q l)

module _ (d v m a b : Float) (r : Run d v m a b) where
  square : AtMost (2 ^ 40) (times v v)
  square = times_size 20 20 v v (lit≤ tt) r.speed r.speed

  twice_way : AtMost (2 ^ 21) (times two d)
  twice_way = times_size 1 20 two d (lit≤ tt) two_size r.way

  -- braking all the way
  left_size : AtMost (2 ^ 42) (max_zero (mul_add (times two d) (neg b) (times v v)))
  left_size =
      max_zero_size (2 ^ 42) (mul_add (times two d) (neg b) (times v v))
      (mul_add_size 21 20 41 (times two d) (neg b) (times v v) (lit≤ tt) (lit< tt) twice_way (neg_size (2 ^ 20) b r.down)
      (size_mono (2 ^ 40) (2 ^ 41) (times v v) (lit≤ tt) square))

  left_fits : T (fits binary64 (max_zero (mul_add (times two d) (neg b) (times v v))))
  left_fits =
      let x = mul_add (times two d) (neg b) (times v v) in
      cond-fits binary64 (lt zero x) x zero (mul_add_fits (times two d) (neg b) (times v v)) (of_bits-fits binary64 0)

  brake_time_lem : AtMost (2 ^ 53) (brake_time d v b)
  unfolding brake_time
  brake_time_lem =
      let x = max_zero (mul_add (times two d) (neg b) (times v v)) in
      over_size 43 10 (minus v (square_root x)) b (lit≤ tt)
      (minus_size 42 v (square_root x) (lit< tt) (size_mono (2 ^ 20) (2 ^ 42) v (lit≤ tt) r.speed)
      (root_size 42 x left_fits (max_zero_nonneg (mul_add (times two d) (neg b) (times v v))) left_size))
      r.down_least

  -- the peak
  products : AtMost (2 ^ 61) (times (times (times two d) a) b)
  products =
      times_size 41 20 (times (times two d) a) b (lit≤ tt) (times_size 21 20 (times two d) a (lit≤ tt) twice_way r.up) r.down

  dividend : AtMost (2 ^ 62) (fma b (times v v) (times (times (times two d) a) b))
  dividend =
      plus_size 61 (times b (times v v)) (times (times (times two d) a) b) (lit< tt)
      (size_mono (2 ^ 60) (2 ^ 61) (times b (times v v)) (lit≤ tt) (times_size 20 40 b (times v v) (lit≤ tt) r.down square)) products

  divisor : AtLeast 10 (plus a b)
  divisor = plus_least 10 10 (2 ^ 21) a b (lit≤ tt) r.up_least r.down_least (plus_size 20 a b (lit< tt) r.up r.down)

  dividend_nonneg : le zero (fma b (times v v) (times (times (times two d) a) b)) ≡ true
  dividend_nonneg =
      let down = least_nonneg 10 b r.down_least in
      let twice = product_nonneg (2 ^ 1) (2 ^ 20) two d two_size r.way (least_nonneg 0 two two_least) r.ahead in
      let upward = product_nonneg (2 ^ 21) (2 ^ 20) (times two d) a twice_way r.up twice (least_nonneg 10 a r.up_least) in
      plus_nonneg (times b (times v v)) (times (times (times two d) a) b)
      (product_nonneg (2 ^ 20) (2 ^ 40) b (times v v) r.down square down
      (product_nonneg (2 ^ 20) (2 ^ 20) v v r.speed r.speed r.onward r.onward))
      (product_nonneg (2 ^ 41) (2 ^ 20) (times (times two d) a) b
      (times_size 21 20 (times two d) a (lit≤ tt) twice_way r.up) r.down upward down)

  peak_size : AtMost (2 ^ 72) (peak_speed d v a b)
  unfolding peak_speed
  peak_size =
      let x = fma b (times v v) (times (times (times two d) a) b) in
      root_size 72 (over x (plus a b)) (div-fits binary64 x (plus a b))
      (over_nonneg x (plus a b) (size_finite (2 ^ 62) x dividend) (size_finite (2 ^ 21) (plus a b) (plus_size 20 a b (lit< tt) r.up r.down))
      dividend_nonneg (least_above 10 (plus a b) divisor))
      (over_size 62 10 x (plus a b) (lit≤ tt) dividend divisor)

  triangle_time_lem : AtMost (2 ^ 84) (triangle_time (peak_speed d v a b) v a b)
  unfolding triangle_time
  triangle_time_lem =
      let p = peak_speed d v a b in
      plus_size 83 (over (minus p v) a) (over p b) (lit< tt)
      (over_size 73 10 (minus p v) a (lit≤ tt)
      (minus_size 72 p v (lit< tt) peak_size (size_mono (2 ^ 20) (2 ^ 72) v (lit≤ tt) r.speed)) r.up_least)
      (size_mono (2 ^ 82) (2 ^ 83) (over p b) (lit≤ tt) (over_size 72 10 p b (lit≤ tt) peak_size r.down_least))

  -- with a cruise
  ramp_size : AtMost (2 ^ 51) (ramp_distance v m a)
  unfolding ramp_distance
  ramp_size =
      over_size 41 10 (fma m m (neg (times v v))) (times two a) (lit≤ tt)
      (plus_size 40 (times m m) (neg (times v v)) (lit< tt) (times_size 20 20 m m (lit≤ tt) r.top r.top) (neg_size (2 ^ 40) (times v v) square))
      (twice_least a r.up r.up_least)

  cruise_size : AtMost (2 ^ 53) (cruise_distance d v m a b)
  unfolding cruise_distance
  cruise_size =
      let ramp = ramp_distance v m a in
      minus_size 52 (minus d ramp) (brake_distance m b) (lit< tt)
      (minus_size 51 d ramp (lit< tt) (size_mono (2 ^ 20) (2 ^ 51) d (lit≤ tt) r.way) ramp_size)
      (size_mono (2 ^ 50) (2 ^ 52) (brake_distance m b) (lit≤ tt) (brake_size m b r.top r.down r.down_least))

  trapezoid_time_lem : AtMost (2 ^ 65) (trapezoid_time d v m a b)
  unfolding trapezoid_time
  trapezoid_time_lem =
      let cruise = cruise_distance d v m a b in
      plus_size 64 (plus (over (minus m v) a) (over cruise m)) (over m b) (lit< tt)
      (plus_size 63 (over (minus m v) a) (over cruise m) (lit< tt)
      (size_mono (2 ^ 31) (2 ^ 63) (over (minus m v) a) (lit≤ tt)
      (over_size 21 10 (minus m v) a (lit≤ tt) (minus_size 20 m v (lit< tt) r.top r.speed) r.up_least))
      (over_size 53 10 cruise m (lit≤ tt) cruise_size r.top_least))
      (size_mono (2 ^ 30) (2 ^ 64) (over m b) (lit≤ tt) (over_size 20 10 m b (lit≤ tt) r.top r.down_least))

  run_size : AtMost (2 ^ 84) (run_time d v m a b)
  unfolding run_time
  run_size =
      either_size (2 ^ 84) (le d (brake_distance v b)) (brake_time d v b) _ (size_mono (2 ^ 53) (2 ^ 84) (brake_time d v b) (lit≤ tt) brake_time_lem)
      (either_size (2 ^ 84) (le (peak_speed d v a b) m) (triangle_time (peak_speed d v a b) v a b) (trapezoid_time d v m a b) triangle_time_lem
      (size_mono (2 ^ 65) (2 ^ 84) (trapezoid_time d v m a b) (lit≤ tt) trapezoid_time_lem))

-- ---- the theorem

-- the starting speed, clamped
clamp_size : (v m : Float) → AtMost (2 ^ 20) v → AtMost (2 ^ 20) m → AtMost (2 ^ 20) (clamp_speed v m)
unfolding clamp_speed
clamp_size v m p q =
    let x = cond (lt v zero) zero v in
    either_size (2 ^ 20) (lt m x) m x q (either_size (2 ^ 20) (lt v zero) zero v (zero_size (2 ^ 20)) p)

clamp_nonneg : (v m : Float) → finite v ≡ true → le zero m ≡ true → le zero (clamp_speed v m) ≡ true
unfolding clamp_speed
clamp_nonneg v m f p = either_nonneg (lt m (cond (lt v zero) zero v)) m (cond (lt v zero) zero v) p (risen (which (lt v zero)))
  where
    risen : (lt v zero ≡ true) ⊎ (lt v zero ≡ false) → le zero (cond (lt v zero) zero v) ≡ true
    risen (inl l) = rw l (le_self zero zero_real)
    risen (inr l) = rw l (nonneg v (finite_real v f) l)

module _ (d v m a b : Float) (inside : in_domain d v m a b ≡ true) where
  running : no_run d m a b ≡ false → Run d (clamp_speed v m) m a b
  unfolding in_domain is_rate no_run
  running h =
      let h3 = neither_left ((le d zero || le m zero) || le a zero) (le b zero) h in
      let h2 = neither_left (le d zero || le m zero) (le a zero) h3 in
      let nb = neither_right ((le d zero || le m zero) || le a zero) (le b zero) h in
      let na = neither_right (le d zero || le m zero) (le a zero) h3 in
      let nm = neither_right (le d zero) (le m zero) h2 in
      let i4 = both_left (((is_sized d && is_sized v) && is_rate m) && is_rate a) (is_rate b) inside in
      let i3 = both_left ((is_sized d && is_sized v) && is_rate m) (is_rate a) i4 in
      let i2 = both_left (is_sized d && is_sized v) (is_rate m) i3 in
      let rb = both_right (((is_sized d && is_sized v) && is_rate m) && is_rate a) (is_rate b) inside in
      let ra = both_right ((is_sized d && is_sized v) && is_rate m) (is_rate a) i4 in
      let rm = both_right (is_sized d && is_sized v) (is_rate m) i3 in
      let sd = sized_power d (both_left (is_sized d) (is_sized v) i2) in
      let sv = sized_power v (both_right (is_sized d) (is_sized v) i2) in
      let sm = sized_power m (both_left (is_sized m) _ rm) in
      let lm = rate_least m rm nm in
      record {
        way = sd;
        ahead = ahead d (size_finite (2 ^ 20) d sd) (neither_left (le d zero) (le m zero) h2);
        speed = clamp_size v m sv sm;
        onward = clamp_nonneg v m (size_finite (2 ^ 20) v sv) (least_nonneg 10 m lm);
        top = sm;
        top_least = lm;
        up = sized_power a (both_left (is_sized a) _ ra);
        up_least = rate_least a ra na;
        down = sized_power b (both_left (is_sized b) _ rb);
        down_least = rate_least b rb nb;
      }
    where
      ahead : (d : Float) → finite d ≡ true → le d zero ≡ false → le zero d ≡ true
      ahead d f n = ⊎_elim (λ l. absurd (not_both l n)) (λ l. l) (le_total d zero (finite_real d f) zero_real)

  time_size : AtMost (2 ^ 84) (seconds d v m a b)
  unfolding seconds
  time_size = go (which (no_run d m a b))
    where
      go : (no_run d m a b ≡ true) ⊎ (no_run d m a b ≡ false) → AtMost (2 ^ 84) (seconds d v m a b)
      go (inl h) = rw h (zero_size (2 ^ 84))
      go (inr h) = rw h (run_size d (clamp_speed v m) m a b (running h))

  -- where there is a time, it is a finite double
  pub time_finite : finite (seconds d v m a b) ≡ true
  time_finite = size_finite (2 ^ 84) (seconds d v m a b) time_size

-- so is every time that is answered
pub answer_finite : (d v m a b t : Float) → travel_time_of d v m a b ≡ Some t → finite t ≡ true
unfolding travel_time_of
answer_finite d v m a b t h = let (inside, s) = time_is (in_domain d v m a b) (seconds d v m a b) h in rw (← s) (time_finite d v m a b inside)
  where
    time_is : (c : Bool) (s : Float) → cond c (Some s) None ≡ Some t → (c ≡ true) × (s ≡ t)
    time_is true s h = (refl, cc)
    time_is false s h = absurd (let z : ◌≡◌ {A = ℕ} 0 1 = cc in omega arith)
