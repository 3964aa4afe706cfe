-- Document 01's admitted ranges, as far as a rank depends on them, and how large the waiters' sums and a bonus can be in them. Assumes nothing.
use Rattle.std.specs.Prelude.{None, Option, Some}
use Rattle.components.specs.declared.Point.{Point}
use Rattle.std.specs.Prelude.{ℕ, zero, suc, ◌+◌, ◌*◌, ◌^◌, ◌≤◌, ◌<◌, ◌≡◌, Bool, eqb, Float}
use Rattle.std.proofs.Common.{arith, pow_mono}
use Rattle.std.proofs.Math.Bool.{true, false, cond}
use Rattle.std.specs.Float.Ieee.{of_bits, lt, le, neg}
use Rattle.laws.specs.Folds.{lookup}
use Rattle.fp.specs.Num as Num
use Rattle.fp.specs.Num.{times, plus, natural, max_zero, fma}
use Rattle.fp.specs.Order.{finite_real}
use Rattle.fp.specs.Ranges.{is_speed, is_mass, is_tick_rate}
use Rattle.fp.specs.Inside.{AtMost, mass_finite}
use Rattle.fp.specs.Apart.{room_finite}
use Rattle.fp.specs.Nonneg.{max_zero_nonneg}
use Rattle.fp.specs.Sizes.{size_mono, neg_size, max_zero_size, plus_size, times_size}
use Rattle.components.specs.Points.{is_placed, Sized, placed_size}
use Rattle.components.specs.Sheet.{Sheet}
use Rattle.manifest.specs.World.{stop_id, stop_at, stop_position}
use Rattle.dispatch.specs.Waits.{fairness_bonus, with_bonus}
use Rattle.dispatch.specs.WaitersLaws.{Weighed}

-- what acceptance gives of a sheet's numbers and doubles: the table's "At most", 11, 13 and 14
pub record Admitted (s : Sheet) : Type 0 where
  pub stops : s.stops ≤ 64
  pub aboards : s.aboards ≤ 512
  pub waits : s.waits ≤ 512
  pub stop_at_lem : (j : ℕ) → j < s.stops → is_placed (stop_at s j) ≡ true
  pub car_at : (i : ℕ) → i < s.cars → is_placed (s.car i).position ≡ true
  pub speed : (i : ℕ) → i < s.cars → is_speed (s.car i).speed ≡ true
  pub capacity : (i : ℕ) → i < s.cars → is_mass (s.car i).capacity ≡ true
  pub load : (i : ℕ) → i < s.cars → is_mass (s.car i).load ≡ true
  pub ticks : (i : ℕ) → i < s.cars → (s.car i).transition * 2 + (s.car i).dwell ≤ 4_294_967_295
  pub weight : (w : ℕ) → w < s.waits → is_mass (s.waiting w).weight ≡ true
  pub wait : (w : ℕ) → w < s.waits → (s.waiting w).wait ≤ 9_007_199_254_740_992
  pub rate : is_tick_rate s.policy.rate ≡ true
  pub w0 : is_mass s.policy.w0 ≡ true
  pub w1 : is_mass s.policy.w1 ≡ true
  pub w2 : is_mass s.policy.w2 ≡ true
  pub w3 : is_mass s.policy.w3 ≡ true
  pub w4 : is_mass s.policy.w4 ≡ true
  pub w5 : is_mass s.policy.w5 ≡ true

pub weighed : (s : Sheet) (i : ℕ) → Admitted s → i < s.cars → Weighed s i
weighed s i a l =
    record {
      weights = λ w lw. finite_real (s.waiting w).weight (mass_finite (s.waiting w).weight (a.weight w lw));
      room = room_finite (s.car i).capacity (s.car i).load (a.capacity i l) (a.load i l);
    }

-- ---- bounds by powers of two

pub grow : (a b : ℕ) (x : Float) → a ≤ b → AtMost (2 ^ a) x → AtMost (2 ^ b) x
grow a b x l p = size_mono (2 ^ a) (2 ^ b) x (pow_mono l) p

-- a product and a sum of at most 2^k each
pub fma_size : (i j k : ℕ) (a b c : Float) → i + j ≤ k → k < 1023 → AtMost (2 ^ i) a → AtMost (2 ^ j) b → AtMost (2 ^ k) c
    → AtMost (2 ^ (k + 1)) (fma a b c)
fma_size i j k a b c l m p q r = plus_size k (times a b) c m (grow (i + j) k (times a b) l (times_size i j a b (omega arith) p q)) r

pub with_bonus_size : (j k : ℕ) (cost weight term : Float) → 30 + j ≤ k → k < 1023 → AtMost (2 ^ k) cost → AtMost (2 ^ 30) weight
    → AtMost (2 ^ j) term
    → AtMost (2 ^ (k + 1)) (with_bonus cost weight term)
unfolding with_bonus fairness_bonus
with_bonus_size j k cost weight term l m p q r = by (lt Num.zero weight)
  where
    by : (b : Bool) → AtMost (2 ^ (k + 1)) (cond b (max_zero (fma weight (neg term) cost)) cost)
    by true = max_zero_size (2 ^ (k + 1)) (fma weight (neg term) cost) (fma_size 30 j k weight (neg term) cost l m q (neg_size (2 ^ j) term r) p)
    by false = grow k (k + 1) cost (omega arith) p

-- a bonus leaves a cost at least 0
pub with_bonus_nonneg : (cost weight term : Float) → le Num.zero cost ≡ true → le Num.zero (with_bonus cost weight term) ≡ true
unfolding with_bonus fairness_bonus
with_bonus_nonneg cost weight term h = by (lt Num.zero weight)
  where
    by : (b : Bool) → le Num.zero (cond b (max_zero (fma weight (neg term) cost)) cost) ≡ true
    by true = max_zero_nonneg (fma weight (neg term) cost)
    by false = h

pub zero_size : (k : ℕ) → AtMost k Num.zero
unfolding of_bits
zero_size k = omega arith

-- ---- where a stop stands

abbrev pub Placed : Option Point → Type 0
Placed None = Unit {0}
Placed (Some d) = Sized 20 d

lookup_all : {A : Type 0} (P : A → Type 0) (p : ℕ → Bool) (f : ℕ → A) (z : A) (n : ℕ) → P z → ((k : ℕ) → k < n → P (f k))
    → P (lookup p f z n)
unfolding lookup
lookup_all P p f z zero h g = h
lookup_all {A} P p f z (suc n) h g = by (p n) (lookup_all P p f z n h (λ k l. g k (omega arith)))
  where
    by : (b : Bool) → P (lookup p f z n) → P (cond b (f n) (lookup p f z n))
    by true q = g n (omega arith)
    by false q = q

pub placed : (s : Sheet) → Admitted s → (id : ℕ) → Placed (stop_position s id)
unfolding stop_position
placed s a id =
    lookup_all Placed (λ j. eqb (stop_id s j) id) (λ j. Some (stop_at s j)) None s.stops tt (λ k l. placed_size (stop_at s k) (a.stop_at_lem k l))
