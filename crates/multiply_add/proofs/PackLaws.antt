-- Laws behind normalising, rounding and packing. Assumes nothing.
use Rattle.std.proofs.Common.{◌≡◌, ℕ, suc, ◌+◌, ◌-◌, ◌*◌, ◌/◌, ◌%◌, ◌^◌, ◌<◌, ◌≤◌, Bool, not, T, sym, ap, ◌∙◌, subst, inl, inr, le_trans, le_of_eq, lt_of_le_of_lt, add-zero, le_of_lt, add_assoc, mul-le-mul_right, mod-eq_of_lt, mul_comm, add-mul, add_comm, one-mul, div-add-mod', zero-add, zero-mul, mul-one, mul_right_comm, div-mul-le_self, arith, lit<, pow_pos, pow_mono, pow-add, le-ltb, refl, true, false, ◌⊎◌, min}
use Prim.Native.Nat.{compare}
use native.Mathlib.Nat.{div-eq_of_lt, pow-succ'}
use lib.Count.{count_leading_zeros, leading_le, leading_top}
use lib.Pow.{pow-lt}
use mir.Val.{bool_byte}
use lib.Ieee.{binary64, nearest, units, round, nan_bits, of_bits}
use lib.Ieee.Bits.{nan_bits_above}
use lib.Ieee.Nearest.{closest}
use Rattle.std.proofs.Math.Nat.{min-le_right, min-eq_left, min-eq_right}
use Rattle.laws.specs.Bools.{less?}
use Rattle.fp.specs.Fields.{sign_one, field_one}
use Rattle.rounding.specs.Closest.{cmp_lt, cmp_eq, cmp_gt, closest_whole, closest_cut, closest_full}
use Rattle.rounding.specs.Sticky.{Near, near_round}
use Rattle.rounding.specs.Jam.{jam_near, near_scale, near_unscale}
use Rattle.rounding.specs.Pack.{sign_bit, pack_in, pack_out, Kept, kept_at, lead_lo, lead_hi, round_zero}
use Rattle.multiply_add.specs.Steps.{base, wide, Holds, once, Sticky, Normalised, Packs, Rounds}

pub not_nan : (n : ℕ) → n % sign_one ≤ 0x7ff0_0000_0000_0000 → T (not (nan_bits binary64 n))
not_nan n h = rw (nan_bits_above binary64 n, le-ltb 0x7ff0_0000_0000_0000 (n % sign_one) h) tt

-- the sign's bit, from the byte of a bool
pub packed_bits : (s : Bool) (n : ℕ) → n ≡ bool_byte s → (m : ℕ) → n * 9223372036854775808 % base + m ≡ sign_bit s + m
packed_bits true n e m = rw e refl
packed_bits false n e m = rw e refl

pub packed_small : (s : Bool) (n b m : ℕ) → n ≡ bool_byte s → m ≡ min b 0x7ff0_0000_0000_0000
    → (n * 9223372036854775808 % base + m) % sign_one ≤ 0x7ff0_0000_0000_0000
packed_small s n b m e g = rw (packed_bits s n e m) (low s m (le_trans (le_of_eq g) (min-le_right b 0x7ff0_0000_0000_0000)))
  where
    low : (s : Bool) (m : ℕ) → m ≤ 0x7ff0_0000_0000_0000 → (sign_bit s + m) % sign_one ≤ 0x7ff0_0000_0000_0000
    low true m h = omega arith
    low false m h = omega arith

pub packed_is : (s : Bool) (q k : ℕ) → Packs q k → (m : ℕ) → m ≡ min (k * field_one + q) 0x7ff0_0000_0000_0000
    → of_bits binary64 (sign_bit s + m) ≡ units binary64 s q k
packed_is s q k p m e = by_size (less? (k * field_one + q) 0x7ff0_0000_0000_0000)
  where
    by_size : (k * field_one + q < 0x7ff0_0000_0000_0000) ⊎ (0x7ff0_0000_0000_0000 ≤ k * field_one + q)
        → of_bits binary64 (sign_bit s + m) ≡ units binary64 s q k
    by_size (inl h) = ap (λ (z : ℕ). of_bits binary64 (sign_bit s + z)) (e ∙ min-eq_left (le_of_lt h)) ∙ pack_in s q k p.most p.least h
    by_size (inr h) = ap (λ (z : ℕ). of_bits binary64 (sign_bit s + z)) (e ∙ min-eq_right h) ∙ pack_out s q k p.most p.least h

-- ---- the nearest

pub nearest_none : (w t : ℕ) → t ≡ 0 → w ≡ closest w (2 ^ t)
nearest_none w t e = sym (ap (λ (z : ℕ). closest w (2 ^ z)) e ∙ ap (λ (z : ℕ). closest z 1) (sym (mul-one w)) ∙ closest_whole w 1 (lit< tt))

module _ (w t : ℕ) (fit : w < base) (some : t ≡ 0 → ⊥) (few : t < 64) where
  pub shifted_le : w / 2 ^ t * 2 ^ t % base ≤ w
  shifted_le = le_trans (le_of_eq (mod-eq_of_lt (lt_of_le_of_lt (div-mul-le_self w (2 ^ t)) fit))) (div-mul-le_self w (2 ^ t))

  rest_is : w - w / 2 ^ t * 2 ^ t % base ≡ w % 2 ^ t
  rest_is =
      let e : w / 2 ^ t * 2 ^ t % base ≡ w / 2 ^ t * 2 ^ t = mod-eq_of_lt (lt_of_le_of_lt (div-mul-le_self w (2 ^ t)) fit) in
      let d : w / 2 ^ t * 2 ^ t + w % 2 ^ t ≡ w = div-add-mod' w (2 ^ t) in
      omega arith

  half_is : 1 * 2 ^ (t - 1) % base ≡ 2 ^ (t - 1)
  half_is = ap (λ (z : ℕ). z % base) (one-mul (2 ^ (t - 1))) ∙ mod-eq_of_lt (pow-lt {j = 64} (omega arith))

  whole_is : 2 ^ t ≡ 2 * 2 ^ (t - 1)
  whole_is = ap (λ (z : ℕ). 2 ^ z) (next t some) ∙ pow-succ' 2 (t - 1)
    where
      next : (t : ℕ) → (t ≡ 0 → ⊥) → t ≡ suc (t - 1)
      next t h = omega arith

  pub nearest_down : w - w / 2 ^ t * 2 ^ t % base < 1 * 2 ^ (t - 1) % base → w / 2 ^ t ≡ closest w (2 ^ t)
  nearest_down h =
      let a = rest_is in let b = half_is in let d = whole_is in sym (ap (nearest (w / 2 ^ t)) (cmp_lt (w % 2 ^ t * 2) (2 ^ t) (omega arith)))

  pub nearest_tie : w - w / 2 ^ t * 2 ^ t % base ≡ 1 * 2 ^ (t - 1) % base → w / 2 ^ t + w / 2 ^ t % 2 ≡ closest w (2 ^ t)
  nearest_tie h =
      let a = rest_is in let b = half_is in let d = whole_is in sym (ap (nearest (w / 2 ^ t)) (cmp_eq (w % 2 ^ t * 2) (2 ^ t) (omega arith)))

  pub nearest_up : 1 * 2 ^ (t - 1) % base ≤ w - w / 2 ^ t * 2 ^ t % base → (w - w / 2 ^ t * 2 ^ t % base ≡ 1 * 2 ^ (t - 1) % base → ⊥)
      → w / 2 ^ t + 1 ≡ closest w (2 ^ t)
  nearest_up h n =
      let a = rest_is in
      let b = half_is in
      let d = whole_is in
      plus_one (w / 2 ^ t) ∙ sym (ap (nearest (w / 2 ^ t)) (cmp_gt (w % 2 ^ t * 2) (2 ^ t) (omega arith)))
    where
      plus_one : (x : ℕ) → x + 1 ≡ suc x
      plus_one x = omega arith

  pub quotient_small : w / 2 ^ t < 2 ^ 63
  quotient_small =
      let d : w / 2 ^ t * 2 ^ t ≤ w = div-mul-le_self w (2 ^ t) in
      let e = whole_is in
      let g : w / 2 ^ t * 2 ≤ w / 2 ^ t * 2 ^ t = twice (w / 2 ^ t) (2 ^ t) (2 ^ (t - 1)) (pow_pos (t - 1)) e in
      omega arith
    where
      twice : (q u h : ℕ) → 0 < h → u ≡ 2 * h → q * 2 ≤ q * u
      twice q u h p e = le_trans (mul_mono q 2 (2 * h) (omega arith)) (le_of_eq (ap (λ (z : ℕ). q * z) (sym e)))
        where
          mul_mono : (q a b : ℕ) → a ≤ b → q * a ≤ q * b
          mul_mono q a b k = le_trans (le_of_eq (mul_comm q a)) (le_trans (mul-le-mul_right q k) (le_of_eq (mul_comm b q)))

small_closest : (w u : ℕ) → w < u → closest w u ≡ nearest 0 (compare (w * 2) u)
small_closest w u h =
    ap (λ (z : ℕ). nearest z (compare (w % u * 2) u)) (div-eq_of_lt h) ∙ ap (λ (z : ℕ). nearest 0 (compare (z * 2) u)) (mod-eq_of_lt h)

pub nearest_none_left : (w t : ℕ) → w < base → 64 ≤ t → (t ≡ 64 → ⊥) → 0 ≡ closest w (2 ^ t)
nearest_none_left w t h k n =
    let g : 2 ^ 65 ≤ 2 ^ t = pow_mono {i = 65} {j = t} (omega arith) in
    sym (small_closest w (2 ^ t) (omega arith) ∙ ap (nearest 0) (cmp_lt (w * 2) (2 ^ t) (omega arith)))

-- ---- one word for two

pub sticky_none : (hi lo : ℕ) → lo ≡ 0 → Sticky hi lo hi
sticky_none hi lo e = record { near = inl (ap (λ (z : ℕ). hi * base + z) e ∙ add-zero (hi * base)); least = omega arith; most = omega arith }

pub sticky_some : (hi lo : ℕ) → lo < base → (lo ≡ 0 → ⊥) → Sticky hi lo (hi + (1 - hi % 2))
sticky_some hi lo h n = record {
  near = jam_near (wide hi lo) hi base (over (hi * base) lo n) (under (hi * base) lo base h);
  least = omega arith;
  most = omega arith;
}
  where
    over : (a b : ℕ) → (b ≡ 0 → ⊥) → a < a + b
    over a b n = omega arith

    under : (a b c : ℕ) → b < c → a + b < a + c
    under a b c h = omega arith

-- the highest digit of a word that is not 0
pos_of : (w : ℕ) → (w ≡ 0 → ⊥) → 0 < w
pos_of w n = omega arith

pub zeros_lt : (w : ℕ) → w < base → (w ≡ 0 → ⊥) → count_leading_zeros 64 w < 64
zeros_lt w h n = let t = leading_top 64 w (pos_of w n) h in let e = t.1 in omega arith

module _ (hi : ℕ) (fit : hi < base) (some : hi ≡ 0 → ⊥) where
  lead_low : 2 ^ 63 ≤ hi * 2 ^ count_leading_zeros 64 hi
  lead_low =
      let t = leading_top 64 hi (pos_of hi some) fit in
      let z = count_leading_zeros 64 hi in
      le_trans (le_of_eq (ap (λ (x : ℕ). 2 ^ x) (sum_is z t.0 t.1) ∙ pow-add 2 t.0 z)) (mul-le-mul_right (2 ^ z) t.2)
    where
      sum_is : (z j : ℕ) → z + suc j ≡ 64 → 63 ≡ j + z
      sum_is z j e = omega arith

  lead_high : hi * 2 ^ count_leading_zeros 64 hi + 2 ^ count_leading_zeros 64 hi ≤ base
  lead_high =
      let t = leading_top 64 hi (pos_of hi some) fit in
      let z = count_leading_zeros 64 hi in
      le_trans (le_of_eq (sym (add-mul hi 1 (2 ^ z) ∙ ap (λ (x : ℕ). hi * 2 ^ z + x) (one-mul (2 ^ z)))))
      (le_trans (mul-le-mul_right (2 ^ z) (grow hi (2 ^ suc t.0) t.3))
      (le_of_eq (sym (pow-add 2 (suc t.0) z) ∙ ap (λ (x : ℕ). 2 ^ x) (sum_is z t.0 t.1))))
    where
      sum_is : (z j : ℕ) → z + suc j ≡ 64 → suc j + z ≡ 64
      sum_is z j e = omega arith

      grow : (a b : ℕ) → a < b → a + 1 ≤ b
      grow a b h = omega arith

  top_is : hi * 2 ^ count_leading_zeros 64 hi % base ≡ hi * 2 ^ count_leading_zeros 64 hi
  top_is = mod-eq_of_lt (under (hi * 2 ^ count_leading_zeros 64 hi) (2 ^ count_leading_zeros 64 hi) base (pow_pos (count_leading_zeros 64 hi)) lead_high)
    where
      under : (a b m : ℕ) → 0 < b → a + b ≤ m → a < m
      under a b m h k = omega arith

  pub top_fits : (lo xh xl : ℕ) → Holds (lo * 2 ^ count_leading_zeros 64 hi) (2 ^ count_leading_zeros 64 hi) xh xl → hi * 2 ^ count_leading_zeros 64 hi % base + xh < base
  top_fits lo xh xl g =
      lt_of_le_of_lt (le_of_eq (ap (λ (z : ℕ). z + xh) top_is))
      (under (hi * 2 ^ count_leading_zeros 64 hi) (2 ^ count_leading_zeros 64 hi) xh base g.small lead_high)
    where
      under : (a b c m : ℕ) → c < b → a + b ≤ m → a + c < m
      under a b c m h k = omega arith

  pub normalise_some : (lo xh xl w : ℕ) → Holds (lo * 2 ^ count_leading_zeros 64 hi) (2 ^ count_leading_zeros 64 hi) xh xl
      → Sticky (hi * 2 ^ count_leading_zeros 64 hi % base + xh) xl w → Normalised (wide hi lo) w (64 - count_leading_zeros 64 hi)
  unfolding once
  normalise_some lo xh xl w g k = record { same = same; far = omega arith }
    where
      words : wide (hi * 2 ^ count_leading_zeros 64 hi % base + xh) xl ≡ wide hi lo * 2 ^ count_leading_zeros 64 hi
      words =
          let y = count_leading_zeros 64 hi in
          ap (λ (x : ℕ). (x + xh) * base + xl) top_is ∙ ap (λ (x : ℕ). x + xl) (add-mul (hi * 2 ^ y) xh base)
          ∙ add_assoc (hi * 2 ^ y * base) (xh * base) xl ∙ ap (λ (x : ℕ). hi * 2 ^ y * base + x) g.value
          ∙ ap (λ (x : ℕ). x + lo * 2 ^ y) (mul_right_comm hi (2 ^ y) base) ∙ sym (add-mul (hi * base) lo (2 ^ y))

      unit : 2 ^ 64 ≡ 2 ^ (64 - count_leading_zeros 64 hi) * 2 ^ count_leading_zeros 64 hi
      unit = ap (λ (x : ℕ). 2 ^ x) (fill (count_leading_zeros 64 hi) (leading_le 64 hi)) ∙ pow-add 2 (64 - count_leading_zeros 64 hi) (count_leading_zeros 64 hi)
        where
          fill : (y : ℕ) → y ≤ 64 → 64 ≡ 64 - y + y
          fill y h = omega arith

      near : Near (wide hi lo) (2 ^ (64 - count_leading_zeros 64 hi)) w
      near =
          near_unscale (wide hi lo) (2 ^ (64 - count_leading_zeros 64 hi)) w (2 ^ count_leading_zeros 64 hi) (pow_pos (count_leading_zeros 64 hi))
          (subst (λ (u : ℕ). Near (wide hi lo * 2 ^ count_leading_zeros 64 hi) u w) unit (subst (λ (n : ℕ). Near n (2 ^ 64) w) words k.near))

      big : 2 ^ 54 ≤ w
      big = le_trans (lift63 (hi * 2 ^ count_leading_zeros 64 hi) xh lead_low) (le_trans (le_of_eq (ap (λ (x : ℕ). x + xh) (sym top_is))) k.least)
        where
          lift63 : (a b : ℕ) → 2 ^ 63 ≤ a → 2 ^ 54 ≤ a + b
          lift63 a b h = omega arith

      same : (s : Bool) (at : ℕ) → once s (wide hi lo * 2 ^ at) ≡ once s (w * 2 ^ (at + (64 - count_leading_zeros 64 hi)))
      same s at =
          let u = 64 - count_leading_zeros 64 hi in
          near_round binary64 s (wide hi lo * 2 ^ at) w (at + u)
          (subst (λ (x : ℕ). Near (wide hi lo * 2 ^ at) x w) (sym (pow-add 2 u at) ∙ ap (λ (x : ℕ). 2 ^ x) (add_comm u at))
          (near_scale (wide hi lo) (2 ^ u) w (2 ^ at) (pow_pos at) near))
          (inr big)

pub normalise_none : (hi lo : ℕ) → hi ≡ 0 → Normalised (wide hi lo) lo 0
normalise_none hi lo e = record {
  same =
      λ s at. ap (λ (z : ℕ). once s ((z * base + lo) * 2 ^ at)) e ∙ ap (λ (z : ℕ). once s (z * 2 ^ at)) (zero-add lo)
      ∙ ap (λ (z : ℕ). once s (lo * 2 ^ z)) (sym (add-zero at));
  far = omega arith;
}

-- ---- what is kept

pub rounded_full : (w at k : ℕ) → Rounds w at k → 1074 + k ≤ at → w * 2 ^ (at - (1074 + k)) % base ≡ closest (w * 2 ^ at) (2 ^ (1074 + k))
rounded_full w at k p h =
    let e = closest_full w at (1074 + k) h in
    mod-eq_of_lt (lt_of_le_of_lt (le_trans (le_of_eq (sym e)) p.fits) (lit< tt)) ∙ sym e

pub rounded_cut : (w at k : ℕ) → at < 1074 + k → closest w (2 ^ (1074 + k - at)) ≡ closest (w * 2 ^ at) (2 ^ (1074 + k))
rounded_cut w at k h = sym (closest_cut w at (1074 + k) (le_of_lt h))

pub round_none : (s : Bool) (w at : ℕ) → w ≡ 0 → units binary64 s 0 0 ≡ once s (w * 2 ^ at)
unfolding once
round_none s w at e = sym (ap (λ (z : ℕ). round binary64 s z (2 ^ 2148)) (ap (λ (z : ℕ). z * 2 ^ at) e ∙ zero-mul (2 ^ at)) ∙ round_zero s)

module _ (s : Bool) (w at : ℕ) (fit : w < base) (some : w ≡ 0 → ⊥) where
  kept : Kept s (w * 2 ^ at) (at + (64 - count_leading_zeros 64 w) - 1127) (closest (w * 2 ^ at) (2 ^ (1074 + (at + (64 - count_leading_zeros 64 w) - 1127))))
  kept =
      let t = leading_top 64 w (pos_of w some) fit in
      subst (λ (x : ℕ). Kept s (w * 2 ^ at) (x - 1127) (closest (w * 2 ^ at) (2 ^ (1074 + (x - 1127))))) (length (count_leading_zeros 64 w) t.0 t.1)
      (kept_at s (w * 2 ^ at) (t.0 + at) (lead_lo w t.0 at t.2) (lead_hi w t.0 at t.3))
    where
      length : (z j : ℕ) → z + suc j ≡ 64 → suc (j + at) ≡ at + (64 - z)
      length z j e = omega arith

  pub keeps : (k : ℕ) → at < 4200 → k ≡ at + (64 - count_leading_zeros 64 w) - 1127 → Rounds w at k
  keeps k h e =
      let z = zeros_lt w fit some in
      record { low = h; place = omega arith; near = omega arith; fits = rw e kept.most }

  pub packs : (q k : ℕ) → at < 4200 → k ≡ at + (64 - count_leading_zeros 64 w) - 1127 → q ≡ closest (w * 2 ^ at) (2 ^ (1074 + k)) → Packs q k
  packs q k h e g =
      let z = zeros_lt w fit some in
      record { most = rw (g, e) kept.most; least = rw (g, e) kept.least; place = omega arith }

  pub round_some : (q k : ℕ) → k ≡ at + (64 - count_leading_zeros 64 w) - 1127 → q ≡ closest (w * 2 ^ at) (2 ^ (1074 + k))
      → units binary64 s q k ≡ once s (w * 2 ^ at)
  unfolding once
  round_some q k e g = rw (g, e) (sym kept.value)
