-- From what `round` keeps to the double's bits: q * 2 ^ k of the smallest doubles is the pattern k * 2 ^ 52 + q, and from the infinity's on it is the
-- infinity. Assumes nothing.
use Rattle.std.specs.Prelude.{◌≡◌, refl, ◌⊎◌, ℕ, suc, ◌+◌, ◌-◌, ◌*◌, ◌/◌, ◌^◌, ◌≤◌, ◌<◌, Bool, true, false, cond, ℤ, Float}
use Rattle.std.proofs.Common.{sym, ap, ◌∙◌, subst, inl, inr, le_refl, le_trans, le_of_eq, le_of_lt, le_antisymm, lt_of_lt_of_le, lt_of_le_of_lt, eq-or-lt_of_le, mul_assoc, mul-le-mul_right, mul-lt-mul_of_pos_right, mul-one, add_assoc, mul-div_cancel, arith, lit<, pow-add, pow_pos, pow_mono, lt-ltb, le-ltb}
use Rattle.std.proofs.Math.Nat.{pow-succ'}
use Rattle.std.proofs.Math.Pow.{pow-lt}
use Rattle.std.specs.Float.{nan, inf, fin, binary64}
use Rattle.std.specs.Float.Ieee.{up, down, size, odd, units, round, of_bits, to_bits}
use Rattle.std.specs.Float.Ieee.Digits.{size-lt, size-le}
use Rattle.std.specs.Float.Ieee.Fits.{odd-fits, down_pos}
use Rattle.std.specs.Float.Ieee.Exact.{HasValue, odd_sign}
use Rattle.std.specs.Float.Ieee.Bits.{of_bits-to_bits}
use Rattle.std.specs.Float.Ieee.Nearest.{closest}
use Rattle.laws.specs.Bools.{less?}
use Rattle.fp.specs.Fields.{field_one, sign_one}
use Rattle.rounding.specs.Closest.{closest_upper, closest_lower}
use Rattle.rounding.specs.Sticky.{gap, round_at, gap_lt, gap_le, pow_lt_back}

-- ---- the bits of a value of a / 2 ^ 1074

abbrev pub sign_bit : Bool → ℕ
sign_bit s = cond s sign_one 0

bits_fin : (s : Bool) (m : ℕ) (e : ℤ) (n : ℕ) → m * up e * 2 ^ 1074 / down e ≡ n
    → to_bits binary64 (fin s m e) ≡ sign_bit s + (size n - 53) * field_one + n / 2 ^ (size n - 53)
unfolding to_bits
bits_fin s m e n p = ap (λ (x : ℕ). sign_bit s + (size x - 53) * field_one + x / 2 ^ (size x - 53)) p

bits_of_lem : (x : Float) (s : Bool) (a : ℕ) → HasValue x s a (2 ^ 1074)
    → to_bits binary64 x ≡ sign_bit s + (size a - 53) * field_one + a / 2 ^ (size a - 53)
bits_of_lem nan s a h = absurd h
bits_of_lem (inf t) s a h = absurd h
bits_of_lem (fin t m e) s a h =
    bits_fin t m e a (ap (λ (x : ℕ). x / down e) h.1 ∙ mul-div_cancel a (down_pos e))
    ∙ ap (λ (b : Bool). sign_bit b + (size a - 53) * field_one + a / 2 ^ (size a - 53)) h.0

pub size_exact : (a n : ℕ) → 2 ^ a ≤ n → n < 2 ^ suc a → size n ≡ suc a
size_exact a n lo hi = le_antisymm (size-le n (suc a) hi) (pow_lt_back a (size n) (lt_of_le_of_lt lo (size-lt n)))

-- what the bits come to, by the digits of q
at_size : (a q k : ℕ) → size a - 53 ≡ k → a ≡ q * 2 ^ k → (size a - 53) * field_one + a / 2 ^ (size a - 53) ≡ k * field_one + q
at_size a q k e g =
    ap (λ (z : ℕ). z * field_one + a / 2 ^ z) e ∙ ap (λ (z : ℕ). k * field_one + z / 2 ^ k) g
    ∙ ap (λ (z : ℕ). k * field_one + z) (mul-div_cancel q (pow_pos k))

pattern : (q k : ℕ) → q ≤ 0x20_0000_0000_0000 → (k ≡ 0) ⊎ (field_one ≤ q)
    → (size (q * 2 ^ k) - 53) * field_one + q * 2 ^ k / 2 ^ (size (q * 2 ^ k) - 53) ≡ k * field_one + q
pattern q k le b = go (less? q field_one) (eq-or-lt_of_le le) b
  where
    next : (k : ℕ) → 53 + k ≡ suc (52 + k)
    next k = omega arith

    none : (z : ℕ) → z ≤ 52 → z - 53 ≡ 0
    none z h = omega arith

    some : (z k : ℕ) → z ≡ suc (52 + k) → z - 53 ≡ k
    some z k h = omega arith

    more : (z k : ℕ) → z ≡ suc (53 + k) → z - 53 ≡ suc k
    more z k h = omega arith

    go : (q < field_one) ⊎ (field_one ≤ q) → (q ≡ 0x20_0000_0000_0000) ⊎ (q < 0x20_0000_0000_0000) → (k ≡ 0) ⊎ (field_one ≤ q)
        → (size (q * 2 ^ k) - 53) * field_one + q * 2 ^ k / 2 ^ (size (q * 2 ^ k) - 53) ≡ k * field_one + q
    go (inl h) t (inl e) =
        at_size (q * 2 ^ k) q k (none (size (q * 2 ^ k))
        (size-le (q * 2 ^ k) 52 (subst (λ (x : ℕ). q * 2 ^ x < 2 ^ 52) (sym e) (lt_of_le_of_lt (le_of_eq (mul-one q)) h))) ∙ sym e) refl
    go (inl h) t (inr g) = absurd (omega arith)
    go (inr h) (inr t) c =
        at_size (q * 2 ^ k) q k
        (some (size (q * 2 ^ k)) k (size_exact (52 + k) (q * 2 ^ k) (le_trans (le_of_eq (pow-add 2 52 k)) (mul-le-mul_right (2 ^ k) h))
        (lt_of_lt_of_le (mul-lt-mul_of_pos_right t (pow_pos k)) (le_of_eq (sym (pow-add 2 53 k) ∙ ap (λ (z : ℕ). 2 ^ z) (next k)))))) refl
    go (inr h) (inl t) c =
        let i : q * 2 ^ k ≡ field_one * 2 ^ suc k =
        ap (λ (z : ℕ). z * 2 ^ k) t ∙ mul_assoc field_one 2 (2 ^ k) ∙ ap (λ (z : ℕ). field_one * z) (sym (pow-succ' 2 k)) in
        let w : q * 2 ^ k ≡ 2 ^ (53 + k) = ap (λ (z : ℕ). z * 2 ^ k) t ∙ sym (pow-add 2 53 k) in
        at_size (q * 2 ^ k) field_one (suc k)
        (more (size (q * 2 ^ k)) k (size_exact (53 + k) (q * 2 ^ k) (le_of_eq (sym w))
        (lt_of_le_of_lt (le_of_eq w) (pow-lt (le_refl (suc (53 + k))))))) i
        ∙ (let j = t in omega arith)

-- ---- `units`, within the format's range and beyond it

units_in : (s : Bool) (q k : ℕ) → q * 2 ^ k < 2 ^ 2098 → units binary64 s q k ≡ odd 54 s q k 1074
unfolding units
units_in s q k h = rw (lt-ltb (q * 2 ^ k) (2 ^ 2098) h)

pub units_out : (s : Bool) (q k : ℕ) → 2 ^ 2098 ≤ q * 2 ^ k → units binary64 s q k ≡ inf s
unfolding units
units_out s q k h = rw (le-ltb (q * 2 ^ k) (2 ^ 2098) h)

read_inf : (s : Bool) → of_bits binary64 (sign_bit s + 0x7ff0_0000_0000_0000) ≡ inf s
unfolding of_bits
read_inf true = refl
read_inf false = refl

in_range_lem : (q k : ℕ) → q ≤ 0x20_0000_0000_0000 → (k ≡ 0) ⊎ (field_one ≤ q) → k * field_one + q < 0x7ff0_0000_0000_0000 → q * 2 ^ k < 2 ^ 2098
in_range_lem q k le b h = go (eq-or-lt_of_le le) b
  where
    go : (q ≡ 0x20_0000_0000_0000) ⊎ (q < 0x20_0000_0000_0000) → (k ≡ 0) ⊎ (field_one ≤ q) → q * 2 ^ k < 2 ^ 2098
    go (inl e) c =
        let l : k < 2045 = omega arith in
        lt_of_le_of_lt (le_of_eq (ap (λ (z : ℕ). z * 2 ^ k) e ∙ sym (pow-add 2 53 k))) (pow-lt (room k l))
      where
        room : (k : ℕ) → k < 2045 → 53 + k < 2098
        room k h = omega arith
    go (inr l) (inl e) = lt_of_lt_of_le (mul-lt-mul_of_pos_right l (pow_pos k)) (le_trans (le_of_eq (sym (pow-add 2 53 k))) (pow_mono (room k e)))
      where
        room : (k : ℕ) → k ≡ 0 → 53 + k ≤ 2098
        room k h = omega arith
    go (inr l) (inr g) =
        let m : k ≤ 2045 = omega arith in
        lt_of_lt_of_le (mul-lt-mul_of_pos_right l (pow_pos k)) (le_trans (le_of_eq (sym (pow-add 2 53 k))) (pow_mono (room k m)))
      where
        room : (k : ℕ) → k ≤ 2045 → 53 + k ≤ 2098
        room k h = omega arith

out_of_range : (q k : ℕ) → q ≤ 0x20_0000_0000_0000 → (k ≡ 0) ⊎ (field_one ≤ q) → 0x7ff0_0000_0000_0000 ≤ k * field_one + q → 2 ^ 2098 ≤ q * 2 ^ k
out_of_range q k le b h = go (eq-or-lt_of_le le) b
  where
    go : (q ≡ 0x20_0000_0000_0000) ⊎ (q < 0x20_0000_0000_0000) → (k ≡ 0) ⊎ (field_one ≤ q) → 2 ^ 2098 ≤ q * 2 ^ k
    go (inl e) c =
        let l : 2045 ≤ k = omega arith in
        le_trans (pow_mono (room k l)) (le_of_eq (pow-add 2 53 k ∙ ap (λ (z : ℕ). z * 2 ^ k) (sym e)))
      where
        room : (k : ℕ) → 2045 ≤ k → 2098 ≤ 53 + k
        room k h = omega arith
    go (inr l) (inl e) = absurd (omega arith)
    go (inr l) (inr g) =
        let m : 2046 ≤ k = omega arith in
        le_trans (pow_mono (room k m)) (le_trans (le_of_eq (pow-add 2 52 k)) (mul-le-mul_right (2 ^ k) g))
      where
        room : (k : ℕ) → 2046 ≤ k → 2098 ≤ 52 + k
        room k h = omega arith

module _ (s : Bool) (q k : ℕ) (le : q ≤ 0x20_0000_0000_0000) (b : (k ≡ 0) ⊎ (field_one ≤ q)) where
  odd_bits : to_bits binary64 (odd 54 s q k 1074) ≡ sign_bit s + (k * field_one + q)
  odd_bits =
      bits_of_lem (odd 54 s q k 1074) s (q * 2 ^ k) (odd_sign 54 s q k 1074) ∙ add_assoc (sign_bit s) _ _
      ∙ ap (λ (z : ℕ). sign_bit s + z) (pattern q k le b)

  pub pattern_bits : q * 2 ^ k < 2 ^ 2098 → to_bits binary64 (units binary64 s q k) ≡ sign_bit s + (k * field_one + q)
  pattern_bits h = ap (to_bits binary64) (units_in s q k h) ∙ odd_bits

  pub pack_in : k * field_one + q < 0x7ff0_0000_0000_0000 → of_bits binary64 (sign_bit s + (k * field_one + q)) ≡ units binary64 s q k
  pack_in h =
      let r : q * 2 ^ k < 2 ^ 2098 = in_range_lem q k le b h in
      ap (of_bits binary64) (sym odd_bits)
      ∙ of_bits-to_bits binary64 (odd 54 s q k 1074) (odd-fits binary64 54 s q k (lt_of_le_of_lt le (lit< tt)) le r) ∙ sym (units_in s q k r)

  pub pack_out : 0x7ff0_0000_0000_0000 ≤ k * field_one + q → of_bits binary64 (sign_bit s + 0x7ff0_0000_0000_0000) ≡ units binary64 s q k
  pack_out h = read_inf s ∙ sym (units_out s q k (out_of_range q k le b h))

-- ---- what `round` keeps of w * 2 ^ r, by the place of its highest digit

-- the number of digits that are dropped, from the place L of the highest
gap_is : (N L : ℕ) → 2 ^ L ≤ N → N < 2 ^ suc L → gap binary64 N ≡ suc L - 1127
gap_is N L lo hi =
    let g = gap binary64 N in
    let a : g ≤ suc L - 1127 = gap_le binary64 N (suc L - 1127) (lt_of_lt_of_le hi (pow_mono (cover (suc L)))) in
    let b : L < 1127 + g = pow_lt_back L (1127 + g) (lt_of_le_of_lt lo (gap_lt binary64 N)) in
    le_antisymm a (under L g b)
  where
    cover : (z : ℕ) → z ≤ 1127 + (z - 1127)
    cover z = omega arith

    under : (L g : ℕ) → L < 1127 + g → suc L - 1127 ≤ g
    under L g h = omega arith

pub record Kept (s : Bool) (N k q : ℕ) : Type 0 where
  pub value : round binary64 s N (2 ^ 2148) ≡ units binary64 s q k
  pub most : q ≤ 0x20_0000_0000_0000
  pub least : (k ≡ 0) ⊎ (field_one ≤ q)

pub kept_at : (s : Bool) (N L : ℕ) → 2 ^ L ≤ N → N < 2 ^ suc L → Kept s N (suc L - 1127) (closest N (2 ^ (1074 + (suc L - 1127))))
kept_at s N L lo hi = record {
  value = round_at binary64 s N ∙ ap (λ (z : ℕ). units binary64 s (closest N (2 ^ (1074 + z))) z) (gap_is N L lo hi);
  most =
      closest_upper N 0x20_0000_0000_0000 (2 ^ (1074 + (suc L - 1127))) (pow_pos (1074 + (suc L - 1127)))
      (le_trans (le_of_lt hi) (le_trans (pow_mono (cover L)) (le_of_eq (pow-add 2 53 (1074 + (suc L - 1127))))));
  least = go (less? L 1127);
}
  where
    cover : (L : ℕ) → suc L ≤ 53 + (1074 + (suc L - 1127))
    cover L = omega arith

    reach : (L : ℕ) → 1127 ≤ L → 52 + (1074 + (suc L - 1127)) ≤ L
    reach L h = omega arith

    go : (L < 1127) ⊎ (1127 ≤ L) → (suc L - 1127 ≡ 0) ⊎ (field_one ≤ closest N (2 ^ (1074 + (suc L - 1127))))
    go (inl h) = inl (omega arith)
    go (inr h) =
        inr (closest_lower N field_one (2 ^ (1074 + (suc L - 1127))) (pow_pos (1074 + (suc L - 1127)))
        (le_trans (le_of_eq (sym (pow-add 2 52 (1074 + (suc L - 1127))))) (le_trans (pow_mono (reach L h)) lo)))

-- the highest digit of w * 2 ^ r
pub lead_lo : (w j r : ℕ) → 2 ^ j ≤ w → 2 ^ (j + r) ≤ w * 2 ^ r
lead_lo w j r h = le_trans (le_of_eq (pow-add 2 j r)) (mul-le-mul_right (2 ^ r) h)

pub lead_hi : (w j r : ℕ) → w < 2 ^ suc j → w * 2 ^ r < 2 ^ suc (j + r)
lead_hi w j r h = lt_of_lt_of_le (mul-lt-mul_of_pos_right h (pow_pos r)) (le_of_eq (sym (pow-add 2 (suc j) r) ∙ ap (λ (z : ℕ). 2 ^ z) (step j r)))
  where
    step : (j r : ℕ) → suc j + r ≡ suc (j + r)
    step j r = omega arith

-- zero, of either sign
pub round_zero : (s : Bool) → round binary64 s 0 (2 ^ 2148) ≡ units binary64 s 0 0
unfolding round
round_zero s = refl
