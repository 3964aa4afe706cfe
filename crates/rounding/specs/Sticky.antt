-- A whole number N of units, cut at 2 ^ r and made odd where something was cut off, rounds as N does, if the format's own unit is at least four times
-- 2 ^ r: the odd last digit is the sticky one. The unit is 2 ^ -(2 * low), in which products of two values are whole. Assumes nothing.
use Rattle.std.specs.Prelude.{◌≡◌, ◌⊎◌, ℕ, suc, ◌+◌, ◌-◌, ◌*◌, ◌/◌, ◌%◌, ◌^◌, ◌≤◌, ◌<◌, Bool}
use Rattle.std.proofs.Common.{sym, ap, ◌∙◌, inl, inr, le_trans, le_of_eq, le_of_lt, le_antisymm, lt_of_lt_of_le, lt_of_le_of_lt, lt_of_not-le, not-le_of_lt, mul_assoc, mul_right_comm, add-mul, mul-pos, mul-le-mul_right, mul-lt-mul_of_pos_right, lt_of_mul-lt-mul_right, div-lt_iff_lt-mul, one-mul, arith, pow-add, pow_pos, pow_mono}
use Rattle.std.proofs.Math.Nat.{pow-succ'}
use Rattle.std.specs.Float.{Format}
use Rattle.std.specs.Float.Ieee.{prec, low, size, units, round}
use Rattle.std.specs.Float.Ieee.Digits.{size-lt, size-le}
use Rattle.std.specs.Float.Ieee.Fits.{round_is}
use Rattle.std.specs.Float.Ieee.Nearest.{closest, closest_same, div_same}
use Rattle.rounding.specs.Closest.{closest_near}

-- ---- `round` of a whole number of units: which digits it drops, and what it keeps

abbrev pub gap : Format → ℕ → ℕ
gap f N = size (N / 2 ^ low f) - prec f

pub round_at : (f : Format) (s : Bool) (N : ℕ) → round f s N (2 ^ (low f + low f)) ≡ units f s (closest N (2 ^ (low f + gap f N))) (gap f N)
round_at f s N =
    let l = low f in
    let D = 2 ^ (l + l) in
    let n = N * 2 ^ l in
    let e : n / D ≡ N / 2 ^ l =
    div_same n D N (2 ^ l) (pow_pos (l + l)) (pow_pos l) (mul_assoc N (2 ^ l) (2 ^ l) ∙ ap (λ (z : ℕ). N * z) (sym (pow-add 2 l l))) in
    let k = gap f N in
    round_is f s N D
    ∙ ap (λ (z : ℕ). units f s (closest n (D * 2 ^ z)) z) (ap (λ (z : ℕ). size z - prec f) e)
    ∙ ap (λ (z : ℕ). units f s z k)
    (closest_same n (D * 2 ^ k) N (2 ^ (l + k)) (mul-pos (pow_pos (l + l)) (pow_pos k)) (pow_pos (l + k))
    (mul_assoc N (2 ^ l) (2 ^ (l + k)) ∙ ap (λ (z : ℕ). N * z)
    (ap (λ (z : ℕ). 2 ^ l * z) (pow-add 2 l k) ∙ sym (mul_assoc (2 ^ l) (2 ^ l) (2 ^ k)) ∙ ap (λ (z : ℕ). z * 2 ^ k) (sym (pow-add 2 l l)))))

-- the gap by the powers of two above N
pub gap_lt : (f : Format) (N : ℕ) → N < 2 ^ (low f + prec f + gap f N)
gap_lt f N =
    let l = low f in
    let z = size (N / 2 ^ l) in
    lt_of_lt_of_le ((div-lt_iff_lt-mul (pow_pos l)).0 (size-lt (N / 2 ^ l)))
    (le_trans (le_of_eq (sym (pow-add 2 z l))) (pow_mono (cover z l (prec f))))
  where
    cover : (z l p : ℕ) → z + l ≤ l + p + (z - p)
    cover z l p = omega arith

pub gap_le : (f : Format) (N k : ℕ) → N < 2 ^ (low f + prec f + k) → gap f N ≤ k
gap_le f N k h =
    let l = low f in
    let p = prec f in
    fewer (size (N / 2 ^ l)) p k
    (size-le (N / 2 ^ l) (p + k)
    ((div-lt_iff_lt-mul (pow_pos l)).1 (lt_of_lt_of_le h (le_of_eq (ap (λ (z : ℕ). 2 ^ z) (turn l p k) ∙ pow-add 2 (p + k) l)))))
  where
    fewer : (z p k : ℕ) → z ≤ p + k → z - p ≤ k
    fewer z p k h = omega arith

    turn : (l p k : ℕ) → l + p + k ≡ p + k + l
    turn l p k = omega arith

-- ---- cut at u and made odd

abbrev pub Near : ℕ → ℕ → ℕ → Type 0
Near N u R = (N ≡ R * u) ⊎ ((R % 2 ≡ 1) × (R * u < N + u) × (N < R * u + u))

-- the format's unit is at least four times 2 ^ r: it always is where r is low, and it is where R has digits enough
abbrev pub Room : Format → ℕ → ℕ → Type 0
Room f r R = (r + 2 ≤ low f) ⊎ (2 ^ (prec f + 1) ≤ R)

pub pow_lt_back : (i j : ℕ) → 2 ^ i < 2 ^ j → i < j
pow_lt_back i j h = lt_of_not-le (λ (g : j ≤ i). not-le_of_lt h (pow_mono g))

module _ (f : Format) (N R r : ℕ) (o : R % 2 ≡ 1) (a : R * 2 ^ r < N + 2 ^ r) (b : N < R * 2 ^ r + 2 ^ r) where
  -- neither has a power of two above 2 ^ r between itself and the other
  up_pow : (e : ℕ) → r < e → R * 2 ^ r < 2 ^ e → N < 2 ^ e
  up_pow e h k =
      let d = e - suc r in
      let q : 2 ^ e ≡ 2 * 2 ^ d * 2 ^ r =
      ap (λ (z : ℕ). 2 ^ z) (split e r h) ∙ pow-add 2 (suc (e - suc r)) r ∙ ap (λ (z : ℕ). z * 2 ^ r) (pow-succ' 2 d) in
      let g : R < 2 * 2 ^ d = lt_of_mul-lt-mul_right (2 ^ r) (lt_of_lt_of_le k (le_of_eq q)) in
      lt_of_lt_of_le b (le_trans (le_of_eq (sym (add-mul R 1 (2 ^ r) ∙ ap (λ (z : ℕ). R * 2 ^ r + z) (one-mul (2 ^ r)))))
      (le_trans (mul-le-mul_right (2 ^ r) (grow R (2 ^ d) g)) (le_of_eq (sym q))))
    where
      split : (e r : ℕ) → r < e → e ≡ suc (e - suc r) + r
      split e r h = omega arith

      grow : (R d : ℕ) → R < 2 * d → R + 1 ≤ 2 * d
      grow R d h = omega arith

  down_pow : (e : ℕ) → r < e → N < 2 ^ e → R * 2 ^ r < 2 ^ e
  down_pow e h k =
      let d = e - suc r in
      let q : 2 ^ e ≡ 2 * 2 ^ d * 2 ^ r =
      ap (λ (z : ℕ). 2 ^ z) (split e r h) ∙ pow-add 2 (suc (e - suc r)) r ∙ ap (λ (z : ℕ). z * 2 ^ r) (pow-succ' 2 d) in
      let t : R * 2 ^ r < (2 * 2 ^ d + 1) * 2 ^ r =
      lt_of_lt_of_le (lt_of_lt_of_le a (more N (2 ^ e) (2 ^ r) k))
      (le_of_eq (ap (λ (z : ℕ). z + 2 ^ r) q ∙ sym (add-mul (2 * 2 ^ d) 1 (2 ^ r) ∙ ap (λ (z : ℕ). 2 * 2 ^ d * 2 ^ r + z) (one-mul (2 ^ r))))) in
      let g : R < 2 * 2 ^ d + 1 = lt_of_mul-lt-mul_right (2 ^ r) t in
      lt_of_lt_of_le (mul-lt-mul_of_pos_right (shrink R (2 ^ d) o g) (pow_pos r)) (le_of_eq (sym q))
    where
      split : (e r : ℕ) → r < e → e ≡ suc (e - suc r) + r
      split e r h = omega arith

      more : (N e u : ℕ) → N < e → N + u ≤ e + u
      more N e u h = omega arith

      shrink : (R d : ℕ) → R % 2 ≡ 1 → R < 2 * d + 1 → R < 2 * d
      shrink R d o h = omega arith

  -- r lies below the place of the last digit that is kept, by two
  far : Room f r R → (k : ℕ) → R * 2 ^ r < 2 ^ (low f + prec f + k) → r + 2 ≤ low f + k
  far (inl h) k g = omega arith
  far (inr h) k g =
      let t : prec f + 1 + r < low f + prec f + k =
      pow_lt_back (prec f + 1 + r) (low f + prec f + k)
      (lt_of_le_of_lt (le_trans (le_of_eq (pow-add 2 (prec f + 1) r)) (mul-le-mul_right (2 ^ r) h)) g) in
      fin_far (prec f) (low f) t
    where
      fin_far : (p l : ℕ) → p + 1 + r < l + p + k → r + 2 ≤ l + k
      fin_far p l t = omega arith

  near_far : Room f r R → (k : ℕ) → N < 2 ^ (low f + prec f + k) → r < low f + prec f + k
  near_far (inl h) k g = omega arith
  near_far (inr h) k g =
      let p = prec f in
      let x : 2 ^ (p + r) * 2 ≤ R * 2 ^ r =
      le_trans (le_of_eq (ap (λ (z : ℕ). z * 2) (pow-add 2 p r) ∙ mul_right_comm (2 ^ p) (2 ^ r) 2 ∙ ap (λ (z : ℕ). z * 2 ^ r) (sym (pow-add 2 p 1))))
      (mul-le-mul_right (2 ^ r) h) in
      let y : 2 ^ r ≤ 2 ^ (p + r) = pow_mono (reach p r) in
      let z : 2 ^ (p + r) < N = omega arith in
      let t : p + r < low f + p + k = pow_lt_back (p + r) (low f + p + k) (lt_of_lt_of_le z (le_of_lt g)) in
      omega arith
    where
      reach : (p r : ℕ) → r ≤ p + r
      reach p r = omega arith

  near_odd : Room f r R → (s : Bool) → round f s N (2 ^ (low f + low f)) ≡ round f s (R * 2 ^ r) (2 ^ (low f + low f))
  near_odd room s =
      let l = low f in
      let p = prec f in
      let M = R * 2 ^ r in
      let g = gap f N in
      let j = gap f M in
      let x : j ≤ g = gap_le f M g (down_pow (l + p + g) (near_far room g (gap_lt f N)) (gap_lt f N)) in
      let t : r + 2 ≤ l + j = far room j (gap_lt f M) in
      let y : g ≤ j = gap_le f N j (up_pow (l + p + j) (omega arith) (gap_lt f M)) in
      let e : g ≡ j = le_antisymm y x in
      let h = 2 ^ (l + j - (r + 2)) in
      let q : 4 * h * 2 ^ r ≡ 2 ^ (l + j) =
      ap (λ (z : ℕ). z * 2 ^ r) (sym (pow-add 2 2 (l + j - (r + 2)))) ∙ sym (pow-add 2 (2 + (l + j - (r + 2))) r)
      ∙ ap (λ (z : ℕ). 2 ^ z) (fill (l + j) r t) in
      round_at f s N
      ∙ ap (λ (z : ℕ). units f s (closest N (2 ^ (l + z))) z) e
      ∙ ap (λ (z : ℕ). units f s z j) (ap (λ (z : ℕ). closest N z) (sym q) ∙ closest_near N R h (2 ^ r) (pow_pos r) (pow_pos (l + j - (r + 2))) o a b
      ∙ ap (λ (z : ℕ). closest M z) q)
      ∙ sym (round_at f s M)
    where
      fill : (m r : ℕ) → r + 2 ≤ m → 2 + (m - (r + 2)) + r ≡ m
      fill m r h = omega arith

pub near_round : (f : Format) (s : Bool) (N R r : ℕ) → Near N (2 ^ r) R → Room f r R
    → round f s N (2 ^ (low f + low f)) ≡ round f s (R * 2 ^ r) (2 ^ (low f + low f))
near_round f s N R r (inl e) room = ap (λ (z : ℕ). round f s z (2 ^ (low f + low f))) e
near_round f s N R r (inr n) room = near_odd f N R r n.0 n.1 n.2 room s
