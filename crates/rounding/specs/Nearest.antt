-- A finite result of `round` is nearest: of all doubles none is nearer to the number that was rounded, and where another is as near, the result is
-- the one whose last digit is 0. It is finite below half way from the largest double to 2 ^ 1024. The number is ±N times 2 ^ -2148. Assumes nothing.
use Rattle.std.specs.Prelude.{◌≡◌, refl, ◌⊎◌, ℕ, suc, ◌+◌, ◌-◌, ◌*◌, ◌%◌, ◌^◌, ◌≤◌, ◌<◌, Bool, true, false, not, nat_abs, ◌-ℤ◌, Float}
use Rattle.std.proofs.Common.{sym, ap, ◌∙◌, subst, inl, inr, le_trans, le_of_eq, le_of_lt, le_antisymm, lt_of_lt_of_le, lt_of_le_of_lt, eq-or-lt_of_le, mul_comm, mul_assoc, suc-mul, mul-le-mul_right, mul-lt-mul_of_pos_right, eq-zero-or-pos, arith, lit<, lit≤, pow-add, pow_pos, pow_mono}
use Rattle.std.proofs.Math.Nat.{eq_of_mul-eq-mul_right}
use Rattle.std.proofs.Math.Pow.{pow-lt}
use Rattle.std.specs.Float.{nan, inf, fin, binary64}
use Rattle.std.specs.Float.Ieee.{units, round, to_bits}
use Rattle.std.specs.Float.Ieee.Exact.{HasValue, units_val}
use Rattle.std.specs.Float.Ieee.Nearest.{closest}
use Rattle.laws.specs.Bools.{less?}
use Rattle.fp.specs.Num.{finite}
use Rattle.fp.specs.Fields.{field_one}
use Rattle.rounding.specs.Closest.{up_one, closest_upper, closest_lower, distance, Close, close, close_least, close_even}
use Rattle.rounding.specs.Sums.{signs}
use Rattle.rounding.specs.Sticky.{gap, round_at, gap_lt, gap_le, pow_lt_back}
use Rattle.rounding.specs.Unpack.{value_unique}
use Rattle.rounding.specs.Pack.{sign_bit, pattern_bits, units_out}
use Rattle.rounding.specs.Signed.{signed, apart_like, apart_unlike, zero_signed}

-- ---- the sizes: what is kept of N, and any double beside it

-- the digits that are kept, and the weight of the last of them
abbrev kept_of : ℕ → ℕ
kept_of N = closest N (2 ^ (1074 + gap binary64 N))

abbrev last_of : ℕ → ℕ
last_of N = 2 ^ (1074 + gap binary64 N)

-- where digits are dropped, N has all the digits that a double keeps
full : (N k : ℕ) → gap binary64 N ≡ k → 0 < k → 2 ^ 52 * 2 ^ (1074 + k) ≤ N
full N k g h = le_trans (le_of_eq (sym (pow-add 2 52 (1074 + k)))) (go (less? N (2 ^ (52 + (1074 + k)))))
  where
    place : (k : ℕ) → 0 < k → 52 + (1074 + k) ≡ 1127 + (k - 1)
    place k h = omega arith

    no : (g k : ℕ) → g ≡ k → 0 < k → g ≤ k - 1 → ⊥
    no g k e h l = omega arith

    go : (N < 2 ^ (52 + (1074 + k))) ⊎ (2 ^ (52 + (1074 + k)) ≤ N) → 2 ^ (52 + (1074 + k)) ≤ N
    go (inl l) = absurd (no (gap binary64 N) k g h (gap_le binary64 N (k - 1) (subst (λ (z : ℕ). N < 2 ^ z) (place k h) l)))
    go (inr l) = l

-- a multiple of u; below all numbers of 53 digits whose last weighs u, where N is one of them
abbrev Multiple : ℕ → ℕ → Type 0
Multiple u D = (j : ℕ) × (D ≡ j * u)

abbrev Shorter : ℕ → ℕ → ℕ → Type 0
Shorter N u D = (D < 2 ^ 52 * u) × (2 ^ 52 * u ≤ N)

-- every double is the one or the other
beside : (N m g : ℕ) → m < 2 ^ 53 → Multiple (last_of N) (m * 2 ^ g * 2 ^ 1074) ⊎ Shorter N (last_of N) (m * 2 ^ g * 2 ^ 1074)
beside N m g small = go (less? g (gap binary64 N))
  where
    fill : (g k : ℕ) → k ≤ g → g + 1074 ≡ g - k + (1074 + k)
    fill g k h = omega arith

    room : (g k : ℕ) → g < k → 53 + g ≤ 52 + k
    room g k h = omega arith

    turn : (k : ℕ) → 52 + k + 1074 ≡ 52 + (1074 + k)
    turn k = omega arith

    some : (g k : ℕ) → g < k → 0 < k
    some g k h = omega arith

    whole : (k : ℕ) → k ≤ g → m * 2 ^ g * 2 ^ 1074 ≡ m * 2 ^ (g - k) * 2 ^ (1074 + k)
    whole k h =
        mul_assoc m (2 ^ g) (2 ^ 1074)
        ∙ ap (λ (z : ℕ). m * z) (sym (pow-add 2 g 1074) ∙ ap (λ (z : ℕ). 2 ^ z) (fill g k h) ∙ pow-add 2 (g - k) (1074 + k))
        ∙ sym (mul_assoc m (2 ^ (g - k)) (2 ^ (1074 + k)))

    short : (k : ℕ) → g < k → m * 2 ^ g * 2 ^ 1074 < 2 ^ 52 * 2 ^ (1074 + k)
    short k h =
        let l : m * 2 ^ g < 2 ^ (52 + k) =
        lt_of_lt_of_le (mul-lt-mul_of_pos_right small (pow_pos g)) (le_trans (le_of_eq (sym (pow-add 2 53 g))) (pow_mono (room g k h))) in
        lt_of_lt_of_le (mul-lt-mul_of_pos_right l (pow_pos 1074))
        (le_of_eq (sym (pow-add 2 (52 + k) 1074) ∙ ap (λ (z : ℕ). 2 ^ z) (turn k) ∙ pow-add 2 52 (1074 + k)))

    go : (g < gap binary64 N) ⊎ (gap binary64 N ≤ g) → Multiple (last_of N) (m * 2 ^ g * 2 ^ 1074) ⊎ Shorter N (last_of N) (m * 2 ^ g * 2 ^ 1074)
    go (inl h) = inr (short (gap binary64 N) h, full N (gap binary64 N) refl (some g (gap binary64 N) h))
    go (inr h) = inl (m * 2 ^ (g - gap binary64 N), whole (gap binary64 N) h)

kept_close : (N : ℕ) → Close N (last_of N) (kept_of N)
kept_close N = close N (last_of N) (pow_pos (1074 + gap binary64 N))

farther : (N D : ℕ) → Shorter N (last_of N) D → distance (kept_of N * last_of N) N < distance D N
farther N D h = go (kept_of N * last_of N) (2 ^ 52 * last_of N) D N (close_least N (last_of N) (kept_of N) (2 ^ 52) (kept_close N)) h.0 h.1
  where
    go : (Q F D N : ℕ) → distance Q N ≤ distance F N → D < F → F ≤ N → distance Q N < distance D N
    go Q F D N h l k = omega arith

kept_least : (N m g : ℕ) → m < 2 ^ 53 → distance (kept_of N * last_of N) N ≤ distance (m * 2 ^ g * 2 ^ 1074) N
kept_least N m g small = go (beside N m g small)
  where
    go : Multiple (last_of N) (m * 2 ^ g * 2 ^ 1074) ⊎ Shorter N (last_of N) (m * 2 ^ g * 2 ^ 1074)
        → distance (kept_of N * last_of N) N ≤ distance (m * 2 ^ g * 2 ^ 1074) N
    go (inl h) =
        le_trans (close_least N (last_of N) (kept_of N) h.0 (kept_close N)) (le_of_eq (ap (λ (z : ℕ). distance z N) (sym h.1)))
    go (inr h) = le_of_lt (farther N (m * 2 ^ g * 2 ^ 1074) h)

kept_even : (N m g : ℕ) → m < 2 ^ 53 → distance (kept_of N * last_of N) N ≡ distance (m * 2 ^ g * 2 ^ 1074) N
    → (kept_of N * last_of N ≡ m * 2 ^ g * 2 ^ 1074 → ⊥) → kept_of N % 2 ≡ 0
kept_even N m g small e n = go (beside N m g small)
  where
    no : (a b : ℕ) → a < b → a ≡ b → ⊥
    no a b h k = omega arith

    go : Multiple (last_of N) (m * 2 ^ g * 2 ^ 1074) ⊎ Shorter N (last_of N) (m * 2 ^ g * 2 ^ 1074) → kept_of N % 2 ≡ 0
    go (inl h) =
        close_even N (last_of N) (kept_of N) h.0 (kept_close N) (e ∙ ap (λ (z : ℕ). distance z N) h.1)
        (λ (q : kept_of N ≡ h.0). n (ap (λ (z : ℕ). z * last_of N) q ∙ sym h.1))
    go (inr h) = absurd (no (distance (kept_of N * last_of N) N) (distance (m * 2 ^ g * 2 ^ 1074) N) (farther N (m * 2 ^ g * 2 ^ 1074) h) e)

-- zero is a double too
zero_least : (N : ℕ) → distance (kept_of N * last_of N) N ≤ N
zero_least N = le_trans (kept_least N 0 0 (lit< tt)) (le_of_eq (from_zero N))
  where
    from_zero : (N : ℕ) → distance 0 N ≡ N
    from_zero N = omega arith

-- ---- the result

-- a finite result ±r is what is kept
record Result (s : Bool) (N : ℕ) (p : Bool) (r : ℕ) : Type 0 where
  sign : s ≡ p
  magnitude : r * 2 ^ 1074 ≡ kept_of N * last_of N
  range : kept_of N * 2 ^ gap binary64 N < 2 ^ 2098

result : (s : Bool) (N : ℕ) (p : Bool) (r : ℕ) → HasValue (round binary64 s N (2 ^ 2148)) p r (2 ^ 1074) → Result s N p r
result s N p r v = go (less? (kept_of N * 2 ^ gap binary64 N) (2 ^ 2098)) (subst (λ (x : Float). HasValue x p r (2 ^ 1074)) (round_at binary64 s N) v)
  where
    go : (kept_of N * 2 ^ gap binary64 N < 2 ^ 2098) ⊎ (2 ^ 2098 ≤ kept_of N * 2 ^ gap binary64 N)
        → HasValue (units binary64 s (kept_of N) (gap binary64 N)) p r (2 ^ 1074) → Result s N p r
    go (inl h) u =
        let k = gap binary64 N in
        let e = value_unique (units binary64 s (kept_of N) k) s p (kept_of N * 2 ^ k) r (2 ^ 1074) (units_val binary64 s (kept_of N) k h) u in
        record {
          sign = e.0;
          magnitude =
              ap (λ (z : ℕ). z * 2 ^ 1074) (sym e.1) ∙ mul_assoc (kept_of N) (2 ^ k) (2 ^ 1074)
              ∙ ap (λ (z : ℕ). kept_of N * z) (mul_comm (2 ^ k) (2 ^ 1074) ∙ sym (pow-add 2 1074 k));
          range = h;
        }
    go (inr h) u = absurd (subst (λ (x : Float). HasValue x p r (2 ^ 1074)) (units_out s (kept_of N) (gap binary64 N) h) u)

-- its last bit is that of the digits kept
kept_most : (N : ℕ) → kept_of N ≤ 0x20_0000_0000_0000
kept_most N =
    let k = gap binary64 N in
    closest_upper N 0x20_0000_0000_0000 (2 ^ (1074 + k)) (pow_pos (1074 + k))
    (le_trans (le_of_lt (gap_lt binary64 N)) (le_of_eq (ap (λ (z : ℕ). 2 ^ z) (turn k) ∙ pow-add 2 53 (1074 + k))))
  where
    turn : (k : ℕ) → 1127 + k ≡ 53 + (1074 + k)
    turn k = omega arith

kept_lead : (N : ℕ) → (gap binary64 N ≡ 0) ⊎ (field_one ≤ kept_of N)
kept_lead N = go (eq-zero-or-pos (gap binary64 N))
  where
    go : (gap binary64 N ≡ 0) ⊎ (0 < gap binary64 N) → (gap binary64 N ≡ 0) ⊎ (field_one ≤ kept_of N)
    go (inl e) = inl e
    go (inr h) = inr (closest_lower N field_one (last_of N) (pow_pos (1074 + gap binary64 N)) (full N (gap binary64 N) refl h))

last_bit : (s : Bool) (N : ℕ) → kept_of N * 2 ^ gap binary64 N < 2 ^ 2098 → kept_of N % 2 ≡ 0 → to_bits binary64 (round binary64 s N (2 ^ 2148)) % 2 ≡ 0
last_bit s N h e =
    ap (λ (x : Float). to_bits binary64 x % 2) (round_at binary64 s N)
    ∙ ap (λ (z : ℕ). z % 2) (pattern_bits s (kept_of N) (gap binary64 N) (kept_most N) (kept_lead N) h)
    ∙ even s (gap binary64 N) (kept_of N) e
  where
    even : (s : Bool) (k q : ℕ) → q % 2 ≡ 0 → (sign_bit s + (k * field_one + q)) % 2 ≡ 0
    even true k q e = omega arith
    even false k q e = omega arith

-- ---- where the result is infinite

-- half way from the largest double to 2 ^ 1024: 2 ^ 1024 - 2 ^ 970, in units of 2 ^ -2148
abbrev pub limit : ℕ
limit = 18014398509481983 * 2 ^ 3118

kept_under : (N : ℕ) → N < limit → kept_of N * 2 ^ gap binary64 N < 2 ^ 2098
kept_under N h = go (less? (gap binary64 N) 2045)
  where
    room : (k : ℕ) → k < 2045 → 53 + k < 2098
    room k l = omega arith

    over : (Q N v u : ℕ) → u ≡ 2 * v → Q ≡ 9007199254740992 * u → 2 * distance Q N ≤ u → N < 18014398509481983 * v → ⊥
    over Q N v u a b c d = omega arith

    by : gap binary64 N ≡ 2045 → (kept_of N ≡ 0x20_0000_0000_0000) ⊎ (kept_of N < 0x20_0000_0000_0000) → kept_of N * 2 ^ gap binary64 N < 2 ^ 2098
    by e (inl q) =
        absurd
        (over (kept_of N * last_of N) N (2 ^ 3118) (last_of N) (ap (λ (z : ℕ). 2 ^ (1074 + z)) e) (ap (λ (z : ℕ). z * last_of N) q)
        (kept_close N).half h)
    by e (inr q) =
        lt_of_lt_of_le (mul-lt-mul_of_pos_right q (pow_pos (gap binary64 N)))
        (le_of_eq (sym (pow-add 2 53 (gap binary64 N)) ∙ ap (λ (z : ℕ). 2 ^ (53 + z)) e))

    go : (gap binary64 N < 2045) ⊎ (2045 ≤ gap binary64 N) → kept_of N * 2 ^ gap binary64 N < 2 ^ 2098
    go (inl l) =
        lt_of_le_of_lt (mul-le-mul_right (2 ^ gap binary64 N) (kept_most N))
        (lt_of_le_of_lt (le_of_eq (sym (pow-add 2 53 (gap binary64 N)))) (pow-lt (room (gap binary64 N) l)))
    go (inr l) = by (le_antisymm (gap_le binary64 N 2045 (lt_of_lt_of_le h (lit≤ tt))) l) (eq-or-lt_of_le (kept_most N))

from_limit : (N v u : ℕ) → u ≡ 2 * v → 18014398509481983 * v ≤ N → 9007199254740992 * u ≤ N + v
from_limit N v u a h = omega arith

two_less : (Q N v u F : ℕ) → 0 < v → u ≡ 2 * v → Q + u + u ≤ F → 2 * distance Q N ≤ u → F ≤ N + v → ⊥
two_less Q N v u F p a c d e = omega arith

one_less : (Q N v u F : ℕ) → u ≡ 2 * v → Q + u ≤ F → 2 * distance Q N ≤ u → F ≤ N + v → 2 * distance Q N ≡ u
one_less Q N v u F a c d e = omega arith

kept_over : (N : ℕ) → limit ≤ N → 2 ^ 2098 ≤ kept_of N * 2 ^ gap binary64 N
kept_over N h = go (less? 2045 (gap binary64 N))
  where
    least : (k : ℕ) → 3171 < 1127 + k → 2045 ≤ k
    least k l = omega arith

    room : (k : ℕ) → 2045 < k → 2098 ≤ 52 + k
    room k l = omega arith

    none : (k : ℕ) → k ≡ 0 → 2045 < k → ⊥
    none k e l = omega arith

    odd_one : (q : ℕ) → q < 9007199254740992 → 9007199254740992 ≤ suc q → q % 2 ≡ 0 → ⊥
    odd_one q a b c = omega arith

    last : gap binary64 N ≡ 2045 → last_of N ≡ 2 * 2 ^ 3118
    last e = ap (λ (z : ℕ). 2 ^ (1074 + z)) e

    short : gap binary64 N ≡ 2045 → kept_of N < 9007199254740992 → (suc (kept_of N) < 9007199254740992) ⊎ (9007199254740992 ≤ suc (kept_of N)) → ⊥
    short e l (inl g) =
        two_less (kept_of N * last_of N) N (2 ^ 3118) (last_of N) (9007199254740992 * last_of N) (pow_pos 3118) (last e)
        (le_trans (le_of_eq (ap (λ (z : ℕ). z + last_of N) (sym (suc-mul (kept_of N) (last_of N)))))
        (up_one (suc (kept_of N)) 9007199254740992 (last_of N) g))
        (kept_close N).half (from_limit N (2 ^ 3118) (last_of N) (last e) h)
    short e l (inr g) =
        odd_one (kept_of N) l g
        ((kept_close N).tie
        (one_less (kept_of N * last_of N) N (2 ^ 3118) (last_of N) (9007199254740992 * last_of N) (last e)
        (up_one (kept_of N) 9007199254740992 (last_of N) l) (kept_close N).half (from_limit N (2 ^ 3118) (last_of N) (last e) h)))

    by : gap binary64 N ≡ 2045 → (kept_of N < 9007199254740992) ⊎ (9007199254740992 ≤ kept_of N) → 2 ^ 2098 ≤ kept_of N * 2 ^ gap binary64 N
    by e (inl l) = absurd (short e l (less? (suc (kept_of N)) 9007199254740992))
    by e (inr l) =
        le_trans (le_of_eq (ap (λ (z : ℕ). 2 ^ (53 + z)) (sym e) ∙ pow-add 2 53 (gap binary64 N))) (mul-le-mul_right (2 ^ gap binary64 N) l)

    high : 2045 < gap binary64 N → (gap binary64 N ≡ 0) ⊎ (field_one ≤ kept_of N) → 2 ^ 2098 ≤ kept_of N * 2 ^ gap binary64 N
    high l (inl e) = absurd (none (gap binary64 N) e l)
    high l (inr g) =
        le_trans (pow_mono (room (gap binary64 N) l)) (le_trans (le_of_eq (pow-add 2 52 (gap binary64 N))) (mul-le-mul_right (2 ^ gap binary64 N) g))

    go : (2045 < gap binary64 N) ⊎ (gap binary64 N ≤ 2045) → 2 ^ 2098 ≤ kept_of N * 2 ^ gap binary64 N
    go (inl l) = high l (kept_lead N)
    go (inr l) =
        by (le_antisymm l (least (gap binary64 N)
        (pow_lt_back 3171 (1127 + gap binary64 N) (lt_of_le_of_lt (le_trans (lit≤ tt) h) (gap_lt binary64 N)))))
        (less? (kept_of N) 9007199254740992)

has_finite : (x : Float) (s : Bool) (a c : ℕ) → HasValue x s a c → finite x ≡ true
has_finite nan s a c h = absurd h
has_finite (inf t) s a c h = absurd h
has_finite (fin t m e) s a c h = refl

pub round_finite : (s : Bool) (N : ℕ) → N < limit → finite (round binary64 s N (2 ^ 2148)) ≡ true
round_finite s N h =
    ap finite (round_at binary64 s N)
    ∙ has_finite (units binary64 s (kept_of N) (gap binary64 N)) s (kept_of N * 2 ^ gap binary64 N) (2 ^ 1074)
    (units_val binary64 s (kept_of N) (gap binary64 N) (kept_under N h))

pub round_infinite : (s : Bool) (N : ℕ) → limit ≤ N → round binary64 s N (2 ^ 2148) ≡ inf s
round_infinite s N h = round_at binary64 s N ∙ units_out s (kept_of N) (gap binary64 N) (kept_over N h)

-- ---- with signs: ±r is the result, and ±(m * 2 ^ g) any double, both in least doubles

module _ (s : Bool) (N : ℕ) (p : Bool) (r : ℕ) (has : HasValue (round binary64 s N (2 ^ 2148)) p r (2 ^ 1074)) (v : Bool) (m g : ℕ)
    (small : m < 2 ^ 53) where
  of_result : nat_abs (signed p (r * 2 ^ 1074) -ℤ signed s N) ≡ distance (kept_of N * last_of N) N
  of_result =
      ap (λ (x : Bool). nat_abs (signed p (r * 2 ^ 1074) -ℤ signed x N)) (result s N p r has).sign ∙ apart_like p (r * 2 ^ 1074) N
      ∙ ap (λ (z : ℕ). distance z N) (result s N p r has).magnitude

  of_like : v ≡ p → nat_abs (signed v (m * 2 ^ g * 2 ^ 1074) -ℤ signed s N) ≡ distance (m * 2 ^ g * 2 ^ 1074) N
  of_like e =
      ap (λ (x : Bool). nat_abs (signed v (m * 2 ^ g * 2 ^ 1074) -ℤ signed x N)) ((result s N p r has).sign ∙ sym e)
      ∙ apart_like v (m * 2 ^ g * 2 ^ 1074) N

  of_unlike : v ≡ not p → nat_abs (signed v (m * 2 ^ g * 2 ^ 1074) -ℤ signed s N) ≡ m * 2 ^ g * 2 ^ 1074 + N
  of_unlike e =
      ap (λ (x : Bool). nat_abs (signed x (m * 2 ^ g * 2 ^ 1074) -ℤ signed s N)) e
      ∙ ap (λ (x : Bool). nat_abs (signed (not p) (m * 2 ^ g * 2 ^ 1074) -ℤ signed x N)) (result s N p r has).sign
      ∙ apart_unlike p (m * 2 ^ g * 2 ^ 1074) N

  -- no double is nearer
  pub round_nearest : nat_abs (signed p (r * 2 ^ 1074) -ℤ signed s N) ≤ nat_abs (signed v (m * 2 ^ g * 2 ^ 1074) -ℤ signed s N)
  round_nearest = le_trans (le_of_eq of_result) (by (signs p v))
    where
      more : (a b : ℕ) → a ≤ b + a
      more a b = omega arith

      by : (v ≡ p) ⊎ (v ≡ not p) → distance (kept_of N * last_of N) N ≤ nat_abs (signed v (m * 2 ^ g * 2 ^ 1074) -ℤ signed s N)
      by (inl e) = le_trans (kept_least N m g small) (le_of_eq (sym (of_like e)))
      by (inr e) = le_trans (zero_least N) (le_trans (more N (m * 2 ^ g * 2 ^ 1074)) (le_of_eq (sym (of_unlike e))))

  -- where another is as near, the result's last bit is 0
  pub round_even : nat_abs (signed p (r * 2 ^ 1074) -ℤ signed s N) ≡ nat_abs (signed v (m * 2 ^ g * 2 ^ 1074) -ℤ signed s N)
      → (signed p r ≡ signed v (m * 2 ^ g) → ⊥) → to_bits binary64 (round binary64 s N (2 ^ 2148)) % 2 ≡ 0
  round_even e n = last_bit s N (result s N p r has).range (by (signs p v))
    where
      off : distance (kept_of N * last_of N) N ≡ nat_abs (signed v (m * 2 ^ g * 2 ^ 1074) -ℤ signed s N)
      off = sym of_result ∙ e

      cancel : (a b : ℕ) → a * 2 ^ 1074 ≡ b * 2 ^ 1074 → a ≡ b
      cancel a b h = eq_of_mul-eq-mul_right (2 ^ 1074) (pow_pos 1074) a b h

      of_size : (a : ℕ) → kept_of N * last_of N ≡ a * 2 ^ 1074 → r ≡ a
      of_size a h = cancel r a ((result s N p r has).magnitude ∙ h)

      none : (a b c : ℕ) → c ≤ b → c ≡ a + b → (a ≡ 0) × (c ≡ b)
      none a b c h k = (omega arith, omega arith)

      from_zero : (N : ℕ) → N ≡ distance 0 N
      from_zero N = omega arith

      by : (v ≡ p) ⊎ (v ≡ not p) → kept_of N % 2 ≡ 0
      by (inl q) =
          kept_even N m g small (off ∙ of_like q)
          (λ (h : kept_of N * last_of N ≡ m * 2 ^ g * 2 ^ 1074). n
          (ap (signed p) (of_size (m * 2 ^ g) h) ∙ ap (λ (x : Bool). signed x (m * 2 ^ g)) (sym q)))
      by (inr q) =
          let z = none (m * 2 ^ g * 2 ^ 1074) N (distance (kept_of N * last_of N) N) (zero_least N) (off ∙ of_unlike q) in
          kept_even N 0 0 (lit< tt) (z.1 ∙ from_zero N)
          (λ (h : kept_of N * last_of N ≡ 0). n (ap (signed p) (of_size 0 h) ∙ zero_signed p v ∙ ap (signed v) (sym (cancel (m * 2 ^ g) 0 z.0))))
