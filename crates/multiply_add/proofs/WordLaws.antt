-- Laws of numbers of two words. Assumes nothing.
use Rattle.std.proofs.Common.{◌≡◌, ℕ, ◌+◌, ◌-◌, ◌*◌, ◌/◌, ◌%◌, ◌^◌, ◌<◌, ◌≤◌, sym, refl, ap, ◌∙◌, inl, inr, le_trans, le_of_eq, lt_of_lt_of_le, lt_of_le_of_lt, mod-lt, mod-eq_of_lt, mul-le-mul_left, one-mul, div-add-mod', zero-mul, mul-one, div-le_self, div-mul-le_self, arith, pow_pos, pow_mono, pow-add, shl_lt}
use lib.Arith.{lt_of_le-ne}
use Rattle.rounding.specs.Jam.{jam_near}
use Rattle.multiply_add.specs.Steps.{base, wide, Holds, Jammed}

-- ---- cuts

one-le : (q k : ℕ) → q ≤ q * 2 ^ k
one-le q k = le_trans (le_of_eq (sym (mul-one q))) (mul-le-mul_left q (pow_pos k))

below_next : (x k : ℕ) → x < x / 2 ^ k * 2 ^ k + 2 ^ k
below_next x k = lt_of_le_of_lt (le_of_eq (sym (div-add-mod' x (2 ^ k)))) (grow (x / 2 ^ k * 2 ^ k) (x % 2 ^ k) (2 ^ k) (mod-lt x (pow_pos k)))
  where
    grow : (a b c : ℕ) → b < c → a + b < a + c
    grow a b c h = omega arith

back_is : (x k : ℕ) → x < base → x / 2 ^ k * 2 ^ k % base ≡ x / 2 ^ k * 2 ^ k
back_is x k h = mod-eq_of_lt (lt_of_le_of_lt (div-mul-le_self x (2 ^ k)) h)

pub shift_jam_whole : (x k : ℕ) → x < base → x / 2 ^ k * 2 ^ k % base ≡ x → Jammed x k (x / 2 ^ k)
shift_jam_whole x k h e = record { near = inl (sym e ∙ back_is x k h); small = div-le_self x (2 ^ k) }

strict : (x k : ℕ) → x < base → (x / 2 ^ k * 2 ^ k % base ≡ x → ⊥) → x / 2 ^ k * 2 ^ k < x
strict x k h n = lt_of_le-ne (div-mul-le_self x (2 ^ k)) (λ (e : x / 2 ^ k * 2 ^ k ≡ x). n (back_is x k h ∙ e))

next_le : (q m x : ℕ) → q ≤ m → m < x → q + (1 - q % 2) ≤ x
next_le q m x h k = omega arith

pub shift_jam_odd : (x k : ℕ) → x < base → (x / 2 ^ k * 2 ^ k % base ≡ x → ⊥) → Jammed x k (x / 2 ^ k + (1 - x / 2 ^ k % 2))
shift_jam_odd x k h n = record {
  near = jam_near x (x / 2 ^ k) (2 ^ k) (strict x k h n) (below_next x k);
  small = next_le (x / 2 ^ k) (x / 2 ^ k * 2 ^ k) x (one-le (x / 2 ^ k) k) (strict x k h n);
}

pub shift_jam_none : (x k : ℕ) → x ≡ 0 → Jammed x k 0
shift_jam_none x k e = record { near = inl (e ∙ sym (zero-mul (2 ^ k))); small = omega arith }

pub shift_jam_all : (x k : ℕ) → x < base → 64 ≤ k → (x ≡ 0 → ⊥) → Jammed x k 1
shift_jam_all x k h l n =
    let g : x < 2 ^ k = lt_of_lt_of_le h (pow_mono l) in
    let o : 1 * 2 ^ k ≡ 2 ^ k = one-mul (2 ^ k) in
    record { near = inr (refl, omega arith, omega arith); small = omega arith }

-- ---- shifts

-- words that hold m * 2 ^ d modulo 2 ^ 128 hold it all, where m has j digits and the higher word has room for k
pub shift_holds : (m n j d k hi lo : ℕ) → m ≡ n → n < 2 ^ j → j + d ≤ k + 64 → k ≤ 64
    → wide hi lo ≡ m * 2 ^ d % 340282366920938463463374607431768211456 → Holds (n * 2 ^ d) (2 ^ k) hi lo
shift_holds m n j d k hi lo e h l t v =
    let u : n * 2 ^ d < 2 ^ k * base = lt_of_lt_of_le (shl_lt j d h) (le_trans (pow_mono l) (le_of_eq (pow-add 2 k 64))) in
    let b : 2 ^ k ≤ base = pow_mono t in
    let w : wide hi lo ≡ n * 2 ^ d % 340282366920938463463374607431768211456 =
    v ∙ ap (λ (z : ℕ). z * 2 ^ d % 340282366920938463463374607431768211456) e in
    record { value = omega arith; small = omega arith }
