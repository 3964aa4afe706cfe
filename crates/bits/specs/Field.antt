-- Fields of bits in a list of bytes. Document 01: "Fields are packed bits, most significant first." Past the end of the list every bit is 0.
use Rattle.std.specs.Prelude.{ℕ, zero, suc, ◌+◌, ◌-◌, ◌*◌, ◌/◌, ◌%◌, ◌^◌, ◌≤◌, ◌<◌, ◌≡◌, refl, List, length, get_or, take}
use Rattle.std.proofs.Common.{sym, ap, ◌∙◌, add-suc, add-zero, pow-suc, mul_assoc, add_assoc, lt_of_lt_of_le, add-one, arith, get_or-take, pow_mono, shr-shr, shl_exact}
use Rattle.std.proofs.Math.Nat.{pow-zero, zero-div}
use Rattle.std.proofs.Math.ListN.{get_or-eq_default}
use Rattle.std.proofs.lemmas.Nat.{mod-pow-add}

-- bit i: the highest bit of a byte is its first
unfoldable pub bit_at : List ℕ → ℕ → ℕ
bit_at s i = get_or s (i / 8) 0 / 2 ^ (7 - i % 8) % 2

-- the number that the w bits from bit at stand for
unfoldable pub field_at : List ℕ → ℕ → ℕ → ℕ
field_at s at zero = 0
field_at s at (suc w) = field_at s at w * 2 + bit_at s (at + w)

-- what `field` promises of its result; that it is small lets later sums and casts close
pub record IsField (s : List ℕ) (at w r : ℕ) : Type 0 where
  pub is : r ≡ field_at s at w
  pub small : r < 2 ^ w

-- ---- a field of w bits is below 2 ^ w

bit-lt : (s : List ℕ) (i : ℕ) → bit_at s i < 2
unfolding bit_at
bit-lt s i = omega arith

pub field_lt : (s : List ℕ) (at w : ℕ) → field_at s at w < 2 ^ w
unfolding field_at
field_lt s at zero = rw (pow-zero 2) (omega arith)
field_lt s at (suc w) = rw (pow-suc 2 w) (omega (arith, field_lt s at w, bit-lt s (at + w)))

pub field_64 : (s : List ℕ) (at w : ℕ) → w ≤ 64 → field_at s at w < 2 ^ 64
field_64 s at w h = lt_of_lt_of_le (field_lt s at w) (pow_mono h)

-- ---- a field splits in two

pub field_split : (s : List ℕ) (at a b : ℕ) → field_at s at (a + b) ≡ field_at s at a * 2 ^ b + field_at s (at + a) b
unfolding field_at
field_split s at a zero = rw (add-zero, pow-zero) (omega arith)
field_split s at a (suc b) = rw (add-suc, pow-suc, field_split s at a b, ← add_assoc, ← mul_assoc) (omega arith)

-- nothing is lost where its parts are put together in 64 bits
pub field_join : (s : List ℕ) (at a n : ℕ) → a + n ≤ 64 → field_at s at a * 2 ^ n % 2 ^ 64 + field_at s (at + a) n ≡ field_at s at (a + n)
field_join s at a n h = ap (λ (x : ℕ). x + field_at s (at + a) n) (shl_exact a n 64 (field_lt s at a) h) ∙ sym (field_split s at a n)

-- ---- only the bytes that a field covers count

pub field_ext : (s t : List ℕ) (at w : ℕ) → ((k : ℕ) → at ≤ 8 * k + 7 → 8 * k < at + w → get_or s k 0 ≡ get_or t k 0)
    → field_at s at w ≡ field_at t at w
unfolding field_at bit_at
field_ext s t at zero h = refl
field_ext s t at (suc w) h =
    rw (field_ext s t at w (λ k l m. h k l (omega arith)), h ((at + w) / 8) (omega arith) (omega arith))

-- those of a list's first n bytes
pub field_take : (s : List ℕ) (n at w : ℕ) → at + w ≤ 8 * n → field_at (take n s) at w ≡ field_at s at w
field_take s n at w h = field_ext (take n s) s at w (λ k l m. get_or-take n s k 0 (omega arith))

-- past the end a field is 0
pub field_past : (s : List ℕ) (at w : ℕ) → 8 * length s ≤ at → field_at s at w ≡ 0
unfolding field_at bit_at
field_past s at zero h = refl
field_past s at (suc w) h =
    let e : get_or s ((at + w) / 8) 0 ≡ 0 = get_or-eq_default s 0 (omega arith) in
    let z : 0 / 2 ^ (7 - (at + w) % 8) ≡ 0 = zero-div (2 ^ (7 - (at + w) % 8)) in
    rw (field_past s at w h, e, z)

-- ---- within one byte a field is a quotient and a remainder of that byte

bits_step : (n p w : ℕ) → n / 2 ^ p % 2 ^ suc w ≡ n / 2 ^ (p + 1) % 2 ^ w * 2 + n / 2 ^ p % 2
bits_step n p w =
    ap (λ (x : ℕ). n / 2 ^ p % 2 ^ x) (sym (add-one w)) ∙ mod-pow-add (n / 2 ^ p) w 1
    ∙ ap (λ (x : ℕ). x % 2 ^ w * 2 + n / 2 ^ p % 2) (shr-shr n p 1)

pub field_byte : (s : List ℕ) (at w : ℕ) → at % 8 + w ≤ 8
    → field_at s at w ≡ get_or s (at / 8) 0 / 2 ^ (8 - at % 8 - w) % 2 ^ w
unfolding field_at bit_at
field_byte s at zero h = rw (pow-zero) (omega arith)
field_byte s at (suc w) h =
    let i : (at + w) / 8 ≡ at / 8 = omega arith in
    let j : 7 - (at + w) % 8 ≡ 8 - at % 8 - suc w = omega arith in
    let k : 8 - at % 8 - suc w + 1 ≡ 8 - at % 8 - w = omega arith in
    rw (field_byte s at w (omega arith), bits_step (get_or s (at / 8) 0) (8 - at % 8 - suc w) w, i, j, k)
