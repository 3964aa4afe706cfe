-- Laws of 64 bits read at once, across nine bytes. Assumes nothing.
use Prim.Native.Nat.{ℕ, ◌+◌, ◌-◌, ◌*◌, ◌/◌, ◌%◌, ◌^◌, ◌≤◌, ◌<◌}
use mathlib.Core.Path.{◌≡◌, sym, ap, ◌∙◌, subst}
use mathlib.Core.List.{List, [], ◌∷◌}
use Rattle.std.specs.Int.{w64, from_be_bytes}
use native.Mathlib.Omega.{arith}
use lib.ListN.{get_or, length, get_or-eq_default}
use native.Mathlib.Nat.{add-mul, mul_assoc, zero-div}
use lib.Pow.{shl_lt, shl-shr, shr-shr, shr_mod, high, low, pow-add}
use Rattle.bits.specs.Field.{field_at, field_lt, field_split, field_byte, field_join, field_past}

-- a whole byte
whole_byte : (s : List ℕ) (k : ℕ) → get_or s k 0 < 256 → field_at s (8 * k) 8 ≡ get_or s k 0
whole_byte s k h =
    let d : 8 * k / 8 ≡ k = omega arith in
    let m : 8 * k % 8 ≡ 0 = omega arith in
    let b : get_or s k 0 / 1 % 256 ≡ get_or s k 0 = omega arith in
    field_byte s (8 * k) 8 (omega arith) ∙ rw (d, m) b

-- a field of whole bytes, and the byte after it
next_byte : (s : List ℕ) (k i : ℕ) → get_or s (k + i) 0 < 256 → field_at s (8 * k) (8 * (i + 1)) ≡ field_at s (8 * k) (8 * i) * 256 + get_or s (k + i) 0
next_byte s k i b =
    let e : 8 * (i + 1) ≡ 8 * i + 8 = omega arith in
    let f : 8 * (k + i) ≡ 8 * k + 8 * i = omega arith in
    ap (field_at s (8 * k)) e ∙ field_split s (8 * k) (8 * i) 8
    ∙ ap (λ (x : ℕ). field_at s (8 * k) (8 * i) * 256 + x) (ap (λ (x : ℕ). field_at s x 8) (sym f) ∙ whole_byte s (k + i) b)

-- one byte more
pub word_grows : (s : List ℕ) (k i : ℕ) → i < 8 → get_or s (k + i) 0 < 256
    → field_at s (8 * k) (8 * i) * 2 ^ 8 % 2 ^ 64 + get_or s (k + i) 0 ≡ field_at s (8 * k) (8 * (i + 1))
word_grows s k i h b =
    let e : 8 * (k + i) ≡ 8 * k + 8 * i = omega arith in
    let f : 8 * i + 8 ≡ 8 * (i + 1) = omega arith in
    ap (λ (x : ℕ). field_at s (8 * k) (8 * i) * 2 ^ 8 % 2 ^ 64 + x) (sym (whole_byte s (k + i) b) ∙ ap (λ (x : ℕ). field_at s x 8) e)
    ∙ field_join s (8 * k) (8 * i) 8 (omega arith) ∙ ap (field_at s (8 * k)) f

-- eight bytes, the first highest
pub eight_bytes : (s : List ℕ) (k : ℕ) → ((j : ℕ) → get_or s j 0 < 256)
    → from_be_bytes w64 (get_or s k 0 ∷ get_or s (k + 1) 0 ∷ get_or s (k + 2) 0 ∷ get_or s (k + 3) 0 ∷ get_or s (k + 4) 0 ∷ get_or s (k + 5) 0 ∷ get_or s (k + 6) 0 ∷ get_or s (k + 7) 0 ∷ [])
    ≡ field_at s (8 * k) 64
eight_bytes s k h =
    let a : field_at s (8 * k) 8 ≡ get_or s k 0 = whole_byte s k (h k) in
    let b : field_at s (8 * k) 16 ≡ field_at s (8 * k) 8 * 256 + get_or s (k + 1) 0 = next_byte s k 1 (h (k + 1)) in
    let c : field_at s (8 * k) 24 ≡ field_at s (8 * k) 16 * 256 + get_or s (k + 2) 0 = next_byte s k 2 (h (k + 2)) in
    let d : field_at s (8 * k) 32 ≡ field_at s (8 * k) 24 * 256 + get_or s (k + 3) 0 = next_byte s k 3 (h (k + 3)) in
    let e : field_at s (8 * k) 40 ≡ field_at s (8 * k) 32 * 256 + get_or s (k + 4) 0 = next_byte s k 4 (h (k + 4)) in
    let f : field_at s (8 * k) 48 ≡ field_at s (8 * k) 40 * 256 + get_or s (k + 5) 0 = next_byte s k 5 (h (k + 5)) in
    let g : field_at s (8 * k) 56 ≡ field_at s (8 * k) 48 * 256 + get_or s (k + 6) 0 = next_byte s k 6 (h (k + 6)) in
    let i : field_at s (8 * k) 64 ≡ field_at s (8 * k) 56 * 256 + get_or s (k + 7) 0 = next_byte s k 7 (h (k + 7)) in
    omega arith

-- ---- where not all of the bytes are there

-- those up to the end, then zeros
pub word_ends : (s : List ℕ) (k i : ℕ) → i ≤ 8 → k + i ≡ length s → field_at s (8 * k) (8 * i) * 2 ^ (8 * (k + 8 - length s)) % 2 ^ 64 ≡ field_at s (8 * k) 64
word_ends s k i h e =
    let m = 8 * (k + 8 - length s) in
    let z : field_at s (8 * k + 8 * i) m ≡ 0 = field_past s (8 * k + 8 * i) m (omega (arith, e)) in
    let f : 8 * i + m ≡ 64 = omega (arith, e, h) in
    let g : field_at s (8 * k) (8 * i) * 2 ^ m % 2 ^ 64 ≡ field_at s (8 * k) (8 * i) * 2 ^ m % 2 ^ 64 + field_at s (8 * k + 8 * i) m = omega (arith, z) in
    g ∙ field_join s (8 * k) (8 * i) m (omega (arith, f)) ∙ ap (field_at s (8 * k)) f

-- ---- parts of a word

-- the first w of 64 bits
pub first_bits : (s : List ℕ) (p w : ℕ) → w ≤ 64 → field_at s p 64 / 2 ^ (64 - w) ≡ field_at s p w
first_bits s p w h =
    let e : 64 ≡ w + (64 - w) = omega arith in
    ap (λ (x : ℕ). field_at s p x / 2 ^ (64 - w)) e ∙ ap (λ (x : ℕ). x / 2 ^ (64 - w)) (field_split s p w (64 - w))
    ∙ high (field_at s p w) (64 - w) (field_lt s (p + w) (64 - w))

-- the last bits of the word, moved up
last_bits : (s : List ℕ) (p o : ℕ) → o ≤ 64 → field_at s p 64 * 2 ^ o % 2 ^ 64 ≡ field_at s (p + o) (64 - o) * 2 ^ o
last_bits s p o h =
    let a = field_at s p o in
    let b = field_at s (p + o) (64 - o) in
    let e : 64 ≡ o + (64 - o) = omega arith in
    let f : 64 - o + o ≡ 64 = omega arith in
    let q : 2 ^ (64 - o) * 2 ^ o ≡ 2 ^ 64 = sym (pow-add 2 (64 - o) o) ∙ ap (λ (x : ℕ). 2 ^ x) f in
    let fits : b * 2 ^ o < 2 ^ 64 = subst (λ (x : ℕ). b * 2 ^ o < 2 ^ x) f (shl_lt (64 - o) o (field_lt s (p + o) (64 - o))) in
    ap (λ (x : ℕ). x * 2 ^ o % 2 ^ 64) (ap (field_at s p) e ∙ field_split s p o (64 - o))
    ∙ ap (λ (x : ℕ). x % 2 ^ 64) (add-mul (a * 2 ^ (64 - o)) b (2 ^ o) ∙ ap (λ (x : ℕ). x + b * 2 ^ o) (mul_assoc a (2 ^ (64 - o)) (2 ^ o) ∙ ap (λ (x : ℕ). a * x) q))
    ∙ low a 64 fits

-- the w bits from bit p in the eight bytes that start with its own
pub word_is : (s : List ℕ) (p w : ℕ) → w ≤ 57 → field_at s (8 * (p / 8)) 64 * 2 ^ (p % 8) % 2 ^ 64 / 2 ^ (64 - w) ≡ field_at s p w
word_is s p w h =
    let o : ℕ = p % 8 in
    let k : ℕ = p / 8 in
    let m : ℕ = 64 - o - w in
    let e : 8 * k + o ≡ p = omega arith in
    let f : 64 - w ≡ o + m = omega arith in
    let g : 64 - o ≡ w + m = omega arith in
    ap (λ (x : ℕ). x / 2 ^ (64 - w)) (last_bits s (8 * k) o (omega arith) ∙ ap (λ (x : ℕ). field_at s x (64 - o) * 2 ^ o) e)
    ∙ ap (λ (x : ℕ). field_at s p (64 - o) * 2 ^ o / 2 ^ x) f
    ∙ sym (shr-shr (field_at s p (64 - o) * 2 ^ o) o m)
    ∙ ap (λ (x : ℕ). x / 2 ^ m) (shl-shr (field_at s p (64 - o)) o ∙ ap (field_at s p) g ∙ field_split s p w m)
    ∙ high (field_at s p w) m (field_lt s (p + w) m)

-- a bit of its byte
pub bit_is : (s : List ℕ) (p : ℕ) → field_at s p 1 ≡ get_or s (p / 8) 0 / 2 ^ (7 - p % 8) % 2
bit_is s p =
    let e : 8 - p % 8 - 1 ≡ 7 - p % 8 = omega arith in
    field_byte s p 1 (omega arith) ∙ ap (λ (x : ℕ). get_or s (p / 8) 0 / 2 ^ x % 2) e

-- 64 bits across nine bytes
pub window_is : (s : List ℕ) (p : ℕ) → get_or s (p / 8 + 8) 0 < 256
    → field_at s (8 * (p / 8)) 64 * 2 ^ (p % 8) % 2 ^ 64 + get_or s (p / 8 + 8) 0 / 2 ^ (8 - p % 8) ≡ field_at s p 64
window_is s p h =
    let o : ℕ = p % 8 in
    let k : ℕ = p / 8 in
    let e : 8 * k + o ≡ p = omega arith in
    let f : 64 ≡ 64 - o + o = omega arith in
    let g : 8 * (k + 8) ≡ p + (64 - o) = omega arith in
    let i : 8 * (k + 8) / 8 ≡ k + 8 = omega arith in
    let j : 8 * (k + 8) % 8 ≡ 0 = omega arith in
    let n : 8 ≡ o + (8 - o) = omega arith in
    let tail : get_or s (k + 8) 0 / 2 ^ (8 - o) ≡ field_at s (p + (64 - o)) o =
    sym (ap (λ (x : ℕ). field_at s x o) (sym g) ∙ field_byte s (8 * (k + 8)) o (omega arith) ∙ rw (i, j) (shr_mod o (8 - o) (subst (λ (x : ℕ). get_or s (k + 8) 0 < 2 ^ x) n h))) in
    ap (λ (x : ℕ). x + get_or s (k + 8) 0 / 2 ^ (8 - o)) (last_bits s (8 * k) o (omega arith) ∙ ap (λ (x : ℕ). field_at s x (64 - o) * 2 ^ o) e)
    ∙ ap (λ (x : ℕ). field_at s p (64 - o) * 2 ^ o + x) tail
    ∙ sym (ap (field_at s p) f ∙ field_split s p (64 - o) o)

-- where the ninth byte lies past the end
pub window_ends : (s : List ℕ) (p : ℕ) → length s ≤ p / 8 + 8 → field_at s (8 * (p / 8)) 64 * 2 ^ (p % 8) % 2 ^ 64 ≡ field_at s p 64
window_ends s p h =
    let z : get_or s (p / 8 + 8) 0 ≡ 0 = get_or-eq_default s 0 h in
    let q : get_or s (p / 8 + 8) 0 / 2 ^ (8 - p % 8) ≡ 0 = ap (λ (x : ℕ). x / 2 ^ (8 - p % 8)) z ∙ zero-div (2 ^ (8 - p % 8)) in
    let g : field_at s (8 * (p / 8)) 64 * 2 ^ (p % 8) % 2 ^ 64 ≡ field_at s (8 * (p / 8)) 64 * 2 ^ (p % 8) % 2 ^ 64 + get_or s (p / 8 + 8) 0 / 2 ^ (8 - p % 8) =
    omega (arith, q) in
    g ∙ window_is s p (omega (arith, z))
