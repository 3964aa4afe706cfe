-- Bytes from bits. Document 01: "Fields are packed bits, most significant first". Assumes nothing.
use Rattle.std.specs.Prelude.{ℕ, zero, suc, ◌+◌, ◌-◌, ◌*◌, ◌/◌, ◌%◌, ◌^◌, ◌≤◌, ◌<◌, ◌≡◌, refl, List, ◌++◌, length, get_or}
use Rattle.std.proofs.Common.{ap, ◌∙◌, subst, ⊎_elim, zero-add, arith, length-append, get_or-append-add, shr-shr}
use Rattle.std.proofs.Math.Nat.{pow-zero, zero-div}
use Rattle.std.proofs.Math.ListN.{get_or-append, get_or-eq_default}
use Rattle.laws.specs.Bools.{same?, less?}
use Rattle.laws.specs.Tables.{tab, length-tab, get_or-tab₀}
use Rattle.bits.specs.Field.{bit_at, field_at}

-- the n bits of s from bit at
unfoldable pub bits_of : List ℕ → ℕ → ℕ → List ℕ
bits_of s at n = tab (λ i. bit_at s (at + i)) n

-- the n bits of a number, the highest first
unfoldable pub digits : ℕ → ℕ → List ℕ
digits n v = tab (λ i. v / 2 ^ (n - 1 - i) % 2) n

-- the number that n bits stand for
unfoldable pub number_of : (ℕ → ℕ) → ℕ → ℕ
number_of b zero = 0
number_of b (suc n) = number_of b n * 2 + b n

-- bits as bytes, with zero bits up to the byte's end
unfoldable pub packed : List ℕ → List ℕ
packed l = tab (λ j. number_of (λ i. get_or l (8 * j + i) 0) 8) ((length l + 7) / 8)

-- t has these bits from bit at on
pub record Holds (t : List ℕ) (at : ℕ) (l : List ℕ) : Type 0 where
  pub bit : (i : ℕ) → i < length l → bit_at t (at + i) ≡ get_or l i 0

-- ---- the bits of what was packed

-- every entry is a bit
pub record Bits (l : List ℕ) : Type 0 where
  pub two : (i : ℕ) → get_or l i 0 < 2

number_bit : (b : ℕ → ℕ) (n k : ℕ) → k < n → ((i : ℕ) → b i < 2) → number_of b n / 2 ^ (n - 1 - k) % 2 ≡ b k
unfolding number_of
number_bit b zero k l h = absurd (omega arith)
number_bit b (suc n) k l h =
    ⊎_elim
    (λ (e : k ≡ n). let z : suc n - 1 - k ≡ 0 = omega arith in let g = h n in rw (z, pow-zero, e) (omega arith))
    (λ ne.
    let z : suc n - 1 - k ≡ 1 + (n - 1 - k) = omega arith in
    let g = h n in
    let e : (number_of b n * 2 + b n) / 2 ^ 1 ≡ number_of b n = omega arith in
    rw (z, ← shr-shr (number_of b n * 2 + b n) 1 (n - 1 - k), e) (number_bit b n k (omega arith) h))
    (same? k n)

pub packed_bit : (l : List ℕ) → Bits l → (i : ℕ) → bit_at (packed l) i ≡ get_or l i 0
unfolding bit_at packed
packed_bit l h i =
    let n = (length l + 7) / 8 in
    let f : ℕ → ℕ = λ j. number_of (λ k. get_or l (8 * j + k) 0) 8 in
    ⊎_elim
    (λ (m : i / 8 < (length l + 7) / 8).
    let e : 8 * (i / 8) + i % 8 ≡ i = omega arith in
    let z : 7 - i % 8 ≡ 8 - 1 - i % 8 = omega arith in
    rw (get_or-tab₀ f n (i / 8) 0 m, z)
    (number_bit (λ k. get_or l (8 * (i / 8) + k) 0) 8 (i % 8) (omega arith) (λ k. h.two (8 * (i / 8) + k)) ∙ ap (λ k. get_or l k 0) e))
    (λ (m : (length l + 7) / 8 ≤ i / 8).
    let a : get_or (tab f n) (i / 8) 0 ≡ 0 = get_or-eq_default (tab f n) 0 (omega (arith, length-tab f n)) in
    let b : get_or l i 0 ≡ 0 = get_or-eq_default l 0 (omega arith) in
    rw (a, b, zero-div (2 ^ (7 - i % 8))) refl)
    (less? (i / 8) ((length l + 7) / 8))

pub packed_length : (l : List ℕ) → length (packed l) ≡ (length l + 7) / 8
unfolding packed
packed_length l = length-tab _ ((length l + 7) / 8)

pub packed_holds : (l : List ℕ) → Bits l → Holds (packed l) 0 l
packed_holds l h = record { bit = λ i m. rw (zero-add i) (packed_bit l h i) }

-- ---- parts of what is held

module _ (t : List ℕ) (at : ℕ) (l m : List ℕ) (h : Holds t at (l ++ m)) where
  pub holds_left : Holds t at l
  holds_left = record { bit = λ i b. h.bit i (simp length-append (omega arith)) ∙ get_or-append l m 0 i b }

  pub holds_right : Holds t (at + length l) m
  holds_right = record {
    bit = λ i b.
        let e : at + length l + i ≡ at + (length l + i) = omega arith in
        ap (bit_at t) e ∙ h.bit (length l + i) (simp length-append (omega arith)) ∙ get_or-append-add l m i 0;
  }

-- fields inside of bits of s
pub holds_field : (s t : List ℕ) (at b n : ℕ) → Holds t at (bits_of s b n) → (o w : ℕ) → o + w ≤ n → field_at s (b + o) w ≡ field_at t (at + o) w
unfolding field_at bits_of
holds_field s t at b n h o zero l = refl
holds_field s t at b n h o (suc w) l =
    let p : b + o + w ≡ b + (o + w) = omega arith in
    let q : at + o + w ≡ at + (o + w) = omega arith in
    let f : ℕ → ℕ = λ i. bit_at s (b + i) in
    let e : bit_at t (at + (o + w)) ≡ bit_at s (b + (o + w)) =
    h.bit (o + w) (omega (arith, length-tab f n)) ∙ get_or-tab₀ f n (o + w) 0 (omega arith) in
    rw (p, q, e, holds_field s t at b n h o w (omega arith)) refl

-- the number at the front
pub holds_number : (t : List ℕ) (at : ℕ) (l : List ℕ) → Holds t at l → (n : ℕ) → n ≤ length l → field_at t at n ≡ number_of (λ i. get_or l i 0) n
unfolding field_at number_of
holds_number t at l h zero b = refl
holds_number t at l h (suc n) b = rw (h.bit n b, holds_number t at l h n (omega arith)) refl

-- ---- each entry is a bit

tab_bits : (f : ℕ → ℕ) (n : ℕ) → ((i : ℕ) → f i < 2) → Bits (tab f n)
tab_bits f n h =
    record {
      two = λ i. ⊎_elim
          (λ (l : i < n). rw (get_or-tab₀ f n i 0 l) (h i))
          (λ (l : n ≤ i). let e : get_or (tab f n) i 0 ≡ 0 = get_or-eq_default (tab f n) 0 (omega (arith, length-tab f n)) in omega arith)
          (less? i n);
    }

pub bits_of_lem : (s : List ℕ) (at n : ℕ) → Bits (bits_of s at n)
unfolding bits_of bit_at
bits_of_lem s at n =
    tab_bits (λ i. get_or s ((at + i) / 8) 0 / 2 ^ (7 - (at + i) % 8) % 2) n (λ i. omega arith)

pub digits_bits : (n v : ℕ) → Bits (digits n v)
unfolding digits
digits_bits n v = tab_bits (λ i. v / 2 ^ (n - 1 - i) % 2) n (λ i. omega arith)

pub append_bits : (l m : List ℕ) → Bits l → Bits m → Bits (l ++ m)
append_bits l m a b =
    record {
      two = λ i. ⊎_elim
          (λ (h : i < length l). rw (get_or-append l m 0 i h) (a.two i))
          (λ (h : length l ≤ i).
          let e : length l + (i - length l) ≡ i = omega arith in
          subst (λ k. get_or (l ++ m) k 0 < 2) e (rw (get_or-append-add l m (i - length l) 0) (b.two (i - length l))))
          (less? i (length l));
    }

pub bits_length : (s : List ℕ) (at n : ℕ) → length (bits_of s at n) ≡ n
unfolding bits_of
bits_length s at n = length-tab _ n

pub digits_length : (n v : ℕ) → length (digits n v) ≡ n
unfolding digits
digits_length n v = length-tab _ n
