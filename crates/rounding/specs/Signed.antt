-- Whole numbers with a sign, as integers of the logic's library: their sums, products and distances, by the sizes alone. Assumes nothing.
use Rattle.std.specs.Prelude.{◌≡◌, refl, ◌⊎◌, ℕ, zero, suc, ◌+◌, ◌-◌, ◌*◌, ◌≤◌, ◌<◌, Bool, true, false, not, ℤ, pos, negsuc, neg_ℤ, nat_abs, ◌+ℤ◌, ◌-ℤ◌, ◌*ℤ◌}
use Rattle.std.proofs.Common.{sym, ap, ◌∙◌, inl, inr, zero-mul, mul-zero, arith, lt-ltb, le-ltb}
use Rattle.std.proofs.Math.Nat.{sub-zero}
use Rattle.std.proofs.Math.IntN.{sub_ℕ}
use Rattle.std.specs.Float.Ieee.{unlike}
use Rattle.laws.specs.Bools.{less?}
use Rattle.rounding.specs.Closest.{distance}

-- n, negative where s is true
abbrev pub signed : Bool → ℕ → ℤ
signed false n = pos n
signed true n = neg_ℤ (pos n)

-- ---- ±n as a difference of two numbers, over which the cases of signs are one

abbrev pub above : Bool → ℕ → ℕ
above false n = n
above true n = 0

abbrev pub below : Bool → ℕ → ℕ
below false n = 0
below true n = n

sub_less : (a b : ℕ) → a < b → sub_ℕ a b ≡ negsuc (b - suc a)
sub_less a b h = rw (lt-ltb a b h)

sub_more : (a b : ℕ) → b ≤ a → sub_ℕ a b ≡ pos (a - b)
sub_more a b h = rw (le-ltb a b h)

-- equal differences
sub_same : (a b c d : ℕ) → a + d ≡ c + b → sub_ℕ a b ≡ sub_ℕ c d
sub_same a b c d e = go (less? a b)
  where
    go : (a < b) ⊎ (b ≤ a) → sub_ℕ a b ≡ sub_ℕ c d
    go (inl h) =
        let g : b - suc a ≡ d - suc c = omega arith in
        sub_less a b h ∙ ap negsuc g ∙ sym (sub_less c d (omega arith))
    go (inr h) =
        let g : a - b ≡ c - d = omega arith in
        sub_more a b h ∙ ap pos g ∙ sym (sub_more c d (omega arith))

signed_sub : (s : Bool) (n : ℕ) → signed s n ≡ sub_ℕ (above s n) (below s n)
signed_sub false n = sym (sub_more n 0 (omega arith) ∙ ap pos (sub-zero n))
signed_sub true zero = refl
signed_sub true (suc n) = let e : suc n - 1 ≡ n = omega arith in sym (sub_less 0 (suc n) (omega arith) ∙ ap negsuc e)

neg-sub : (a b : ℕ) → neg_ℤ (sub_ℕ a b) ≡ sub_ℕ b a
neg-sub a b = go (less? a b) (less? b a)
  where
    go : (a < b) ⊎ (b ≤ a) → (b < a) ⊎ (a ≤ b) → neg_ℤ (sub_ℕ a b) ≡ sub_ℕ b a
    go (inl h) k =
        let e : suc (b - suc a) ≡ b - a = omega arith in
        ap neg_ℤ (sub_less a b h) ∙ ap pos e ∙ sym (sub_more b a (omega arith))
    go (inr h) (inl k) =
        let e : a - b ≡ suc (a - suc b) = omega arith in
        ap neg_ℤ (sub_more a b h ∙ ap pos e) ∙ sym (sub_less b a k)
    go (inr h) (inr k) =
        let e : a - b ≡ 0 = omega arith in
        let g : b - a ≡ 0 = omega arith in
        ap neg_ℤ (sub_more a b h ∙ ap pos e) ∙ sym (sub_more b a k ∙ ap pos g)

add-sub : (a b c d : ℕ) → sub_ℕ a b +ℤ sub_ℕ c d ≡ sub_ℕ (a + c) (b + d)
add-sub a b c d = go (less? a b) (less? c d)
  where
    go : (a < b) ⊎ (b ≤ a) → (c < d) ⊎ (d ≤ c) → sub_ℕ a b +ℤ sub_ℕ c d ≡ sub_ℕ (a + c) (b + d)
    go (inl h) (inl k) =
        let e : suc (b - suc a + (d - suc c)) ≡ b + d - suc (a + c) = omega arith in
        ap (λ (z : ℤ). z +ℤ sub_ℕ c d) (sub_less a b h) ∙ ap (λ (z : ℤ). negsuc (b - suc a) +ℤ z) (sub_less c d k)
        ∙ ap negsuc e ∙ sym (sub_less (a + c) (b + d) (omega arith))
    go (inl h) (inr k) =
        ap (λ (z : ℤ). z +ℤ sub_ℕ c d) (sub_less a b h) ∙ ap (λ (z : ℤ). negsuc (b - suc a) +ℤ z) (sub_more c d k)
        ∙ sub_same (c - d) (suc (b - suc a)) (a + c) (b + d) (omega arith)
    go (inr h) (inl k) =
        ap (λ (z : ℤ). z +ℤ sub_ℕ c d) (sub_more a b h) ∙ ap (λ (z : ℤ). pos (a - b) +ℤ z) (sub_less c d k)
        ∙ sub_same (a - b) (suc (d - suc c)) (a + c) (b + d) (omega arith)
    go (inr h) (inr k) =
        let e : a - b + (c - d) ≡ a + c - (b + d) = omega arith in
        ap (λ (z : ℤ). z +ℤ sub_ℕ c d) (sub_more a b h) ∙ ap (λ (z : ℤ). pos (a - b) +ℤ z) (sub_more c d k)
        ∙ ap pos e ∙ sym (sub_more (a + c) (b + d) (omega arith))

abs_sub : (a b : ℕ) → nat_abs (sub_ℕ a b) ≡ distance a b
abs_sub a b = go (less? a b)
  where
    go : (a < b) ⊎ (b ≤ a) → nat_abs (sub_ℕ a b) ≡ distance a b
    go (inl h) = let e : suc (b - suc a) ≡ distance a b = omega arith in ap nat_abs (sub_less a b h) ∙ e
    go (inr h) = let e : a - b ≡ distance a b = omega arith in ap nat_abs (sub_more a b h) ∙ e

-- ---- distance, sum, product

apart : (s : Bool) (a : ℕ) (t : Bool) (b : ℕ) → nat_abs (signed s a -ℤ signed t b) ≡ distance (above s a + below t b) (below s a + above t b)
apart s a t b =
    ap (λ (z : ℤ). nat_abs (z +ℤ neg_ℤ (signed t b))) (signed_sub s a)
    ∙ ap (λ (z : ℤ). nat_abs (sub_ℕ (above s a) (below s a) +ℤ neg_ℤ z)) (signed_sub t b)
    ∙ ap (λ (z : ℤ). nat_abs (sub_ℕ (above s a) (below s a) +ℤ z)) (neg-sub (above t b) (below t b))
    ∙ ap nat_abs (add-sub (above s a) (below s a) (below t b) (above t b)) ∙ abs_sub (above s a + below t b) (below s a + above t b)

pub apart_like : (s : Bool) (a b : ℕ) → nat_abs (signed s a -ℤ signed s b) ≡ distance a b
apart_like s a b = apart s a s b ∙ by s
  where
    by : (s : Bool) → distance (above s a + below s b) (below s a + above s b) ≡ distance a b
    by false = omega arith
    by true = omega arith

pub apart_unlike : (s : Bool) (a b : ℕ) → nat_abs (signed (not s) a -ℤ signed s b) ≡ a + b
apart_unlike s a b = apart (not s) a s b ∙ by s
  where
    by : (s : Bool) → distance (above (not s) a + below s b) (below (not s) a + above s b) ≡ a + b
    by false = omega arith
    by true = omega arith

pub sum_signed : (s : Bool) (a : ℕ) (t : Bool) (b : ℕ) (u : Bool) (n : ℕ)
    → above s a + above t b + below u n ≡ above u n + (below s a + below t b) → signed s a +ℤ signed t b ≡ signed u n
sum_signed s a t b u n e =
    ap (λ (z : ℤ). z +ℤ signed t b) (signed_sub s a)
    ∙ ap (λ (z : ℤ). sub_ℕ (above s a) (below s a) +ℤ z) (signed_sub t b)
    ∙ add-sub (above s a) (below s a) (above t b) (below t b)
    ∙ sub_same (above s a + above t b) (below s a + below t b) (above u n) (below u n) e
    ∙ sym (signed_sub u n)

pub product_signed : (s : Bool) (a : ℕ) (t : Bool) (b : ℕ) → signed s a *ℤ signed t b ≡ signed (unlike s t) (a * b)
product_signed false a false b = refl
product_signed false a true zero = rw (mul-zero a)
product_signed false a true (suc b) = refl
product_signed true zero false b = rw (zero-mul b)
product_signed true (suc a) false b = refl
product_signed true zero true zero = refl
product_signed true zero true (suc b) = rw (zero-mul (suc b))
product_signed true (suc a) true zero = rw (mul-zero (suc a))
product_signed true (suc a) true (suc b) = refl

pub unlike_false : (s : Bool) → unlike s false ≡ s
unlike_false true = refl
unlike_false false = refl

pub scaled_signed : (s : Bool) (n m : ℕ) → signed s n *ℤ pos m ≡ signed s (n * m)
scaled_signed s n m = product_signed s n false m ∙ ap (λ (b : Bool). signed b (n * m)) (unlike_false s)

pub size_signed : (s : Bool) (n : ℕ) → nat_abs (signed s n) ≡ n
size_signed false n = refl
size_signed true zero = refl
size_signed true (suc n) = refl

-- zero has one value
pub zero_signed : (s t : Bool) → signed s 0 ≡ signed t 0
zero_signed false false = refl
zero_signed false true = refl
zero_signed true false = refl
zero_signed true true = refl
