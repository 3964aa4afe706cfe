-- Laws behind the sum of a product and a third. Assumes nothing.
use Rattle.std.proofs.Common.{◌≡◌, ℕ, ◌+◌, ◌-◌, ◌*◌, ◌%◌, ◌^◌, ◌<◌, ◌≤◌, Bool, true, false, cond, not, ◌&&◌, T, eqb, ltb, leb, ◌⊎◌, sym, refl, ap, ◌∙◌, subst, inl, inr, le_trans, le_of_eq, mul-le-mul_right, mod-eq_of_lt, mul_assoc, mul_comm, add-mul, mul-le-mul, mul-lt-mul_of_pos_right, one-mul, zero-add, zero-mul, mul-one, arith, lit<, lit≤, pow_pos, pow-add, ltb-false, ltb-true, le-ltb, lt-ltb, eqb-true}
use native.Mathlib.Nat.{mul-mul-mul_comm}
use mathlib.Core.Bool.{and-true, and-false}
use lib.Ieee.{Float, nan, inf, fin, binary64, unlike, round, sum, add, mul, fits, is_nan, to_bits}
use borrow.Author.Tests.{eqb-false}
use Rattle.laws.specs.Bools.{never}
use Rattle.fp.specs.Num.{plus, times, finite}
use Rattle.fp.specs.Fields.{sign_one}
use Rattle.rounding.specs.Sums.{sum_plus, sum_less, sum_more, mul_sub_right}
use Rattle.rounding.specs.Sticky.{Near}
use Rattle.rounding.specs.Jam.{Clear, near_sum, near_sum_first, near_scale, near_trans}
use Rattle.rounding.specs.Unpack.{significand_of, exponent_of, significand_lt, exponent_lt, significand_lead, value_of}
use Rattle.multiply_add.specs.MulAdd.{mul_add}
use Rattle.multiply_add.specs.Steps.{base, wide, Holds, Jammed, once, Sticky, product_exponent, both, Fit, Aligned, Sums, Terms}
use Rattle.multiply_add.proofs.Units.{mul_add_is}

-- ---- one place for both

-- n * 2 ^ d at q is n at p
moved : (n x p q d : ℕ) → x ≡ n * 2 ^ d → p ≡ d + q → n * 2 ^ p ≡ x * 2 ^ q
moved n x p q d e h =
    ap (λ (z : ℕ). n * 2 ^ z) h ∙ ap (λ (z : ℕ). n * z) (pow-add 2 d q) ∙ sym (mul_assoc n (2 ^ d) (2 ^ q)) ∙ ap (λ (z : ℕ). z * 2 ^ q) (sym e)

alone : (x : ℕ) → wide 0 x ≡ x
alone x = zero-add x

both_is : (s : Bool) (a a' : ℕ) (t : Bool) (b b' : ℕ) → a ≡ a' → b ≡ b' → both s a t b ≡ both s a' t b'
both_is s a a' t b b' e g = ap (λ (z : ℕ). both s z t b) e ∙ ap (λ (z : ℕ). both s a' t z) g

module _ (hi lo p c q : ℕ) (fit : Fit hi lo p c q) where
  pub above_exact : (xh xl : ℕ) → q < p → Holds (wide hi lo * 2 ^ (p - q)) (2 ^ 63) xh xl → Aligned (wide hi lo) p c q xh xl 0 c q
  above_exact xh xl h g = record {
    p_small = g.small;
    c_small = lit< tt;
    at_lt = fit.q_lt;
    same =
        λ s t. both_is s (wide hi lo * 2 ^ p) (wide xh xl * 2 ^ q) t (c * 2 ^ q) (wide 0 c * 2 ^ q)
        (moved (wide hi lo) (wide xh xl) p q (p - q) g.value (omega arith)) (ap (λ (z : ℕ). z * 2 ^ q) (sym (alone c)));
  }

  pub below_exact : (yh yl : ℕ) → p ≤ q → Holds (c * 2 ^ (q - p)) (2 ^ 63) yh yl → Aligned (wide hi lo) p c q hi lo yh yl p
  below_exact yh yl h g = record {
    p_small = let z = fit.top in omega arith;
    c_small = g.small;
    at_lt = fit.p_lt;
    same =
        λ s t. both_is s (wide hi lo * 2 ^ p) (wide hi lo * 2 ^ p) t (c * 2 ^ q) (wide yh yl * 2 ^ p) refl
        (moved c (wide yh yl) q p (q - p) g.value (omega arith));
  }

  pub above_cut : (xh xl j : ℕ) → q < p → 22 ≤ p - q → Holds (wide hi lo * 2 ^ 21) (2 ^ 63) xh xl → Jammed c (p - q - 21) j
      → Aligned (wide hi lo) p c q xh xl 0 j (p - 21)
  unfolding both
  above_cut xh xl j h d g k = record {
    p_small = g.small;
    c_small = lit< tt;
    at_lt = let z = fit.p_lt in omega arith;
    same = λ s t.
        ap (λ (z : ℕ). sum binary64 s z t (c * 2 ^ q) (2 ^ 2148)) (moved (wide hi lo) (wide xh xl) p (p - 21) 21 g.value (omega arith))
        ∙ near_sum binary64 s t (wide xh xl) j (p - 21) (c * 2 ^ q) even near clear
        ∙ ap (λ (z : ℕ). sum binary64 s (wide xh xl * 2 ^ (p - 21)) t (z * 2 ^ (p - 21)) (2 ^ 2148)) (sym (alone j));
  }
    where
      is_even : (n x : ℕ) → x ≡ n * 2097152 → x % 2 ≡ 0
      is_even n x e = omega arith

      even : wide xh xl % 2 ≡ 0
      even = is_even (wide hi lo) (wide xh xl) g.value

      near : Near (c * 2 ^ q) (2 ^ (p - 21)) j
      near =
          subst (λ (u : ℕ). Near (c * 2 ^ q) u j) (sym (pow-add 2 (p - q - 21) q) ∙ ap (λ (z : ℕ). 2 ^ z) (omega arith))
          (near_scale c (2 ^ (p - q - 21)) j (2 ^ q) (pow_pos q) k.near)

      big : (n x c j : ℕ) → x ≡ n * 2097152 → 2 ^ 52 ≤ n → j ≤ c → c < 2 ^ 53 → 2 ^ 54 + j ≤ x
      big n x c j e a b d = omega arith

      clear_by : (p ≤ 1074) ⊎ (2 ^ 52 ≤ wide hi lo) → Clear binary64 (p - 21) (wide xh xl) j
      clear_by (inl l) = absurd (no p q l h fit.q_ge)
        where
          no : (p q : ℕ) → p ≤ 1074 → q < p → 1074 ≤ q → ⊥
          no p q a b c = omega arith
      clear_by (inr l) = inr (big (wide hi lo) (wide xh xl) c j g.value l k.small fit.few)

      clear : Clear binary64 (p - 21) (wide xh xl) j
      clear = clear_by fit.p_lead

  pub below_cut : (h j : ℕ) → p ≤ q → 74 ≤ q - p → Sticky hi lo h → Jammed h (q - p - 74) j
      → Aligned (wide hi lo) p c q 0 j 0 (c * 2 ^ 10 % base) (q - 10)
  unfolding both
  below_cut h j l d g k = record {
    p_small = lit< tt;
    c_small = lit< tt;
    at_lt = let z = fit.q_lt in omega arith;
    same = λ s t.
        ap (λ (z : ℕ). sum binary64 s (wide hi lo * 2 ^ p) t z (2 ^ 2148)) (moved c (c * 1024) q (q - 10) 10 refl (omega arith))
        ∙ near_sum_first binary64 s t (c * 1024) j (q - 10) (wide hi lo * 2 ^ p) (even c) near clear
        ∙ ap (λ (z : ℕ). sum binary64 s (z * 2 ^ (q - 10)) t (c * 1024 * 2 ^ (q - 10)) (2 ^ 2148)) (sym (alone j))
        ∙ ap (λ (z : ℕ). sum binary64 s (wide 0 j * 2 ^ (q - 10)) t (z * 2 ^ (q - 10)) (2 ^ 2148))
        (sym (alone (c * 1024 % base) ∙ mod-eq_of_lt (small c fit.few)));
  }
    where
      small : (c : ℕ) → c < 2 ^ 53 → c * 1024 < base
      small c h = omega arith

      even : (c : ℕ) → c * 1024 % 2 ≡ 0
      even c = omega arith

      near : Near (wide hi lo * 2 ^ p) (2 ^ (q - 10)) j
      near =
          subst (λ (u : ℕ). Near (wide hi lo * 2 ^ p) u j)
          (ap (λ (z : ℕ). z * 2 ^ p) (sym (pow-add 2 (q - p - 74) 64)) ∙ sym (pow-add 2 (q - p - 74 + 64) p) ∙ ap (λ (z : ℕ). 2 ^ z) (omega arith))
          (near_scale (wide hi lo) (2 ^ (q - p - 74) * 2 ^ 64) j (2 ^ p) (pow_pos p)
          (near_trans (wide hi lo) (2 ^ 64) h (q - p - 74) j (lit< tt) g.near k.near))

      big : (c h j hi : ℕ) → 2 ^ 52 ≤ c → j ≤ h → h ≤ hi + 1 → hi < 2 ^ 42 → 2 ^ 54 + j ≤ c * 1024
      big c h j hi a b d e = omega arith

      low_by : (q : ℕ) → q ≡ 1074 → q - 10 + 2 ≤ 1074
      low_by q e = omega arith

      clear_by : (q ≡ 1074) ⊎ (2 ^ 52 ≤ c) → Clear binary64 (q - 10) (c * 1024) j
      clear_by (inl e) = inl (low_by q e)
      clear_by (inr e) = inr (big c h j hi e k.small g.most fit.top)

      clear : Clear binary64 (q - 10) (c * 1024) j
      clear = clear_by fit.q_lead

-- ---- the sum of both

module _ (s : Bool) (a b n : ℕ) where
  pub sums_plus : n ≡ a + b → Sums s a s b s n
  unfolding both once
  sums_plus e = record {
    is =
        λ at. sum_plus binary64 s (a * 2 ^ at) (b * 2 ^ at) (2 ^ 2148)
        ∙ ap (λ (z : ℕ). round binary64 s z (2 ^ 2148)) (sym (add-mul a b (2 ^ at)) ∙ ap (λ (z : ℕ). z * 2 ^ at) (sym e));
  }

  pub sums_less : ltb a b ≡ true → n ≡ b - a → Sums s a (not s) b (not s) n
  unfolding both once
  sums_less h e = record {
    is =
        λ at. sum_less binary64 s (a * 2 ^ at) (b * 2 ^ at) (2 ^ 2148) (mul-lt-mul_of_pos_right (ltb-true a b h) (pow_pos at))
        ∙ ap (λ (z : ℕ). round binary64 (not s) z (2 ^ 2148)) (sym (mul_sub_right b a (2 ^ at)) ∙ ap (λ (z : ℕ). z * 2 ^ at) (sym e));
  }

  pub sums_more : ltb a b ≡ false → ltb b a ≡ true → n ≡ a - b → Sums s a (not s) b s n
  unfolding both once
  sums_more h k e = record {
    is = λ at.
        sum_more binary64 s (a * 2 ^ at) (b * 2 ^ at) (2 ^ 2148) (mul-le-mul_right (2 ^ at) (ltb-false a b h))
        ∙ ap (λ (w : Bool). round binary64 w (a * 2 ^ at - b * 2 ^ at) (2 ^ 2148))
        (ap (λ (w : Bool). s && w) (lt-ltb (b * 2 ^ at) (a * 2 ^ at) (mul-lt-mul_of_pos_right (ltb-true b a k) (pow_pos at))) ∙ and-true s)
        ∙ ap (λ (z : ℕ). round binary64 s z (2 ^ 2148)) (sym (mul_sub_right a b (2 ^ at)) ∙ ap (λ (z : ℕ). z * 2 ^ at) (sym e));
  }

  pub sums_none : ltb a b ≡ false → ltb b a ≡ false → n ≡ a - b → Sums s a (not s) b false n
  unfolding both once
  sums_none h k e = record {
    is = λ at.
        sum_more binary64 s (a * 2 ^ at) (b * 2 ^ at) (2 ^ 2148) (mul-le-mul_right (2 ^ at) (ltb-false a b h))
        ∙ ap (λ (w : Bool). round binary64 w (a * 2 ^ at - b * 2 ^ at) (2 ^ 2148))
        (ap (λ (w : Bool). s && w) (le-ltb (b * 2 ^ at) (a * 2 ^ at) (mul-le-mul_right (2 ^ at) (ltb-false b a k))) ∙ and-false s)
        ∙ ap (λ (z : ℕ). round binary64 false z (2 ^ 2148)) (sym (mul_sub_right a b (2 ^ at)) ∙ ap (λ (z : ℕ). z * 2 ^ at) (sym e));
  }

-- ---- the exponent of the product

product_exponent_value : (m n k l : ℕ) → m * n * 2 ^ (k + l) ≡ m * n * 2 ^ product_exponent m n k l
unfolding product_exponent
product_exponent_value m n k l = go (eqb m 0) (eqb n 0) (eqb-true m 0) (eqb-true n 0)
  where
    none : (u w x : ℕ) → u ≡ 0 → u * w ≡ u * x
    none u w x e = rw e (zero-mul w ∙ sym (zero-mul x))

    go : (s t : Bool) → (s ≡ true → m ≡ 0) → (t ≡ true → n ≡ 0) → m * n * 2 ^ (k + l) ≡ m * n * 2 ^ cond s 0 (cond t 0 (k + l))
    go true t h g = none (m * n) (2 ^ (k + l)) (2 ^ 0) (ap (λ (z : ℕ). z * n) (h refl) ∙ zero-mul n)
    go false true h g = none (m * n) (2 ^ (k + l)) (2 ^ 0) (ap (λ (z : ℕ). m * z) (g refl) ∙ mul_comm m 0 ∙ zero-mul m)
    go false false h g = refl

product_exponent_lt : (m n k l : ℕ) → k < 2047 → l < 2047 → product_exponent m n k l < 4100
unfolding product_exponent
product_exponent_lt m n k l a b = go (eqb m 0) (eqb n 0)
  where
    go : (s t : Bool) → cond s 0 (cond t 0 (k + l)) < 4100
    go true t = lit< tt
    go false true = lit< tt
    go false false = omega arith

product_exponent_lead : (m n k l : ℕ) → (k ≡ 0) ⊎ (2 ^ 52 ≤ m) → (l ≡ 0) ⊎ (2 ^ 52 ≤ n) → (product_exponent m n k l ≤ 1074) ⊎ (2 ^ 52 ≤ m * n)
unfolding product_exponent
product_exponent_lead m n k l a b = go (eqb m 0) (eqb n 0) (some m) (some n) a b
  where
    some : (x : ℕ) → eqb x 0 ≡ false → 1 ≤ x
    some x e = pos_of x (eqb-false x 0 e)
      where
        pos_of : (x : ℕ) → (x ≡ 0 → ⊥) → 1 ≤ x
        pos_of x n = omega arith

    left : 2 ^ 52 ≤ m → 1 ≤ n → 2 ^ 52 ≤ m * n
    left h g = le_trans (le_of_eq (sym (mul-one (2 ^ 52)))) (mul-le-mul h g)

    right : 1 ≤ m → 2 ^ 52 ≤ n → 2 ^ 52 ≤ m * n
    right h g = le_trans (le_of_eq (sym (one-mul (2 ^ 52)))) (mul-le-mul h g)

    go : (s t : Bool) → (s ≡ false → 1 ≤ m) → (t ≡ false → 1 ≤ n) → (k ≡ 0) ⊎ (2 ^ 52 ≤ m) → (l ≡ 0) ⊎ (2 ^ 52 ≤ n)
        → (cond s 0 (cond t 0 (k + l)) ≤ 1074) ⊎ (2 ^ 52 ≤ m * n)
    go true t h g a b = inl (lit≤ tt)
    go false true h g a b = inl (lit≤ tt)
    go false false h g (inr a) b = inr (left a (g refl))
    go false false h g (inl a) (inr b) = inr (right (h refl) b)
    go false false h g (inl a) (inl b) = inl (omega arith)

-- ---- three patterns

module _ (x y z m n k l p c r hi lo : ℕ) (em : m ≡ significand_of x) (en : n ≡ significand_of y) (ek : k ≡ exponent_of x) (el : l ≡ exponent_of y)
    (ep : p ≡ product_exponent m n k l) (ec : c ≡ significand_of z) (er : r ≡ exponent_of z) (h : Holds (m * n) (2 ^ 42) hi lo) where
  lead_of : (b m k : ℕ) → m ≡ significand_of b → k ≡ exponent_of b → (k ≡ 0) ⊎ (2 ^ 52 ≤ m)
  lead_of b m k e g = rw (e, g) (significand_lead b)

  pub terms_fit : Fit hi lo p c (r + 1074)
  terms_fit =
      let kl : k < 2047 = rw ek (exponent_lt x) in
      let ll : l < 2047 = rw el (exponent_lt y) in
      let rl : r < 2047 = rw er (exponent_lt z) in
      record {
        top = h.small;
        few = rw ec (significand_lt z);
        p_lt = rw ep (product_exponent_lt m n k l kl ll);
        q_lt = omega arith;
        q_ge = omega arith;
        p_lead = rw (ep, h.value) (product_exponent_lead m n k l (lead_of x m k em ek) (lead_of y n l en el));
        q_lead = third (lead_of z c r ec er);
      }
    where
      third : (r ≡ 0) ⊎ (2 ^ 52 ≤ c) → (r + 1074 ≡ 1074) ⊎ (2 ^ 52 ≤ c)
      third (inl e) = inl (omega arith)
      third (inr e) = inr e

  product_value : significand_of x * 2 ^ exponent_of x * (significand_of y * 2 ^ exponent_of y) ≡ wide hi lo * 2 ^ p
  product_value =
      rw (← em, ← en, ← ek, ← el)
      (mul-mul-mul_comm m (2 ^ k) n (2 ^ l) ∙ ap (λ (w : ℕ). m * n * w) (sym (pow-add 2 k l)) ∙ product_exponent_value m n k l
      ∙ ap (λ (w : ℕ). m * n * 2 ^ w) (sym ep) ∙ ap (λ (w : ℕ). w * 2 ^ p) (sym h.value))

  term_value : significand_of z * 2 ^ exponent_of z * 2 ^ 1074 ≡ c * 2 ^ (r + 1074)
  term_value = rw (← ec, ← er) (mul_assoc c (2 ^ r) (2 ^ 1074) ∙ ap (λ (w : ℕ). c * w) (sym (pow-add 2 r 1074)))

  pub terms_are : (ph pl ch cl at : ℕ) → Aligned (wide hi lo) p c (r + 1074) ph pl ch cl at → Terms x y z ph pl ch cl at
  terms_are ph pl ch cl at a = record {
    p_small = a.p_small;
    c_small = a.c_small;
    at_lt = a.at_lt;
    same =
        λ s t. both_is s (significand_of x * 2 ^ exponent_of x * (significand_of y * 2 ^ exponent_of y)) (wide hi lo * 2 ^ p) t
        (significand_of z * 2 ^ exponent_of z * 2 ^ 1074) (c * 2 ^ (r + 1074)) product_value term_value ∙ a.same s t;
  }

-- ---- three doubles

pub no_nan : (x : Float) → finite x ≡ true → T (not (is_nan x))
unfolding is_nan
no_nan nan f = never f
no_nan (inf s) f = tt
no_nan (fin s m e) f = tt

pub fused_is : (x y z : Float) → T (fits binary64 x) → T (fits binary64 y) → T (fits binary64 z) → finite x ≡ true → finite y ≡ true
    → finite z ≡ true → (ph pl ch cl at : ℕ) → Terms (to_bits binary64 x) (to_bits binary64 y) (to_bits binary64 z) ph pl ch cl at → (s : Bool)
    → s ≡ unlike (leb sign_one (to_bits binary64 x)) (leb sign_one (to_bits binary64 y)) → (r : Float)
    → r ≡ both s (wide ph pl * 2 ^ at) (leb sign_one (to_bits binary64 z)) (wide ch cl * 2 ^ at) → r ≡ mul_add x y z
fused_is x y z a b c f g h ph pl ch cl at k s e r q =
    let i = to_bits binary64 x in
    let j = to_bits binary64 y in
    let l = to_bits binary64 z in
    q ∙ sym (k.same s (leb sign_one l))
    ∙ ap
    (λ (w : Bool).
    both w (significand_of i * 2 ^ exponent_of i * (significand_of j * 2 ^ exponent_of j)) (leb sign_one l)
    (significand_of l * 2 ^ exponent_of l * 2 ^ 1074))
    e
    ∙ sym (mul_add_is x y z (leb sign_one i) (leb sign_one j) (leb sign_one l) _ _ _ (value_of x a f) (value_of y b g) (value_of z c h))

-- a NaN or an infinity among them
pub third_not_finite : (x y z : Float) → finite x ≡ true → finite y ≡ true → finite z ≡ false → z ≡ mul_add x y z
unfolding mul_add
third_not_finite nan y z a b c = never a
third_not_finite (inf s) y z a b c = never a
third_not_finite (fin s m e) nan z a b c = never b
third_not_finite (fin s m e) (inf t) z a b c = never b
third_not_finite (fin s m e) (fin t n d) nan a b c = refl
third_not_finite (fin s m e) (fin t n d) (inf u) a b c = refl
third_not_finite (fin s m e) (fin t n d) (fin u o g) a b c = never (sym c)

pub second_not_finite : (x y z : Float) → finite x ≡ true → finite y ≡ false → plus (times x y) z ≡ mul_add x y z
unfolding mul_add mul add
second_not_finite nan y z a b = never a
second_not_finite (inf s) y z a b = never a
second_not_finite (fin s m e) nan z a b = refl
second_not_finite (fin s m e) (inf t) z a b = refl
second_not_finite (fin s m e) (fin t n d) z a b = never (sym b)

pub first_not_finite : (x y z : Float) → finite x ≡ false → plus (times x y) z ≡ mul_add x y z
unfolding mul_add mul add
first_not_finite nan y z a = refl
first_not_finite (inf s) y z a = refl
first_not_finite (fin s m e) y z a = never (sym a)

-- ---- small steps

pub exponent_small : (b k : ℕ) → k ≡ exponent_of b → k < 2047
exponent_small b k e = rw e (exponent_lt b)

pub significand_small : (b m : ℕ) → m ≡ significand_of b → m < 2 ^ 53
significand_small b m e = rw e (significand_lt b)
