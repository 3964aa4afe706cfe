-- From the whole root of a double's digits to the double: what is kept, and the last digit. Assumes nothing.
use Rattle.std.specs.Prelude.{ℕ, suc, ◌+◌, ◌*◌, ◌/◌, ◌^◌, ◌≤◌, ◌<◌, ◌≡◌, refl, ◌⊎◌, Bool, true, false, cond, T, ltb, Float}
use Rattle.std.proofs.Common.{le_of_eq, lt_of_lt_of_le, lt_of_le_of_lt, lt_of_not-le, mul_assoc, mul_left_comm, mul-le-mul_right, mul-pos, zero-add, zero-mul, mul-div_cancel, eq-zero-or-pos, lt_irrefl, arith, sym, ap, ◌∙◌, inl, inr, pow-add, pow_pos, ltb-true, ne_eqb}
use Rattle.std.specs.Float.{nan, inf, fin, binary64}
use Rattle.std.specs.Float.Ieee.{up, down, units, fits, lt, of_bits, to_bits}
use Rattle.std.specs.Float.Ieee.Fits.{down_pos}
use Rattle.std.specs.Float.Ieee.Exact.{HasValue}
use Rattle.laws.specs.Bools.{never}
use Rattle.fp.specs.Num as Num
use Rattle.fp.specs.Num.{finite}
use Rattle.fp.specs.Fields.{field_one}
use Rattle.rounding.specs.Pack.{pack_in}
use Rattle.rounding.specs.Unpack.{significand_of, exponent_of, value_of}
use Rattle.square_root.specs.SquareRoot.{nearest_root, square_root}
use Rattle.square_root.specs.Steps.{Rooted}
use Rattle.square_root.specs.Squares.{square_lt_back, rooted_whole}

-- ---- in least doubles: the whole root of e * 2 ^ 52 weighs 2 ^ (h + 485)

pub square_is : (n e h : ℕ) → n * 2 ^ 52 ≡ e * (2 ^ h * 2 ^ h) → n * 2 ^ 1074 ≡ e * 2 ^ 52 * (2 ^ (h + 485) * 2 ^ (h + 485))
square_is n e h v =
    ap (λ (z : ℕ). n * z) power
    ∙ sym (mul_assoc n (2 ^ 52) (2 ^ 52 * (2 ^ 485 * 2 ^ 485)))
    ∙ ap (λ (z : ℕ). z * (2 ^ 52 * (2 ^ 485 * 2 ^ 485))) v
    ∙ regroup e (2 ^ h) (2 ^ 52) (2 ^ 485)
    ∙ ap (λ (z : ℕ). e * 2 ^ 52 * (z * z)) (sym (pow-add 2 h 485))
  where
    power : 2 ^ 1074 ≡ 2 ^ 52 * (2 ^ 52 * (2 ^ 485 * 2 ^ 485))
    power = refl

    regroup : (d h a b : ℕ) → d * (h * h) * (a * (b * b)) ≡ d * a * (h * b * (h * b))
    regroup d h a b = simp (mul_assoc, mul_left_comm)

-- digits of 53 or 54 places have a whole root of 53, and still 53 where it is moved up

module _ (e q r : ℕ) (h : Rooted (e * field_one) q r) where
  pub root_least : field_one ≤ e → field_one ≤ q
  root_least l =
      let w = rooted_whole _ q r h in
      let k : field_one < q + 1 = square_lt_back field_one (q + 1) (lt_of_le_of_lt (mul-le-mul_right field_one l) w.1) in
      omega arith

  pub root_most : e ≤ 0x3f_ffff_ffff_fffe → q < 2 * field_one
  root_most l =
      let w = rooted_whole _ q r h in
      let k : e * field_one < 0x20_0000_0000_0000 * 0x20_0000_0000_0000 = omega arith in
      square_lt_back q 0x20_0000_0000_0000 (lt_of_le_of_lt w.0 k)

  pub root_up : e ≤ 0x3f_ffff_ffff_fffe → q < r → q + 1 < 2 * field_one
  root_up l g =
      let m = root_most l in
      let s = h.sum in
      lt_of_not-le (λ (k : 0x20_0000_0000_0000 ≤ q + 1).
      let a : q ≡ 0x1f_ffff_ffff_ffff = omega arith in
      let f : q * q ≡ 0x1f_ffff_ffff_ffff * 0x1f_ffff_ffff_ffff = ap (λ (z : ℕ). z * z) a in
      omega arith)

-- q, of 53 digits, and its place
pub packed : (k q : ℕ) → k < 1536 → field_one ≤ q → q ≤ 2 * field_one → of_bits binary64 (k * field_one + q) ≡ units binary64 false q k
packed k q l lo hi = ap (of_bits binary64) (sym (zero-add (k * field_one + q))) ∙ pack_in false q k hi (inr lo) (omega arith)

-- what is kept, with its last digit
abbrev pub last_digit : ℕ → ℕ → ℕ
last_digit q r = cond (ltb q r) (suc q) q

-- ---- a finite double above zero, by its value and by its bits

above_value : (x : Float) (s : Bool) (n : ℕ) → lt Num.zero x ≡ true → HasValue x s n (2 ^ 1074) → (0 < n) × (nearest_root n ≡ square_root x)
unfolding square_root lt of_bits
above_value nan s n l v = absurd v
above_value (inf t) s n l v = absurd v
above_value (fin true m e) s n l v = never l
above_value (fin false m e) s n l v =
    let p : 0 < m * up e = omega (arith, ltb-true (0 * down e) (m * up e * 1) l, zero-mul (down e)) in (
      some n v.1 p (eq-zero-or-pos n),
      rw (ne_eqb m 0 (λ (z : m ≡ 0). none z p)) (ap nearest_root (sym (ap (λ (k : ℕ). k / down e) v.1 ∙ mul-div_cancel n (down_pos e)))),
    )
  where
    none : m ≡ 0 → 0 < m * up e → ⊥
    none z p = omega (arith, ap (λ (k : ℕ). k * up e) z, zero-mul (up e))

    some : (n : ℕ) → m * up e * 2 ^ 1074 ≡ n * down e → 0 < m * up e → (n ≡ 0) ⊎ (0 < n) → 0 < n
    some n v p (inr h) = h
    some n v p (inl z) =
        absurd (lt_irrefl 0 (lt_of_lt_of_le (mul-pos p (pow_pos 1074)) (le_of_eq (v ∙ ap (λ (k : ℕ). k * down e) z ∙ zero-mul (down e)))))

module _ (x : Float) (ok : T (fits binary64 x)) (above : lt Num.zero x ≡ true) (f : finite x ≡ true) where
  pub some_significand : 0 < significand_of (to_bits binary64 x)
  some_significand =
      go (significand_of (to_bits binary64 x)) (2 ^ exponent_of (to_bits binary64 x)) (eq-zero-or-pos (significand_of (to_bits binary64 x)))
      (above_value x _ (significand_of (to_bits binary64 x) * 2 ^ exponent_of (to_bits binary64 x)) above (value_of x ok f)).0
    where
      go : (a b : ℕ) → (a ≡ 0) ⊎ (0 < a) → 0 < a * b → 0 < a
      go a b (inl z) h = absurd (omega (arith, ap (λ (k : ℕ). k * b) z, zero-mul b))
      go a b (inr l) h = l

  pub root_is : nearest_root (significand_of (to_bits binary64 x) * 2 ^ exponent_of (to_bits binary64 x)) ≡ square_root x
  root_is = (above_value x _ (significand_of (to_bits binary64 x) * 2 ^ exponent_of (to_bits binary64 x)) above (value_of x ok f)).1
