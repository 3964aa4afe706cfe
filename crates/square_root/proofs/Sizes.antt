-- How large a square root can be: as in fp: Sizes, by powers of two. Assumes nothing.
use Rattle.std.specs.Prelude.{ℕ, ◌+◌, ◌*◌, ◌/◌, ◌%◌, ◌^◌, ◌≤◌, ◌<◌, ◌≡◌, refl, ◌⊎◌, true, false, T, Float}
use Rattle.std.proofs.Common.{le_trans, le_of_eq, lt_of_lt_of_le, lt_of_le_of_lt, mul-le-mul, mul-le-mul_right, mul_right_comm, one-mul, zero-mul, add-mul, div-lt_iff_lt-mul, div-add-mod', le_of_mul-le-mul_right, arith, sym, ap, ◌∙◌, subst, inl, inr, lit<, pow-add, pow_pos, pow_mono, ltb-false, eq-eqb}
use Rattle.std.specs.Float.{nan, inf, fin, binary64}
use Rattle.std.specs.Float.Ieee.{up, down, fits, lt, le, eq, of_bits}
use Rattle.std.specs.Float.Ieee.Fits.{up_pos, down_pos}
use Rattle.laws.specs.Bools.{which, less?, never}
use Rattle.fp.specs.Num as Num
use Rattle.fp.specs.Order.{no_digits}
use Rattle.fp.specs.Nonneg.{unsigned}
use Rattle.fp.specs.Inside.{AtMost, size_finite}
use Rattle.rounding.specs.Signed.{size_signed}
use Rattle.multiply_add.specs.Nearest.{Double, least_whole}
use Rattle.square_root.specs.SquareRoot.{square_root}
use Rattle.square_root.specs.Squares.{square_lt_back, square_even}
use Rattle.square_root.specs.Nearest.{leasts, Nearer}
use Rattle.square_root.proofs.Nearest.{root_double, nearer_root}

-- ---- a size by its least doubles, and back

turn : (k d : ℕ) → 2 ^ k * d * 2 ^ 1074 ≡ 2 ^ (k + 1074) * d
turn k d = mul_right_comm (2 ^ k) d (2 ^ 1074) ∙ ap (λ (z : ℕ). z * d) (sym (pow-add 2 k 1074))

to_leasts : (k : ℕ) (x : Float) → AtMost (2 ^ k) x → leasts x ≤ 2 ^ (k + 1074)
to_leasts k nan h = absurd h
to_leasts k (inf s) h = absurd h
to_leasts k (fin s m e) h =
    le_trans (le_of_eq (size_signed s (m * up e * 2 ^ 1074 / down e)))
    (part (m * up e * 2 ^ 1074) (2 ^ (k + 1074)) (down e) (down_pos e) (le_trans (mul-le-mul_right (2 ^ 1074) h) (le_of_eq (turn k (down e)))))
  where
    part : (a b d : ℕ) → 0 < d → a ≤ b * d → a / d ≤ b
    part a b d p l =
        let g : a / d < b + 1 = (div-lt_iff_lt-mul p).1 (lt_of_le_of_lt l (more b d p)) in omega arith
      where
        more : (b d : ℕ) → 0 < d → b * d < (b + 1) * d
        more b d p = omega (arith, add-mul b 1 d, one-mul d)

of_leasts : (k : ℕ) (x : Float) → Double x → leasts x ≤ 2 ^ (k + 1074) → AtMost (2 ^ k) x
of_leasts k nan X h = never X.1
of_leasts k (inf s) X h = never X.1
of_leasts k (fin s m e) X h =
    let a = m * up e * 2 ^ 1074 in
    let w : a ≡ a / down e * down e = whole a (down e) (least_whole s m e X) in
    let l : a / down e ≤ 2 ^ (k + 1074) = le_trans (le_of_eq (sym (size_signed s (a / down e)))) h in
    le_of_mul-le-mul_right (le_trans (le_of_eq w) (le_trans (mul-le-mul_right (down e) l) (le_of_eq (sym (turn k (down e)))))) (pow_pos 1074)
  where
    whole : (a d : ℕ) → a % d ≡ 0 → a ≡ a / d * d
    whole a d z = omega (arith, div-add-mod' a d)

-- ---- the root

-- a zero is its own root
zero_root : (x : Float) → lt Num.zero x ≡ false → le Num.zero x ≡ true → square_root x ≡ x
unfolding square_root lt le eq of_bits
zero_root nan l p = refl
zero_root (inf true) l p = never p
zero_root (inf false) l p = never (sym l)
zero_root (fin true m e) l p = rw (eq-eqb m 0 (no_digits m (up e) (up_pos e) (unsigned m e p)))
zero_root (fin false m e) l p =
    let g : m * up e * 1 ≤ 0 * down e = ltb-false (0 * down e) (m * up e * 1) l in
    rw (eq-eqb m 0 (no_digits m (up e) (up_pos e) (omega (arith, zero-mul (down e)))))

-- the power of two that bounds what is rooted bounds the root
pub root_size : (k : ℕ) (x : Float) → T (fits binary64 x) → le Num.zero x ≡ true → AtMost (2 ^ k) x → AtMost (2 ^ k) (square_root x)
root_size k x ok p h = go (which (lt Num.zero x))
  where
    reach : (k : ℕ) → 1074 ≤ k + 1074
    reach k = omega arith

    -- beyond the power b, which is a double, the root would lie nearer to b
    under : (n a b : ℕ) → 2 ^ 1074 ≤ b → n ≤ b → Nearer n a (1 * b) → (b < a) ⊎ (a ≤ b) → a ≤ b
    under n a b o l v (inr g) = g
    under n a b o l v (inl g) =
        let s : (a + b) * (a + b) < 4 * (n * 2 ^ 1074) = (rw (one-mul b) at v.than_below) g in
        let t : n * 2 ^ 1074 ≤ b * b = mul-le-mul l o in
        let u : a + b < 2 * b = square_lt_back (a + b) (2 * b) (lt_of_lt_of_le s (le_trans (four t) (le_of_eq (sym (square_even b))))) in
        omega arith
      where
        four : {c d : ℕ} → c ≤ d → 4 * c ≤ 4 * d
        four h = omega arith

    go : (lt Num.zero x ≡ true) ⊎ (lt Num.zero x ≡ false) → AtMost (2 ^ k) (square_root x)
    go (inl above) =
        let X : Double x = (ok, size_finite (2 ^ k) x h) in
        let b = 2 ^ (k + 1074) in
        let a = leasts (square_root x) in
        of_leasts k (square_root x) (root_double x X above).0
        (under (leasts x) a b (pow_mono (reach k)) (to_leasts k x h) (nearer_root x X above 1 (k + 1074) (lit< tt)) (less? b a))
    go (inr l) = subst (λ (y : Float). AtMost (2 ^ k) y) (sym (zero_root x l p)) h
