-- How far apart two coordinates are: the same both ways, never a NaN nor below zero between finite ones, and finite between a sheet's. Assumes
-- nothing.
use Rattle.std.specs.Prelude.{◌≡◌, ℕ, zero, suc, ◌+◌, ◌-◌, ◌*◌, ◌^◌, ◌≤◌, Bool, true, false, cond, not, ◌&&◌, nat_lt, refl, Float}
use Rattle.std.proofs.Common.{add_comm, mul_comm, mul_assoc, mul-pos, mul-le-mul_right, le_trans, le_of_eq, arith, sym, ap, ap₂, ◌∙◌, lit<, ltb-true, ltb-false}
use Rattle.std.specs.Bool.{beq}
use Rattle.std.specs.Float.{nan, inf, fin, Format, binary64}
use Rattle.std.specs.Float.Ieee.{prec, emax, low, round, units, odd, sum, up, down, le, neg, add, sub, of_int}
use Rattle.std.specs.Float.Ieee.Bits.{is_true}
use Rattle.std.specs.Float.Ieee.Fits.{down_pos, round_is}
use Rattle.std.specs.Float.Ieee.Order.{round_mono}
use Rattle.laws.specs.Bools.{never}
use Rattle.fp.specs.Num as Num
use Rattle.fp.specs.Num.{abs, plus, minus, finite, natural, apart}
use Rattle.fp.specs.Ranges.{is_position, is_mass}
use Rattle.fp.specs.Order.{real, le_tells}
use Rattle.fp.specs.Nonneg.{round_nonneg, finite_under}
use Rattle.fp.specs.Inside.{AtMost, size_finite, position_size, mass_size}

-- ---- the size of a sum is its size rounded

abs_odd : (d : ℕ) (s : Bool) (q k l : ℕ) → abs (odd d s q k l) ≡ odd d false q k l
unfolding odd
abs_odd d s zero k l = refl
abs_odd d s (suc q) k l = refl

abs_units : (f : Format) (s : Bool) (q k : ℕ) → abs (units f s q k) ≡ units f false q k
unfolding units
abs_units f s q k = by (nat_lt (q * 2 ^ k) (2 ^ (low f + suc (emax f))))
  where
    by : (b : Bool) → abs (cond b (odd (suc (prec f)) s q k (low f)) (inf s)) ≡ cond b (odd (suc (prec f)) false q k (low f)) (inf false)
    by true = abs_odd (suc (prec f)) s q k (low f)
    by false = refl

pub abs_round : (f : Format) (s : Bool) (a b : ℕ) → abs (round f s a b) ≡ round f false a b
abs_round f s a b = ap abs (round_is f s a b) ∙ abs_units f s _ _ ∙ sym (round_is f false a b)

-- a + b where the signs are like, else the one less the other
abbrev pub size : Bool → ℕ → ℕ → ℕ
size true a b = a + b
size false a b = (a - b) + (b - a)

pub abs_sum : (s : Bool) (a : ℕ) (t : Bool) (b c : ℕ) → abs (sum binary64 s a t b c) ≡ round binary64 false (size (beq s t) a b) c
unfolding sum
abs_sum s a t b c = by (beq s t)
  where
    unlike : (l : Bool) → nat_lt a b ≡ l
        → abs (cond l (round binary64 t (b - a) c) (round binary64 (s && nat_lt b a) (a - b) c)) ≡ round binary64 false ((a - b) + (b - a)) c
    unlike true h =
        let g = ltb-true a b h in
        let e : b - a ≡ (a - b) + (b - a) = omega arith in
        abs_round binary64 t (b - a) c ∙ ap (λ (n : ℕ). round binary64 false n c) e
    unlike false h =
        let g = ltb-false a b h in
        let e : a - b ≡ (a - b) + (b - a) = omega arith in
        abs_round binary64 (s && nat_lt b a) (a - b) c ∙ ap (λ (n : ℕ). round binary64 false n c) e

    by : (l : Bool)
        → abs (cond l (round binary64 s (a + b) c) (cond (nat_lt a b) (round binary64 t (b - a) c) (round binary64 (s && nat_lt b a) (a - b) c)))
        ≡ round binary64 false (size l a b) c
    by true = abs_round binary64 s (a + b) c
    by false = unlike (nat_lt a b) refl

-- ---- the same both ways: each place of the Rust takes its own order

like_comm : (s t : Bool) → beq s (not t) ≡ beq t (not s)
like_comm true true = refl
like_comm true false = refl
like_comm false true = refl
like_comm false false = refl

size_comm : (l : Bool) (a b : ℕ) → size l a b ≡ size l b a
size_comm true a b = add_comm a b
size_comm false a b = add_comm (a - b) (b - a)

pub apart_comm : (x y : Float) → apart x y ≡ apart y x
unfolding apart sub add neg
apart_comm nan nan = refl
apart_comm nan (inf t) = refl
apart_comm nan (fin t n d) = refl
apart_comm (inf s) nan = refl
apart_comm (inf true) (inf true) = refl
apart_comm (inf true) (inf false) = refl
apart_comm (inf false) (inf true) = refl
apart_comm (inf false) (inf false) = refl
apart_comm (inf s) (fin t n d) = refl
apart_comm (fin s m e) nan = refl
apart_comm (fin s m e) (inf t) = refl
apart_comm (fin s m e) (fin t n d) =
    let a = m * up e * down d in
    let b = n * up d * down e in
    abs_sum s a (not t) b (down e * down d)
    ∙ ap₂ (λ (k c : ℕ). round binary64 false k c) (ap (λ (l : Bool). size l a b) (like_comm s t) ∙ size_comm (beq t (not s)) a b)
    (mul_comm (down e) (down d))
    ∙ sym (abs_sum t b (not s) a (down d * down e))

-- ---- at least zero

pub apart_nonneg : (x y : Float) → finite x ≡ true → finite y ≡ true → le Num.zero (apart x y) ≡ true
unfolding apart sub add neg
apart_nonneg nan y p q = never p
apart_nonneg (inf s) y p q = never p
apart_nonneg (fin s m e) nan p q = never q
apart_nonneg (fin s m e) (inf t) p q = never q
apart_nonneg (fin s m e) (fin t n d) p q =
    rw (abs_sum s (m * up e * down d) (not t) (n * up d * down e) (down e * down d)) (round_nonneg _ _ (mul-pos (down_pos e) (down_pos d)))

pub apart_real : (x y : Float) → finite x ≡ true → finite y ≡ true → real (apart x y) ≡ true
apart_real x y p q = let (a, b, l) = le_tells Num.zero (apart x y) (apart_nonneg x y p q) in b

abs_real : (x : Float) → real (abs x) ≡ real x
abs_real nan = refl
abs_real (inf s) = refl
abs_real (fin s m e) = refl

-- a difference and a sum of finite doubles are no NaN
pub minus_real : (x y : Float) → finite x ≡ true → finite y ≡ true → real (minus x y) ≡ true
unfolding apart
minus_real x y p q = sym (abs_real (minus x y)) ∙ apart_real x y p q

pub plus_real : (x y : Float) → finite x ≡ true → finite y ≡ true → real (plus x y) ≡ true
unfolding sub neg
plus_real x nan p q = never q
plus_real x (inf t) p q = never q
plus_real x (fin true n d) p q = minus_real x (fin false n d) p refl
plus_real x (fin false n d) p q = minus_real x (fin true n d) p refl

-- ---- of doubles that are at most k in size

pub size_le : (l : Bool) (a b : ℕ) → size l a b ≤ a + b
size_le true a b = omega arith
size_le false a b = omega arith

pub apart_le : (k : ℕ) (x y : Float) → AtMost k x → AtMost k y → le (apart x y) (natural (2 * k)) ≡ true
unfolding apart sub add neg of_int
apart_le k nan y p q = absurd p
apart_le k (inf s) y p q = absurd p
apart_le k (fin s m e) nan p q = absurd q
apart_le k (fin s m e) (inf t) p q = absurd q
apart_le k (fin s m e) (fin t n d) p q =
    let a = m * up e * down d in
    let b = n * up d * down e in
    let c = down e * down d in
    let h : a ≤ k * c = le_trans (mul-le-mul_right (down d) p) (le_of_eq (mul_assoc k (down e) (down d))) in
    let g : b ≤ k * c =
    le_trans (mul-le-mul_right (down e) q)
    (le_of_eq (mul_assoc k (down d) (down e) ∙ ap (λ (j : ℕ). k * j) (mul_comm (down d) (down e)))) in
    rw (abs_sum s a (not t) b c)
    (is_true _
    (round_mono binary64 (size (beq s (not t)) a b) c (2 * k) 1 (mul-pos (down_pos e) (down_pos d)) (lit< tt)
    (omega (arith, size_le (beq s (not t)) a b, mul_assoc 2 k c))))

size_far : (k : ℕ) (x y : Float) → AtMost k x → AtMost k y → finite (natural (2 * k)) ≡ true → finite (apart x y) ≡ true
size_far k x y p q f =
    finite_under (apart x y) (natural (2 * k)) (apart_nonneg x y (size_finite k x p) (size_finite k y q)) (apart_le k x y p q) f

two_million : finite (natural 2_000_000) ≡ true
unfolding of_int
two_million = refl

two_billion : finite (natural 2_000_000_000) ≡ true
unfolding of_int
two_billion = refl

-- between a sheet's positions
pub apart_finite : (x y : Float) → is_position x ≡ true → is_position y ≡ true → finite (apart x y) ≡ true
apart_finite x y p q = size_far 1_000_000 x y (position_size x p) (position_size y q) two_million

abs_finite : (x : Float) → finite (abs x) ≡ finite x
abs_finite nan = refl
abs_finite (inf s) = refl
abs_finite (fin s m e) = refl

-- what a car has room for: its capacity less its load
pub room_finite : (capacity load : Float) → is_mass capacity ≡ true → is_mass load ≡ true → finite (minus capacity load) ≡ true
unfolding apart
room_finite c l p q =
    sym (abs_finite (minus c l)) ∙ size_far 1_000_000_000 c l (mass_size c p) (mass_size l q) two_billion
