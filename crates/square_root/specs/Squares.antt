-- Squares of whole numbers, and the whole part of a root. Nothing here is about doubles. Assumes nothing.
use Rattle.std.specs.Prelude.{ℕ, zero, suc, ◌+◌, ◌*◌, ◌/◌, ◌^◌, ◌≤◌, ◌<◌, ◌≡◌, refl, Bool, true, false, not, cond, T, leb}
use Rattle.std.proofs.Common.{le_trans, le_of_eq, le_of_lt, lt_of_lt_of_le, lt_of_le_of_lt, lt_of_not-le, not-le_of_lt, mul-add, add-mul, mul_comm, mul-le-mul, mul-le-mul_right, mul-lt-mul_of_pos_right, mul-pos, arith, sym, leb→le}
use Rattle.std.proofs.Math.Nat.{mul-mul-mul_comm, div-eq_of_lt-le, pow-succ'}
use Rattle.std.proofs.Math.Dec.{nleb→lt}
use Rattle.std.specs.Float.Ieee.{size}
use Rattle.std.specs.Float.Ieee.Digits.{size-lt}
use Rattle.square_root.specs.SquareRoot.{one_more, whole_in, whole_root}
use Rattle.square_root.specs.Steps.{Rooted}

-- ---- squares

pub square_odd : (p : ℕ) → (2 * p + 1) * (2 * p + 1) ≡ 4 * (p * p) + 4 * p + 1
square_odd p =
    let a : (2 * p + 1) * (2 * p + 1) ≡ 2 * p * (2 * p + 1) + 1 * (2 * p + 1) = add-mul (2 * p) 1 (2 * p + 1) in
    let b : 2 * p * (2 * p + 1) ≡ 2 * p * (2 * p) + 2 * p * 1 = mul-add (2 * p) (2 * p) 1 in
    let e : 2 * p * (2 * p) ≡ 4 * (p * p) = mul-mul-mul_comm 2 p 2 p in
    omega arith

pub square_even : (p : ℕ) → 2 * p * (2 * p) ≡ 4 * (p * p)
square_even p = mul-mul-mul_comm 2 p 2 p

pub square_next : (p : ℕ) → (p + 1) * (p + 1) ≡ p * p + 2 * p + 1
square_next p =
    let a : (p + 1) * (p + 1) ≡ p * (p + 1) + 1 * (p + 1) = add-mul p 1 (p + 1) in
    let b : p * (p + 1) ≡ p * p + p * 1 = mul-add p p 1 in
    omega arith

-- they keep the order, both ways
pub square_lt : (a b : ℕ) → a < b → a * a < b * b
square_lt a b h =
    lt_of_le_of_lt (mul-le-mul (le_of_lt h) (le_of_eq refl))
    (lt_of_le_of_lt (le_of_eq (mul_comm b a)) (mul-lt-mul_of_pos_right h (some a b h)))
  where
    some : (a b : ℕ) → a < b → 0 < b
    some a b h = omega arith

pub square_lt_back : (a b : ℕ) → a * a < b * b → a < b
square_lt_back a b h = lt_of_not-le (λ (g : b ≤ a). not-le_of_lt h (mul-le-mul g g))

-- ---- the whole part of a root

-- r is the whole part of the root of n
abbrev pub Whole : ℕ → ℕ → Type 0
Whole n r = (r * r ≤ n) × (n < (r + 1) * (r + 1))

with_digit : (n r : ℕ) → Whole (n / 4) r → Whole n (one_more n r)
with_digit n r w = go (leb ((2 * r + 1) * (2 * r + 1)) n) (leb→le ((2 * r + 1) * (2 * r + 1)) n) (nleb→lt ((2 * r + 1) * (2 * r + 1)) n)
  where
    go : (b : Bool) → (T b → (2 * r + 1) * (2 * r + 1) ≤ n) → (T (not b) → n < (2 * r + 1) * (2 * r + 1)) → Whole n (cond b (2 * r + 1) (2 * r))
    go true h k = (h tt, omega (arith, square_next (2 * r + 1), square_odd r, square_next r))
    go false h k = (omega (arith, square_even r), k tt)

whole_in_lem : (d n : ℕ) → n < 2 ^ d → Whole n (whole_in d n)
unfolding whole_in
whole_in_lem zero n h = (omega arith, omega arith)
whole_in_lem (suc d) n h =
    let k : 2 ^ suc d ≡ 2 * 2 ^ d = pow-succ' 2 d in
    let l : n / 4 < 2 ^ d = omega arith in
    with_digit n (whole_in d (n / 4)) (whole_in_lem d (n / 4) l)

pub whole_root_lem : (n : ℕ) → Whole n (whole_root n)
unfolding whole_root
whole_root_lem n = whole_in_lem (size n) n (size-lt n)

pub rooted_whole : (n q r : ℕ) → Rooted n q r → Whole n q
rooted_whole n q r h = let a = h.sum in let b = h.few in (omega arith, omega (arith, square_next q))

-- of x * u * u the root's whole part, cut by u, is the whole part of x's root
pub whole_scaled : (x u q r : ℕ) → 0 < u → Whole x q → Whole (x * (u * u)) r → r / u ≡ q
whole_scaled x u q r U v w =
    let a : q * u * (q * u) ≤ x * (u * u) = le_trans (le_of_eq (mul-mul-mul_comm q u q u)) (mul-le-mul_right (u * u) v.0) in
    let b : x * (u * u) < (q + 1) * u * ((q + 1) * u) =
    lt_of_lt_of_le (mul-lt-mul_of_pos_right v.1 (mul-pos U U)) (le_of_eq (sym (mul-mul-mul_comm (q + 1) u (q + 1) u))) in
    let l : q * u < r + 1 = square_lt_back (q * u) (r + 1) (lt_of_le_of_lt a w.1) in
    let h : r < (q + 1) * u = square_lt_back r ((q + 1) * u) (lt_of_le_of_lt w.0 b) in
    div-eq_of_lt-le u (omega arith) h
