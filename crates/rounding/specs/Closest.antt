-- The whole number closest to a fraction, a tie going to the even one (`closest` of the logic's library): by whole part and rest, of a number that
-- was cut and made odd, and how far it is from the fraction. Assumes nothing.
use Rattle.std.specs.Prelude.{◌≡◌, refl, ◌⊎◌, not, T, eqb}
use Rattle.std.proofs.Common.{sym, ap, ◌∙◌, subst, inl, inr, le_trans, le_of_eq, le_antisymm, lt_of_lt_of_le, mul_assoc, mul_left_comm, add-mul, suc-mul, mul-le-mul_right, mul-lt-mul_of_pos_right, div-add-mod', mod-lt, one-mul, add-zero, arith, leb→le, eqb→eq, pow-add, pow_pos}
use Prim.Native.Nat.{ℕ, zero, suc, ◌+◌, ◌-◌, ◌*◌, ◌/◌, ◌%◌, ◌^◌, ◌≤◌, ◌<◌, compare, Ordering}
use Rattle.std.proofs.Math.Dec.{is_le, compare_is_eq, eqb_refl, nleb→lt}
use Rattle.std.proofs.Math.Arith.{digits_div, digits_mod}
use Rattle.std.specs.Float.Ieee.{nearest}
use Rattle.std.specs.Float.Ieee.Nearest.{closest, closest_mono, closest_same}
use Rattle.laws.specs.Bools.{less?}

-- one more multiple of u
pub up_one : (x y u : ℕ) → x < y → x * u + u ≤ y * u
up_one x y u g = le_trans (le_of_eq (sym (suc-mul x u))) (mul-le-mul_right u g)

-- ---- what `compare` says

pub cmp_lt : (a b : ℕ) → a < b → compare a b ≡ Ordering.lt
cmp_lt a b h = go (compare a b) (nleb→lt a b) (eqb→eq a b)
  where
    no : a ≡ b → ⊥
    no e = omega arith

    no_gt : b < a → ⊥
    no_gt k = omega arith

    go : (o : Ordering) → (T (not (is_le o)) → b < a) → (T (compare_is_eq o) → a ≡ b) → o ≡ Ordering.lt
    go Ordering.lt k e = refl
    go Ordering.eq k e = absurd (no (e tt))
    go Ordering.gt k e = absurd (no_gt (k tt))

pub cmp_gt : (a b : ℕ) → b < a → compare a b ≡ Ordering.gt
cmp_gt a b h = go (compare a b) (leb→le a b)
  where
    no : a ≤ b → ⊥
    no k = omega arith

    go : (o : Ordering) → (T (is_le o) → a ≤ b) → o ≡ Ordering.gt
    go Ordering.lt k = absurd (no (k tt))
    go Ordering.eq k = absurd (no (k tt))
    go Ordering.gt k = refl

pub cmp_eq : (a b : ℕ) → a ≡ b → compare a b ≡ Ordering.eq
cmp_eq a b e = go (compare a b) (subst (λ (x : ℕ). T (eqb a x)) e (eqb_refl a))
  where
    go : (o : Ordering) → T (compare_is_eq o) → o ≡ Ordering.eq
    go Ordering.lt t = absurd t
    go Ordering.eq t = refl
    go Ordering.gt t = absurd t

-- ---- the nearest whole number, by whole part and rest

closest_at : (w m r : ℕ) → r < m → closest (w * m + r) m ≡ nearest w (compare (r * 2) m)
closest_at w m r h =
    ap (λ (x : ℕ). nearest x (compare ((w * m + r) % m * 2) m)) (digits_div w h) ∙ ap (λ (x : ℕ). nearest w (compare (x * 2) m)) (digits_mod w h)

-- ρ units and what lies within one unit of it, on the same side of 2 * h units
side : (w h u ρ ν : ℕ) → 0 < u → ρ < 4 * h → ρ % 2 ≡ 1 → ρ * u < ν + u → ν < ρ * u + u
    → closest (w * (4 * h * u) + ν) (4 * h * u) ≡ closest (w * (4 * h * u) + ρ * u) (4 * h * u)
side w h u ρ ν U k o a b =
    closest_at w (4 * h * u) ν in_ν
    ∙ ap (nearest w) (sides (less? ρ (2 * h)))
    ∙ sym (closest_at w (4 * h * u) (ρ * u) in_ρ)
  where
    in_ρ : ρ * u < 4 * h * u
    in_ρ = mul-lt-mul_of_pos_right k U

    in_ν : ν < 4 * h * u
    in_ν = lt_of_lt_of_le b (up_one ρ (4 * h) u k)

    sides : (ρ < 2 * h) ⊎ (2 * h ≤ ρ) → compare (ν * 2) (4 * h * u) ≡ compare (ρ * u * 2) (4 * h * u)
    sides (inl g) =
        let e : ρ * u + u ≤ 2 * (h * u) = le_trans (up_one ρ (2 * h) u g) (le_of_eq (mul_assoc 2 h u)) in
        let f : 4 * h * u ≡ 4 * (h * u) = mul_assoc 4 h u in
        cmp_lt (ν * 2) (4 * h * u) (omega arith) ∙ sym (cmp_lt (ρ * u * 2) (4 * h * u) (omega arith))
    sides (inr g) =
        let e : 2 * (h * u) + u ≤ ρ * u = le_trans (le_of_eq (ap (λ (z : ℕ). z + u) (sym (mul_assoc 2 h u)))) (up_one (2 * h) ρ u (omega arith)) in
        let f : 4 * h * u ≡ 4 * (h * u) = mul_assoc 4 h u in
        cmp_gt (ν * 2) (4 * h * u) (omega arith) ∙ sym (cmp_gt (ρ * u * 2) (4 * h * u) (omega arith))

-- R units, R odd, and a number within one unit of it
pub closest_near : (N R h u : ℕ) → 0 < u → 0 < h → R % 2 ≡ 1 → R * u < N + u → N < R * u + u → closest N (4 * h * u) ≡ closest (R * u) (4 * h * u)
closest_near N R h u U H o a b =
    let w = R / (4 * h) in
    let ρ = R % (4 * h) in
    let m = 4 * h * u in
    let hp : 0 < 4 * h = omega arith in
    let lt : ρ < 4 * h = mod-lt R hp in
    let e : w * (4 * h) + ρ ≡ R = div-add-mod' R (4 * h) in
    let e4 : w * (4 * h) ≡ 4 * (w * h) = mul_left_comm w 4 h in
    let od : ρ % 2 ≡ 1 = omega arith in
    let Ru : R * u ≡ w * m + ρ * u = ap (λ (z : ℕ). z * u) (sym e) ∙ add-mul (w * (4 * h)) ρ u ∙ ap (λ (z : ℕ). z + ρ * u) (mul_assoc w (4 * h) u) in
    let one : u ≤ ρ * u = le_trans (le_of_eq (sym (one-mul u))) (mul-le-mul_right u (od_pos ρ od)) in
    let ν = N - w * m in
    let Nv : w * m + ν ≡ N = omega arith in
    ap (λ (z : ℕ). closest z m) (sym Nv)
    ∙ side w h u ρ ν U lt od (omega arith) (omega arith)
    ∙ ap (λ (z : ℕ). closest z m) (sym Ru)
  where
    od_pos : (x : ℕ) → x % 2 ≡ 1 → 1 ≤ x
    od_pos x e = omega arith

-- ---- of a whole number, and of one between two

pub closest_whole : (x m : ℕ) → 0 < m → closest (x * m) m ≡ x
closest_whole x m h = ap (λ (z : ℕ). closest z m) (sym (add-zero (x * m))) ∙ closest_at x m 0 h ∙ ap (nearest x) (cmp_lt 0 m h)

pub closest_upper : (N x m : ℕ) → 0 < m → N ≤ x * m → closest N m ≤ x
closest_upper N x m h k = le_trans (closest_mono N m (x * m) m h h (mul-le-mul_right m k)) (le_of_eq (closest_whole x m h))

pub closest_lower : (N x m : ℕ) → 0 < m → x * m ≤ N → x ≤ closest N m
closest_lower N x m h k = le_trans (le_of_eq (sym (closest_whole x m h))) (closest_mono (x * m) m N m h h (mul-le-mul_right m k))

-- the two ways to it: digits are cut off, or none are
pub closest_cut : (w r U : ℕ) → r ≤ U → closest (w * 2 ^ r) (2 ^ U) ≡ closest w (2 ^ (U - r))
closest_cut w r U h =
    closest_same (w * 2 ^ r) (2 ^ U) w (2 ^ (U - r)) (pow_pos U) (pow_pos (U - r))
    (mul_assoc w (2 ^ r) (2 ^ (U - r)) ∙ ap (λ (z : ℕ). w * z) (sym (pow-add 2 r (U - r)) ∙ ap (λ (z : ℕ). 2 ^ z) (fill r U h)))
  where
    fill : (r U : ℕ) → r ≤ U → r + (U - r) ≡ U
    fill r U h = omega arith

pub closest_full : (w r U : ℕ) → U ≤ r → closest (w * 2 ^ r) (2 ^ U) ≡ w * 2 ^ (r - U)
closest_full w r U h =
    ap (λ (z : ℕ). closest z (2 ^ U)) (ap (λ (z : ℕ). w * 2 ^ z) (fill r U h) ∙ ap (λ (z : ℕ). w * z) (pow-add 2 (r - U) U)
    ∙ sym (mul_assoc w (2 ^ (r - U)) (2 ^ U))) ∙ closest_whole (w * 2 ^ (r - U)) (2 ^ U) (pow_pos U)
  where
    fill : (r U : ℕ) → U ≤ r → r ≡ r - U + U
    fill r U h = omega arith

-- ---- how far it is from the fraction

-- the distance of two numbers
abbrev pub distance : ℕ → ℕ → ℕ
distance a b = a - b + (b - a)

-- q times m is at most half of m away from N, and where it is just that, q is even
pub record Close (N m q : ℕ) : Type 0 where
  pub half : 2 * distance (q * m) N ≤ m
  pub tie : 2 * distance (q * m) N ≡ m → q % 2 ≡ 0

close_down : (N w m r : ℕ) → w * m + r ≡ N → r * 2 < m → Close N m w
close_down N w m r e h = record { half = omega arith; tie = λ (t : 2 * (w * m - N + (N - w * m)) ≡ m). absurd (omega arith) }

close_tie : (N w m r : ℕ) → w * m + r ≡ N → r * 2 ≡ m → Close N m (w + w % 2)
close_tie N w m r e h = go (w % 2) refl
  where
    go : (b : ℕ) → w % 2 ≡ b → Close N m (w + w % 2)
    go zero g =
        let i : w + w % 2 ≡ w = omega arith in
        let d : (w + w % 2) * m ≡ w * m = ap (λ (z : ℕ). z * m) i in
        record { half = omega arith; tie = λ (t : 2 * ((w + w % 2) * m - N + (N - (w + w % 2) * m)) ≡ m). omega arith }
    go (suc b) g =
        let i : w + w % 2 ≡ suc w = omega arith in
        let d : (w + w % 2) * m ≡ w * m + m = ap (λ (z : ℕ). z * m) i ∙ suc-mul w m in
        record { half = omega arith; tie = λ (t : 2 * ((w + w % 2) * m - N + (N - (w + w % 2) * m)) ≡ m). omega arith }

close_up : (N w m r : ℕ) → w * m + r ≡ N → r < m → m < r * 2 → Close N m (suc w)
close_up N w m r e l h =
    let d : suc w * m ≡ w * m + m = suc-mul w m in
    record { half = omega arith; tie = λ (t : 2 * (suc w * m - N + (N - suc w * m)) ≡ m). absurd (omega arith) }

pub close : (N m : ℕ) → 0 < m → Close N m (closest N m)
close N m h = go (less? (N % m * 2) m) (less? m (N % m * 2))
  where
    go : (N % m * 2 < m) ⊎ (m ≤ N % m * 2) → (m < N % m * 2) ⊎ (N % m * 2 ≤ m) → Close N m (closest N m)
    go (inl l) g =
        subst (λ (q : ℕ). Close N m q) (sym (ap (nearest (N / m)) (cmp_lt (N % m * 2) m l)))
        (close_down N (N / m) m (N % m) (div-add-mod' N m) l)
    go (inr l) (inl g) =
        subst (λ (q : ℕ). Close N m q) (sym (ap (nearest (N / m)) (cmp_gt (N % m * 2) m g)))
        (close_up N (N / m) m (N % m) (div-add-mod' N m) (mod-lt N h) g)
    go (inr l) (inr g) =
        subst (λ (q : ℕ). Close N m q) (sym (ap (nearest (N / m)) (cmp_eq (N % m * 2) m (le_antisymm g l))))
        (close_tie N (N / m) m (N % m) (div-add-mod' N m) (le_antisymm g l))

-- no multiple of m is closer
below_least : (Q J N m : ℕ) → 2 * distance Q N ≤ m → J + m ≤ Q → distance Q N ≤ distance J N
below_least Q J N m h g = omega arith

above_least : (Q J N m : ℕ) → 2 * distance Q N ≤ m → Q + m ≤ J → distance Q N ≤ distance J N
above_least Q J N m h g = omega arith

pub close_least : (N m q j : ℕ) → Close N m q → distance (q * m) N ≤ distance (j * m) N
close_least N m q j c = go (less? j q) (less? q j)
  where
    go : (j < q) ⊎ (q ≤ j) → (q < j) ⊎ (j ≤ q) → distance (q * m) N ≤ distance (j * m) N
    go (inl l) g = below_least (q * m) (j * m) N m c.half (up_one j q m l)
    go (inr l) (inl g) = above_least (q * m) (j * m) N m c.half (up_one q j m g)
    go (inr l) (inr g) = le_of_eq (ap (λ (z : ℕ). distance (z * m) N) (le_antisymm l g))

-- and where another is as close, q is even
below_half : (Q J N m : ℕ) → 2 * distance Q N ≤ m → J + m ≤ Q → distance Q N ≡ distance J N → 2 * distance Q N ≡ m
below_half Q J N m h g e = omega arith

above_half : (Q J N m : ℕ) → 2 * distance Q N ≤ m → Q + m ≤ J → distance Q N ≡ distance J N → 2 * distance Q N ≡ m
above_half Q J N m h g e = omega arith

pub close_even : (N m q j : ℕ) → Close N m q → distance (q * m) N ≡ distance (j * m) N → (q ≡ j → ⊥) → q % 2 ≡ 0
close_even N m q j c e n = go (less? j q) (less? q j)
  where
    go : (j < q) ⊎ (q ≤ j) → (q < j) ⊎ (j ≤ q) → q % 2 ≡ 0
    go (inl l) g = c.tie (below_half (q * m) (j * m) N m c.half (up_one j q m l) e)
    go (inr l) (inl g) = c.tie (above_half (q * m) (j * m) N m c.half (up_one q j m g) e)
    go (inr l) (inr g) = absurd (n (le_antisymm l g))
