-- Numbers that are cut and made odd ("jammed"): how the cut goes with sums, with scale, and with another cut. Assumes nothing.
use Rattle.std.specs.Prelude.{◌≡◌, refl, ◌⊎◌, ℕ, zero, suc, ◌+◌, ◌-◌, ◌*◌, ◌%◌, ◌^◌, ◌≤◌, ◌<◌, Bool, not, ◌&&◌, ltb}
use Rattle.std.proofs.Common.{sym, ap, ◌∙◌, inl, inr, mul_comm, mul_assoc, add-mul, mul-lt-mul_of_pos_right, lt_of_mul-lt-mul_right, one-mul, mul-one, arith, pow_pos, lt-ltb}
use Rattle.std.proofs.Math.Nat.{pow-succ', eq_of_mul-eq-mul_right}
use Rattle.std.specs.Float.{Format}
use Rattle.std.specs.Float.Ieee.{prec, low, round, sum}
use Rattle.laws.specs.Bools.{less?}
use Rattle.rounding.specs.Closest.{up_one}
use Rattle.rounding.specs.Sums.{sum_plus, sum_less, sum_more, signs, sum_turn, mul_sub_right}
use Rattle.rounding.specs.Sticky.{Near, Room, near_round}

-- ---- a sum, one term exact and even

-- the format's unit is far above 2 ^ r, whatever the signs
abbrev pub Clear : Format → ℕ → ℕ → ℕ → Type 0
Clear f r X R = (r + 2 ≤ low f) ⊎ (2 ^ (prec f + 1) + R ≤ X)

module _ (f : Format) (X R r B : ℕ) (even : X % 2 ≡ 0) (o : R % 2 ≡ 1) (a : R * 2 ^ r < B + 2 ^ r) (b : B < R * 2 ^ r + 2 ^ r) where
  cut_sum : (s t : Bool) → Clear f r X R → sum f s (X * 2 ^ r) t B (2 ^ (low f + low f)) ≡ sum f s (X * 2 ^ r) t (R * 2 ^ r) (2 ^ (low f + low f))
  cut_sum s t c = go (signs s t)
    where
      room_plus : Clear f r X R → Room f r (X + R)
      room_plus (inl h) = inl h
      room_plus (inr h) = inr (omega arith)

      room_more : Clear f r X R → Room f r (X - R)
      room_more (inl h) = inl h
      room_more (inr h) = inr (omega arith)

      room_less : X < R → Clear f r X R → Room f r (R - X)
      room_less g (inl h) = inl h
      room_less g (inr h) = absurd (omega arith)

      apart : (X < R) ⊎ (R ≤ X) → sum f s (X * 2 ^ r) (not s) B (2 ^ (low f + low f)) ≡ sum f s (X * 2 ^ r) (not s) (R * 2 ^ r) (2 ^ (low f + low f))
      apart (inl g) =
          let h : X * 2 ^ r + 2 ^ r ≤ R * 2 ^ r = up_one X R (2 ^ r) g in
          let d : (R - X) * 2 ^ r ≡ R * 2 ^ r - X * 2 ^ r = mul_sub_right R X (2 ^ r) in
          let p : 0 < 2 ^ r = pow_pos r in
          sum_less f s (X * 2 ^ r) B (2 ^ (low f + low f)) (omega arith)
          ∙ near_round f (not s) (B - X * 2 ^ r) (R - X) r (inr (omega arith, omega arith, omega arith)) (room_less g c)
          ∙ ap (λ (n : ℕ). round f (not s) n (2 ^ (low f + low f))) d
          ∙ sym (sum_less f s (X * 2 ^ r) (R * 2 ^ r) (2 ^ (low f + low f)) (omega arith))
      apart (inr g) =
          let h : R * 2 ^ r + 2 ^ r ≤ X * 2 ^ r = up_one R X (2 ^ r) (omega arith) in
          let d : (X - R) * 2 ^ r ≡ X * 2 ^ r - R * 2 ^ r = mul_sub_right X R (2 ^ r) in
          let p : 0 < 2 ^ r = pow_pos r in
          let y : ltb B (X * 2 ^ r) ≡ ltb (R * 2 ^ r) (X * 2 ^ r) =
          lt-ltb B (X * 2 ^ r) (omega arith) ∙ sym (lt-ltb (R * 2 ^ r) (X * 2 ^ r) (omega arith)) in
          sum_more f s (X * 2 ^ r) B (2 ^ (low f + low f)) (omega arith)
          ∙ ap (λ (w : Bool). round f (s && w) (X * 2 ^ r - B) (2 ^ (low f + low f))) y
          ∙ near_round f (s && ltb (R * 2 ^ r) (X * 2 ^ r)) (X * 2 ^ r - B) (X - R) r (inr (omega arith, omega arith, omega arith)) (room_more c)
          ∙ ap (λ (n : ℕ). round f (s && ltb (R * 2 ^ r) (X * 2 ^ r)) n (2 ^ (low f + low f))) d
          ∙ sym (sum_more f s (X * 2 ^ r) (R * 2 ^ r) (2 ^ (low f + low f)) (omega arith))

      go : (t ≡ s) ⊎ (t ≡ not s) → sum f s (X * 2 ^ r) t B (2 ^ (low f + low f)) ≡ sum f s (X * 2 ^ r) t (R * 2 ^ r) (2 ^ (low f + low f))
      go (inl e) =
          let d : (X + R) * 2 ^ r ≡ X * 2 ^ r + R * 2 ^ r = add-mul X R (2 ^ r) in
          ap (λ (w : Bool). sum f s (X * 2 ^ r) w B (2 ^ (low f + low f))) e
          ∙ sum_plus f s (X * 2 ^ r) B (2 ^ (low f + low f))
          ∙ near_round f s (X * 2 ^ r + B) (X + R) r (inr (omega arith, omega arith, omega arith)) (room_plus c)
          ∙ ap (λ (n : ℕ). round f s n (2 ^ (low f + low f))) d
          ∙ sym (ap (λ (w : Bool). sum f s (X * 2 ^ r) w (R * 2 ^ r) (2 ^ (low f + low f))) e
          ∙ sum_plus f s (X * 2 ^ r) (R * 2 ^ r) (2 ^ (low f + low f)))
      go (inr e) =
          ap (λ (w : Bool). sum f s (X * 2 ^ r) w B (2 ^ (low f + low f))) e ∙ apart (less? X R)
          ∙ sym (ap (λ (w : Bool). sum f s (X * 2 ^ r) w (R * 2 ^ r) (2 ^ (low f + low f))) e)

-- the second term is cut
pub near_sum : (f : Format) (s t : Bool) (X R r B : ℕ) → X % 2 ≡ 0 → Near B (2 ^ r) R → Clear f r X R
    → sum f s (X * 2 ^ r) t B (2 ^ (low f + low f)) ≡ sum f s (X * 2 ^ r) t (R * 2 ^ r) (2 ^ (low f + low f))
near_sum f s t X R r B even (inl e) c = ap (λ (z : ℕ). sum f s (X * 2 ^ r) t z (2 ^ (low f + low f))) e
near_sum f s t X R r B even (inr n) c = cut_sum f X R r B even n.0 n.1 n.2 s t c

-- the first term is cut
pub near_sum_first : (f : Format) (s t : Bool) (X R r B : ℕ) → X % 2 ≡ 0 → Near B (2 ^ r) R → Clear f r X R
    → sum f s B t (X * 2 ^ r) (2 ^ (low f + low f)) ≡ sum f s (R * 2 ^ r) t (X * 2 ^ r) (2 ^ (low f + low f))
near_sum_first f s t X R r B even n c =
    sum_turn f s t B (X * 2 ^ r) (2 ^ (low f + low f)) ∙ near_sum f t s X R r B even n c
    ∙ sum_turn f t s (X * 2 ^ r) (R * 2 ^ r) (2 ^ (low f + low f))

-- ---- a cut, by whole part

pub jam_near : (x q u : ℕ) → q * u < x → x < q * u + u → Near x u (q + (1 - q % 2))
jam_near x q u h k = go (q % 2) refl
  where
    go : (m : ℕ) → q % 2 ≡ m → Near x u (q + (1 - q % 2))
    go zero e =
        let d : (q + (1 - q % 2)) * u ≡ q * u + u = ap (λ (z : ℕ). (q + (1 - z)) * u) e ∙ add-mul q 1 u ∙ ap (λ (z : ℕ). q * u + z) (one-mul u) in
        inr (omega arith, omega arith, omega arith)
    go (suc m) e =
        let i : q + (1 - q % 2) ≡ q = omega arith in
        let d : (q + (1 - q % 2)) * u ≡ q * u = ap (λ (z : ℕ). z * u) i in
        inr (omega arith, omega arith, omega arith)

-- ---- scale, and a cut of what was cut

pub near_scale : (N u R v : ℕ) → 0 < v → Near N u R → Near (N * v) (u * v) R
near_scale N u R v vp (inl e) = inl (ap (λ (z : ℕ). z * v) e ∙ mul_assoc R u v)
near_scale N u R v vp (inr n) =
    let e : R * u * v ≡ R * (u * v) = mul_assoc R u v in
    let g : R * u * v < (N + u) * v = mul-lt-mul_of_pos_right n.1 vp in
    let h : N * v < (R * u + u) * v = mul-lt-mul_of_pos_right n.2 vp in
    let i : (N + u) * v ≡ N * v + u * v = add-mul N u v in
    let j : (R * u + u) * v ≡ R * u * v + u * v = add-mul (R * u) u v in
    inr (n.0, omega arith, omega arith)

pub near_trans : (N u R k S : ℕ) → 0 < u → Near N u R → Near R (2 ^ k) S → Near N (2 ^ k * u) S
near_trans N u R k S U (inl e) (inl g) = inl (e ∙ ap (λ (z : ℕ). z * u) g ∙ mul_assoc S (2 ^ k) u)
near_trans N u R zero S U (inr n) (inl g) =
    let i : R ≡ S = g ∙ mul-one S in
    rw (← i, one-mul) (inr n)
near_trans N u R (suc k) S U (inr n) (inl g) =
    let p : 2 ^ suc k ≡ 2 * 2 ^ k = pow-succ' 2 k in
    let i : R ≡ S * 2 ^ k * 2 = g ∙ ap (λ (z : ℕ). S * z) (p ∙ mul_comm 2 (2 ^ k)) ∙ sym (mul_assoc S (2 ^ k) 2) in
    let o = n.0 in
    absurd (omega arith)
near_trans N u R k S U (inl e) (inr m) =
    let v = 2 ^ k in
    let g : S * v * u < (R + v) * u = mul-lt-mul_of_pos_right m.1 U in
    let h : R * u < (S * v + v) * u = mul-lt-mul_of_pos_right m.2 U in
    let a : S * v * u ≡ S * (v * u) = mul_assoc S v u in
    let b : (R + v) * u ≡ R * u + v * u = add-mul R v u in
    let c : (S * v + v) * u ≡ S * v * u + v * u = add-mul (S * v) v u in
    inr (m.0, omega arith, omega arith)
near_trans N u R k S U (inr n) (inr m) =
    let v = 2 ^ k in
    let g : S * v * u + u ≤ (R + v) * u = up_one (S * v) (R + v) u m.1 in
    let h : R * u + u ≤ (S * v + v) * u = up_one R (S * v + v) u m.2 in
    let a : S * v * u ≡ S * (v * u) = mul_assoc S v u in
    let b : (R + v) * u ≡ R * u + v * u = add-mul R v u in
    let c : (S * v + v) * u ≡ S * v * u + v * u = add-mul (S * v) v u in
    let x = n.1 in
    let y = n.2 in
    inr (m.0, omega arith, omega arith)

pub near_unscale : (N u R v : ℕ) → 0 < v → Near (N * v) (u * v) R → Near N u R
near_unscale N u R v vp (inl e) = inl (eq_of_mul-eq-mul_right v vp N (R * u) (e ∙ sym (mul_assoc R u v)))
near_unscale N u R v vp (inr n) =
    let e : R * u * v ≡ R * (u * v) = mul_assoc R u v in
    let i : (N + u) * v ≡ N * v + u * v = add-mul N u v in
    let j : (R * u + u) * v ≡ R * u * v + u * v = add-mul (R * u) u v in
    let x = n.1 in
    let y = n.2 in
    let g : R * u * v < (N + u) * v = omega arith in
    let h : N * v < (R * u + u) * v = omega arith in
    inr (n.0, lt_of_mul-lt-mul_right v g, lt_of_mul-lt-mul_right v h)
