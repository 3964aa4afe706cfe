-- A number of at most 53 digits, moved up to 53, over an even power of two. Assumes nothing.
use Rattle.std.specs.Prelude.{ℕ, suc, ◌+◌, ◌-◌, ◌*◌, ◌/◌, ◌%◌, ◌^◌, ◌≤◌, ◌<◌, ◌≡◌, ◌⊎◌}
use Rattle.std.proofs.Common.{le_trans, le_of_eq, lt_of_lt_of_le, lt_of_not-le, lt_irrefl, mul_comm, mul_assoc, mul_right_comm, mul-le-mul_right, mod-eq_of_lt, arith, sym, ap, ◌∙◌, subst, inl, inr, lit≤, pow-add, pow_mono, shl_lt}
use Rattle.std.proofs.Math.Nat.{pow-succ'}
use Rattle.std.specs.Int.Count.{count_leading_zeros}
use Rattle.std.proofs.lemmas.Nat.{leading_top}
use Rattle.laws.specs.Bools.{same?}
use Rattle.fp.specs.Fields.{field_one}
use Rattle.square_root.specs.Steps.{Evened}

-- ---- the parity of the power

pub even_power : (d k : ℕ) → k % 2 ≡ 0 → d * 2 ^ k ≡ d * (2 ^ (k / 2) * 2 ^ (k / 2))
even_power d k e = let s : k ≡ k / 2 + k / 2 = omega arith in ap (λ (x : ℕ). d * x) (ap (λ (n : ℕ). 2 ^ n) s ∙ pow-add 2 (k / 2) (k / 2))

pub odd_power : (d k : ℕ) → (k % 2 ≡ 0 → ⊥) → d * 2 ^ k ≡ 2 * d * (2 ^ (k / 2) * 2 ^ (k / 2))
odd_power d k e =
    let s : k ≡ suc (k / 2 + k / 2) = omega arith in
    ap (λ (x : ℕ). d * x) (ap (λ (n : ℕ). 2 ^ n) s ∙ pow-succ' 2 (k / 2 + k / 2) ∙ ap (λ (x : ℕ). 2 * x) (pow-add 2 (k / 2) (k / 2)))
    ∙ sym (mul_assoc d 2 (2 ^ (k / 2) * 2 ^ (k / 2)))
    ∙ ap (λ (x : ℕ). x * (2 ^ (k / 2) * 2 ^ (k / 2))) (mul_comm d 2)

-- every d of 53 digits over a power can be written so
evened : (d k : ℕ) → field_one ≤ d → d < 2 * field_one → k < 2099 → (e : ℕ) × (h : ℕ) × Evened d k e h
evened d k lo hi l = go (same? (k % 2) 0)
  where
    go : (k % 2 ≡ 0) ⊎ (k % 2 ≡ 0 → ⊥) → (e : ℕ) × (h : ℕ) × Evened d k e h
    go (inl e) = (d, k / 2, record { value = even_power d k e; least = lo; most = omega arith; half = omega arith })
    go (inr n) = (2 * d, k / 2, record { value = odd_power d k n; least = omega arith; most = omega arith; half = omega arith })

-- ---- moved up by its leading zeros z, of 64: z - 11 places

pub record Spread (t z : ℕ) : Type 0 where
  pub enough : 11 ≤ z
  pub short : z - 11 ≤ 52
  pub least : field_one ≤ t * 2 ^ (z - 11) % 0x1_0000_0000_0000_0000
  pub most : t * 2 ^ (z - 11) % 0x1_0000_0000_0000_0000 < 2 * field_one
  pub value : t * field_one ≡ t * 2 ^ (z - 11) % 0x1_0000_0000_0000_0000 * 2 ^ (52 - (z - 11))

spread_at : (t z j s : ℕ) → z ≡ s + 11 → j + s ≡ 52 → 2 ^ j ≤ t → t < 2 ^ suc j → Spread t z
spread_at t z j s e f lo hi =
    let g : z - 11 ≡ s = omega arith in
    let l : field_one ≤ t * 2 ^ s = le_trans (le_of_eq (sym (ap (λ (n : ℕ). 2 ^ n) f) ∙ pow-add 2 j s)) (mul-le-mul_right (2 ^ s) lo) in
    let k : suc j + s ≡ 53 = omega arith in
    let u : t * 2 ^ s < 0x20_0000_0000_0000 = subst (λ (n : ℕ). t * 2 ^ s < 2 ^ n) k (shl_lt (suc j) s hi) in
    let m : t * 2 ^ s % 0x1_0000_0000_0000_0000 ≡ t * 2 ^ s = mod-eq_of_lt (lt_of_lt_of_le u (lit≤ tt)) in
    let b : s + (52 - s) ≡ 52 = omega arith in
    let v : t * field_one ≡ t * 2 ^ s * 2 ^ (52 - s) =
    sym (mul_assoc t (2 ^ s) (2 ^ (52 - s)) ∙ ap (λ (x : ℕ). t * x) (sym (pow-add 2 s (52 - s)) ∙ ap (λ (n : ℕ). 2 ^ n) b)) in
    record {
      enough = omega arith;
      short = omega arith;
      least = rw (g, m) l;
      most = rw (g, m) u;
      value = rw (g, m) v;
    }

pub spread : (t : ℕ) → 0 < t → t < 2 ^ 53 → Spread t (count_leading_zeros 64 t)
spread t p h =
    let top = leading_top 64 t p (lt_of_lt_of_le h (lit≤ tt)) in
    let j = top.0 in
    let small : j < 53 = lt_of_not-le (λ (g : 53 ≤ j). lt_irrefl t (lt_of_lt_of_le h (le_trans (pow_mono g) top.2))) in
    let e : count_leading_zeros 64 t + suc j ≡ 64 = top.1 in
    spread_at t (count_leading_zeros 64 t) j (52 - j) (omega arith) (omega arith) top.2 top.3

-- t * 2 ^ i from d, which is t moved up
pub evened_up : (t i d k e h : ℕ) → t * field_one ≡ d * 2 ^ k → Evened d (i + k) e h → Evened (t * 2 ^ i) 52 e h
evened_up t i d k e h v s = record {
  value =
      mul_right_comm t (2 ^ i) field_one ∙ ap (λ (x : ℕ). x * 2 ^ i) v ∙ mul_assoc d (2 ^ k) (2 ^ i)
      ∙ ap (λ (x : ℕ). d * x) (mul_comm (2 ^ k) (2 ^ i) ∙ sym (pow-add 2 i k)) ∙ s.value;
  least = s.least;
  most = s.most;
  half = s.half;
}

-- every finite double above zero can be written so
pub evened_double : (t i : ℕ) → 0 < t → t < 2 ^ 53 → i < 2047 → (e : ℕ) × (h : ℕ) × Evened (t * 2 ^ i) 52 e h
evened_double t i p l b =
    let z = count_leading_zeros 64 t in
    let s = spread t p l in
    let v = evened (t * 2 ^ (z - 11) % 0x1_0000_0000_0000_0000) (i + (52 - (z - 11))) s.least s.most (small i (52 - (z - 11)) b (room z)) in
    (v.0, v.1, evened_up t i _ (52 - (z - 11)) v.0 v.1 s.value v.2)
  where
    room : (z : ℕ) → 52 - (z - 11) ≤ 52
    room z = omega arith

    small : (i k : ℕ) → i < 2047 → k ≤ 52 → i + k < 2099
    small i k a b = omega arith
