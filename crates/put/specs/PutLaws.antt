-- Laws of bits inserted in a number, that a field is its bits, and what bytes are. The laws of a field that was put are in proofs/PutLaws. Assumes
-- nothing.
use Rattle.std.specs.Prelude.{ℕ, zero, suc, ◌+◌, ◌-◌, ◌*◌, ◌/◌, ◌%◌, ◌^◌, ◌≤◌, ◌<◌, ◌≡◌, refl, List, ◌≢◌, get_or}
use Rattle.std.proofs.Common.{sym, ap, ◌∙◌, subst, add-zero, mod-lt, add-mul, zero-add, add-one, arith, pow_pos, shr-shr, shr_lt}
use Rattle.std.proofs.Math.Logic.{⊎_elim}
use Rattle.std.proofs.Math.Nat.{add_assoc, mul_assoc, pow-zero, mod-one}
use Rattle.std.proofs.Math.Arith.{digits_lt}
use Rattle.std.proofs.Math.Pow.{pow-add, split, high, low, field, mod-mod-pow}
use Rattle.std.proofs.lemmas.Nat.{mod-pow-add}
use Rattle.laws.specs.Bools.{less?}
use Rattle.bits.specs.Field.{bit_at, field_at}
use Rattle.put.specs.Put.{inserted}

-- ---- bits inserted in a number

module _ (b n r v : ℕ) where
  inserted_low : v % 2 ^ n * 2 ^ r + b % 2 ^ r < 2 ^ (n + r)
  inserted_low = rw (pow-add 2 n r) (digits_lt (mod-lt v (pow_pos n)) (mod-lt b (pow_pos r)))

  pub inserted_high : inserted b n r v / 2 ^ (n + r) ≡ b / 2 ^ (n + r)
  unfolding inserted
  inserted_high = rw add_assoc (high (b / 2 ^ (n + r)) (n + r) inserted_low)

  inserted_two : inserted b n r v ≡ (b / 2 ^ (n + r) * 2 ^ n + v % 2 ^ n) * 2 ^ r + b % 2 ^ r
  unfolding inserted
  inserted_two = rw (add-mul, mul_assoc, ← pow-add 2 n r)

  pub inserted_mid : inserted b n r v / 2 ^ r ≡ b / 2 ^ (n + r) * 2 ^ n + v % 2 ^ n
  inserted_mid = rw inserted_two (high (b / 2 ^ (n + r) * 2 ^ n + v % 2 ^ n) r (mod-lt b (pow_pos r)))

  pub inserted_rest : inserted b n r v % 2 ^ r ≡ b % 2 ^ r
  inserted_rest = rw inserted_two (low (b / 2 ^ (n + r) * 2 ^ n + v % 2 ^ n) r (mod-lt b (pow_pos r)))

  -- a number of so many bits stays one
  pub inserted_lt : (m : ℕ) → b < 2 ^ (m + (n + r)) → inserted b n r v < 2 ^ (m + (n + r))
  unfolding inserted
  inserted_lt m h = rw (add_assoc, pow-add 2 m (n + r)) (digits_lt (shr_lt m (n + r) h) inserted_low)

-- no bits
pub inserted_none : (b r v : ℕ) → inserted b 0 r v ≡ b
unfolding inserted
inserted_none b r v = let z : v % 1 * 2 ^ r ≡ 0 = rw (mod-one v) (omega arith) in rw (pow-zero, z, add-zero, zero-add) (split b r)

-- one bit more
joined : (x a m y t l : ℕ) → x ≡ a + m → m + y ≡ t → x + y + l ≡ a + t + l
joined x a m y t l h k = omega arith

pub inserted_step : (b n r v : ℕ) → inserted (inserted b n (1 + r) (v / 2)) 1 r v ≡ inserted b (suc n) r v
unfolding inserted
inserted_step b n r v =
    let k = n + (1 + r) in
    let m = v / 2 % 2 ^ n in
    let x = inserted b n (1 + r) (v / 2) in
    let h : x / 2 ^ (1 + r) ≡ b / 2 ^ k * 2 ^ n + m = inserted_mid b n (1 + r) (v / 2) in
    let l : x % 2 ^ r ≡ b % 2 ^ r =
    sym (mod-mod-pow x 1 r) ∙ ap (λ (y : ℕ). y % 2 ^ r) (inserted_rest b n (1 + r) (v / 2)) ∙ mod-mod-pow b 1 r in
    let high_part : x / 2 ^ (1 + r) * 2 ^ (1 + r) ≡ b / 2 ^ k * 2 ^ k + m * 2 ^ (1 + r) =
    ap (λ (y : ℕ). y * 2 ^ (1 + r)) h ∙ rw (add-mul, mul_assoc, ← pow-add 2 n (1 + r)) in
    let bits : m * 2 ^ (1 + r) + v % 2 * 2 ^ r ≡ v % 2 ^ suc n * 2 ^ r =
    rw (pow-add 2 1 r, ← mul_assoc, ← add-mul, ← add-one n, mod-pow-add v n 1) in
    let e : suc n + r ≡ k = omega arith in
    joined (x / 2 ^ (1 + r) * 2 ^ (1 + r)) (b / 2 ^ k * 2 ^ k) (m * 2 ^ (1 + r)) (v % 2 * 2 ^ r) (v % 2 ^ suc n * 2 ^ r) (x % 2 ^ r) high_part bits
    ∙ rw (l, e)

-- each bit
module _ (b p x : ℕ) where
  pub inserted_there : inserted b 1 p x / 2 ^ p % 2 ≡ x % 2
  inserted_there = rw (inserted_mid b 1 p x) (omega arith)

  above : (k : ℕ) → inserted b 1 p x / 2 ^ (1 + p + k) ≡ b / 2 ^ (1 + p + k)
  above k = sym (shr-shr (inserted b 1 p x) (1 + p) k) ∙ ap (λ (y : ℕ). y / 2 ^ k) (inserted_high b 1 p x) ∙ shr-shr b (1 + p) k

  below : (k q : ℕ) → p ≡ k + (1 + q) → inserted b 1 p x / 2 ^ q % 2 ≡ b / 2 ^ q % 2
  below k q e =
      sym (field (inserted b 1 p x) 1 q)
      ∙ ap (λ (y : ℕ). y / 2 ^ q) (kept (inserted b 1 p x) ∙ ap (λ (y : ℕ). y % 2 ^ (1 + q)) (inserted_rest b 1 p x) ∙ sym (kept b))
      ∙ field b 1 q
    where
      kept : (y : ℕ) → y % 2 ^ (1 + q) ≡ y % 2 ^ p % 2 ^ (1 + q)
      kept y = sym (mod-mod-pow y k (1 + q)) ∙ ap (λ (z : ℕ). y % 2 ^ z % 2 ^ (1 + q)) (sym e)

  pub inserted_elsewhere : (q : ℕ) → q ≢ p → inserted b 1 p x / 2 ^ q % 2 ≡ b / 2 ^ q % 2
  inserted_elsewhere q h =
      ⊎_elim
      (λ (l : q < p). below (p - (1 + q)) q (omega arith))
      (λ (l : p ≤ q).
      let e : 1 + p + (q - (1 + p)) ≡ q = omega arith in
      ap (λ (y : ℕ). y % 2) (subst (λ z. inserted b 1 p x / 2 ^ z ≡ b / 2 ^ z) e (above (q - (1 + p)))))
      (less? q p)

-- ---- fields

-- a field is its bits
pub field_same : (s t : List ℕ) (at w : ℕ) → ((i : ℕ) → i < w → bit_at s (at + i) ≡ bit_at t (at + i)) → field_at s at w ≡ field_at t at w
unfolding field_at
field_same s t at zero h = refl
field_same s t at (suc w) h = rw (field_same s t at w (λ i l. h i (omega arith)), h w (omega arith))

-- ---- bytes

pub record Bytes (s : List ℕ) : Type 0 where
  pub byte : (k : ℕ) → get_or s k 0 < 256
