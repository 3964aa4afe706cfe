-- The definition at values ±a, ±b and ±c of least doubles, 2 ^ -1074. Assumes nothing.
use Rattle.std.specs.Prelude.{◌≡◌, ℕ, ◌*◌, ◌^◌, Bool, ℤ, refl, Float}
use Rattle.std.proofs.Common.{ap, ◌∙◌, mul_comm, mul_assoc, mul_right_comm, mul-pos, pow-add, pow_pos}
use Rattle.std.proofs.Math.Nat.{mul-mul-mul_comm}
use Rattle.std.specs.Float.{nan, inf, fin, binary64}
use Rattle.std.specs.Float.Ieee.{unlike, up, down, sum}
use Rattle.std.specs.Float.Ieee.Fits.{down_pos}
use Rattle.std.specs.Float.Ieee.Exact.{HasValue}
use Rattle.rounding.specs.Sums.{sum_same}
use Rattle.multiply_add.specs.MulAdd.{mul_add}
use Rattle.multiply_add.specs.Steps.{both}

cross_product : (x y g t a b e d : ℕ) → x * t ≡ a * e → y * t ≡ b * d → x * y * g * (t * t) ≡ a * b * (e * d * g)
cross_product x y g t a b e d h k =
    let l : x * y * g * (t * t) ≡ x * t * (y * t) * g = mul_right_comm (x * y) g (t * t) ∙ ap (λ (z : ℕ). z * g) (mul-mul-mul_comm x y t t) in
    let r : a * e * (b * d) * g ≡ a * b * (e * d * g) = ap (λ (z : ℕ). z * g) (mul-mul-mul_comm a e b d) ∙ mul_assoc (a * b) (e * d) g in
    l ∙ ap (λ (z : ℕ). z * (y * t) * g) h ∙ ap (λ (z : ℕ). a * e * z * g) k ∙ r

cross_term : (z ed g t c : ℕ) → z * t ≡ c * g → z * ed * (t * t) ≡ c * t * (ed * g)
cross_term z ed g t c h =
    mul-mul-mul_comm z ed t t ∙ ap (λ (w : ℕ). w * (ed * t)) h ∙ ap (λ (w : ℕ). c * g * w) (mul_comm ed t) ∙ mul-mul-mul_comm c g t ed
    ∙ ap (λ (w : ℕ). c * t * w) (mul_comm g ed)

opened : (s : Bool) (m : ℕ) (e : ℤ) (t : Bool) (n : ℕ) (d : ℤ) (u : Bool) (o : ℕ) (g : ℤ)
    → mul_add (fin s m e) (fin t n d) (fin u o g) ≡ sum binary64 (unlike s t) (m * up e * (n * up d) * down g) u (o * up g * (down e * down d))
    (down e * down d * down g)
unfolding mul_add
opened s m e t n d u o g = refl

as_both : (s : Bool) (a : ℕ) (t : Bool) (b : ℕ) → sum binary64 s a t b (2 ^ 2148) ≡ both s a t b
unfolding both
as_both s a t b = refl

pub mul_add_is : (x y z : Float) (s t u : Bool) (a b c : ℕ) → HasValue x s a (2 ^ 1074) → HasValue y t b (2 ^ 1074) → HasValue z u c (2 ^ 1074)
    → mul_add x y z ≡ both (unlike s t) (a * b) u (c * 2 ^ 1074)
mul_add_is nan y z s t u a b c h k l = absurd h
mul_add_is (inf v) y z s t u a b c h k l = absurd h
mul_add_is (fin s' m e) nan z s t u a b c h k l = absurd k
mul_add_is (fin s' m e) (inf v) z s t u a b c h k l = absurd k
mul_add_is (fin s' m e) (fin t' n d) nan s t u a b c h k l = absurd l
mul_add_is (fin s' m e) (fin t' n d) (inf v) s t u a b c h k l = absurd l
mul_add_is (fin s' m e) (fin t' n d) (fin u' o g) s t u a b c h k l =
    opened s' m e t' n d u' o g
    ∙ sum_same binary64 (unlike s' t') u' (m * up e * (n * up d) * down g) (o * up g * (down e * down d)) (down e * down d * down g) (a * b)
    (c * 2 ^ 1074) (2 ^ 2148)
    (mul-pos (mul-pos (down_pos e) (down_pos d)) (down_pos g)) (pow_pos 2148)
    (ap (λ (w : ℕ). m * up e * (n * up d) * down g * w) (pow-add 2 1074 1074)
    ∙ cross_product (m * up e) (n * up d) (down g) (2 ^ 1074) a b (down e) (down d) h.1 k.1)
    (ap (λ (w : ℕ). o * up g * (down e * down d) * w) (pow-add 2 1074 1074) ∙ cross_term (o * up g) (down e * down d) (down g) (2 ^ 1074) c l.1)
    ∙ ap (λ (w : Bool). sum binary64 (unlike w t') (a * b) u' (c * 2 ^ 1074) (2 ^ 2148)) h.0
    ∙ ap (λ (w : Bool). sum binary64 (unlike s w) (a * b) u' (c * 2 ^ 1074) (2 ^ 2148)) k.0
    ∙ ap (λ (w : Bool). sum binary64 (unlike s t) (a * b) w (c * 2 ^ 1074) (2 ^ 2148)) l.0
    ∙ as_both (unlike s t) (a * b) u (c * 2 ^ 1074)
