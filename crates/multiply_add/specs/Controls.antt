-- Controls of the definition: a factor of 1 leaves the plain sum, and the factors may be exchanged. Assumes nothing.
use Rattle.std.specs.Prelude.{◌≡◌, ◌*◌, Bool, true, false, cond, ◌==◌, refl, Float}
use Rattle.std.proofs.Common.{ap, mul_comm, mul-one}
use Rattle.std.specs.Float.{nan, inf, fin}
use Rattle.std.specs.Float.Ieee.{unlike, up, down, add, mul, of_bits}
use Rattle.fp.specs.Num.{plus, one}
use Rattle.rounding.specs.Signed.{unlike_false}
use Rattle.multiply_add.specs.MulAdd.{mul_add}

unlike_comm : (s t : Bool) → unlike s t ≡ unlike t s
unlike_comm true true = refl
unlike_comm true false = refl
unlike_comm false true = refl
unlike_comm false false = refl

-- a factor of 1 leaves the plain sum
pub one_factor : (x z : Float) → mul_add x one z ≡ plus x z
unfolding mul_add add mul of_bits
one_factor nan z = refl
one_factor (inf true) z = refl
one_factor (inf false) z = refl
one_factor (fin s m e) nan = refl
one_factor (fin s m e) (inf u) = refl
one_factor (fin s m e) (fin u k g) = rw (unlike_false s, mul-one (m * up e), mul-one (down e))

-- the factors may be exchanged
pub factors_turn : (x y z : Float) → mul_add x y z ≡ mul_add y x z
unfolding mul_add add mul
factors_turn nan nan z = refl
factors_turn nan (inf t) z = refl
factors_turn nan (fin t n d) z = refl
factors_turn (inf s) nan z = refl
factors_turn (inf s) (inf t) z = ap (λ (w : Bool). plus (inf w) z) (unlike_comm s t)
factors_turn (inf s) (fin t n d) z = ap (λ (w : Bool). plus (cond (n == 0) nan (inf w)) z) (unlike_comm s t)
factors_turn (fin s m e) nan z = refl
factors_turn (fin s m e) (inf t) z = ap (λ (w : Bool). plus (cond (m == 0) nan (inf w)) z) (unlike_comm s t)
factors_turn (fin s m e) (fin t n d) nan = refl
factors_turn (fin s m e) (fin t n d) (inf u) = refl
factors_turn (fin s m e) (fin t n d) (fin u k g) = rw (unlike_comm s t, mul_comm (m * up e) (n * up d), mul_comm (down e) (down d))
