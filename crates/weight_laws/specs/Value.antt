-- What the other laws ask of two values that are the same. Assumes nothing.
use Rattle.std.specs.Prelude.{ℕ, ◌≡◌, refl, true}
use Rattle.std.proofs.Common.{ap, eqb-true, eq-eqb}
use Rattle.std.specs.Float.Ieee.{of_bits}
use Rattle.std.specs.Float.{binary64}
use Rattle.laws.specs.Bools.{eqb_comm}
use Rattle.fp.specs.Ranges.{is_mass}
use Rattle.weight_store.specs.Values.{same_value, weight_back}

pub same_self : (a : ℕ) → same_value a a ≡ true
unfolding same_value
same_self a = eq-eqb a a refl

pub same_sym : (a b : ℕ) → same_value a b ≡ same_value b a
unfolding same_value
same_sym a b = eqb_comm a b

pub same_cong : (a b c d : ℕ) → same_value a c ≡ true → same_value b d ≡ true → same_value a b ≡ same_value c d
unfolding same_value
same_cong a b c d h k = rw (eqb-true a c h, eqb-true b d k)

pub same_back : (a b : ℕ) → same_value a b ≡ true → weight_back a ≡ weight_back b
unfolding same_value
same_back a b h = ap weight_back (eqb-true a b h)

pub same_inside : (a b : ℕ) → same_value a b ≡ true → is_mass (of_bits binary64 a) ≡ is_mass (of_bits binary64 b)
unfolding same_value
same_inside a b h = ap (λ (x : ℕ). is_mass (of_bits binary64 x)) (eqb-true a b h)
