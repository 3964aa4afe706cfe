-- The last step of a rank, in etd.rs and in rsr.rs: a cost that is finite. Assumes nothing.
use Rattle.std.specs.Prelude.{None, Option, Some}
use Rattle.std.specs.Prelude.{ℕ, ◌≡◌, refl, Bool, true, false, cond, Float}
use Rattle.std.proofs.Common.{arith}
use Rattle.fp.specs.Num.{finite}

-- a cost that is finite is a rank
unfoldable pub finite_rank : Float → Option Float
finite_rank x = cond (finite x) (Some x) None

-- a rank that is given is the cost, and finite
pub ranked : (b : Bool) (c x : Float) → cond b (finite_rank c) None ≡ Some x → (c ≡ x) × (finite c ≡ true)
unfolding finite_rank
ranked true c x h = by (finite c) refl h
  where
    by : (f : Bool) → finite c ≡ f → cond f (Some c) None ≡ Some x → (c ≡ x) × (finite c ≡ true)
    by true e g = (cc, e)
    by false e g = let z : ◌≡◌ {A = ℕ} 0 1 = cc in absurd (omega arith)
ranked false c x h = let z : ◌≡◌ {A = ℕ} 0 1 = cc in absurd (omega arith)
