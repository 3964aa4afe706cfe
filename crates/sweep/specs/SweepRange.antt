-- A sweep's cost between admitted points is finite and never below zero. Assumes nothing.
use Rattle.std.specs.Prelude.{None, Some}
use Rattle.std.specs.Prelude.{ℕ, ◌≡◌, Bool, true, false, cond, Float}
use Rattle.std.proofs.Common.{arith}
use Rattle.std.specs.Float.Ieee.{le}
use Rattle.fp.specs.Num.{zero, finite}
use Rattle.components.specs.declared.Point.{Point}
use Rattle.components.specs.Points.{distance, is_placed, distance_nonneg, distance_finite}
use Rattle.sweep.specs.declared.Sweep.{Sweep}
use Rattle.sweep.specs.Sweeps.{accepts, sweep_rank}

pub sweep_nonneg : (w : Sweep) (x p : Point) (c : Float) → is_placed x ≡ true → is_placed p ≡ true → sweep_rank w x p ≡ Some c
    → (le zero c ≡ true) × (finite c ≡ true)
unfolding sweep_rank
sweep_nonneg w x p c q r h = by (accepts w.mode w.direction x.along p.along) h
  where
    by : (b : Bool) → cond b (Some (distance x p)) None ≡ Some c → (le zero c ≡ true) × (finite c ≡ true)
    by true e =
        let z : distance x p ≡ c = cc in
        let n = distance_nonneg x p q r in
        let f = distance_finite x p q r in
        (rw z at n, rw z at f)
    by false e = let z : ◌≡◌ {A = ℕ} 0 1 = cc in absurd (omega arith)
