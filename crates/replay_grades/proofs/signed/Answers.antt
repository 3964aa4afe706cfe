-- replay_grades::signed meets its contract.
use Prim.Native.Nat.{ℕ, zero, suc, ◌+◌, ◌-◌, ◌<◌}
use borrow.Author.Tests.{lt-ltb, le-ltb}
use lib.IntN.{ℤ, pos, negsuc, ◌-ℤ◌}
use mathlib.Core.Path.{◌≡◌, refl, sym, ap, ◌∙◌, subst}
use mir.Facts.{to_z-of_z, to_z_pos}
use mir.Syntax.{w64}
use mir.Val.{SFits, to_z, of_z}
use native.Mathlib.Omega.{arith}
use Rattle.replay_grades.specs.Cases.{signed}
use Rattle.replay_grades.proofs.signed.Goals as goal

-- so far below -1
below : (m : ℕ) → negsuc 0 -ℤ pos m ≡ negsuc m
below zero = refl
below (suc k) = let e : suc (0 + k) ≡ suc k = omega arith in ap negsuc e

below_is : (m : ℕ) → m < 9_223_372_036_854_775_808 → negsuc 0 -ℤ to_z w64 m ≡ negsuc m
below_is m l = ap (λ (z : ℤ). negsuc 0 -ℤ z) (to_z_pos w64 {n = m} (omega arith)) ∙ below m

fits : (m : ℕ) → m < 9_223_372_036_854_775_808 → SFits w64 (negsuc m)
fits m l = record { sfits = omega arith }

pub returns-then-x-lt9223372036854775808 : goal.returns-then-x-lt9223372036854775808
unfolding signed
returns-then-x-lt9223372036854775808 c = rw (lt-ltb c.args.x 9_223_372_036_854_775_808 c.if-x-lt9223372036854775808.true)

pub overflow_sub-result : goal.overflow_sub-result
overflow_sub-result c =
    let m = c.args.x - 9_223_372_036_854_775_808 in
    let l : m < 9_223_372_036_854_775_808 = omega (arith, c.ranges.x) in
    subst (λ (z : ℤ). SFits w64 z) (sym (below_is m l)) (fits m l)

pub returns : goal.returns
unfolding signed
returns c =
    let m = c.args.x - 9_223_372_036_854_775_808 in
    let l : m < 9_223_372_036_854_775_808 = omega (arith, c.ranges.x) in
    rw (le-ltb c.args.x 9_223_372_036_854_775_808 c.if-x-lt9223372036854775808.false)
    (ap (λ (z : ℤ). to_z w64 (of_z w64 z)) (below_is m l) ∙ to_z-of_z (fits m l))
