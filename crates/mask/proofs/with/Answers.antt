-- mask::with meets its contract.
use mathlib.Core.Path.{◌≡◌, ap, ◌∙◌}
use Prim.Native.Nat.{ℕ, ◌-◌, ◌*◌, ◌%◌, ◌^◌, ◌<◌}
use native.Mathlib.Nat.{one-mul, mod-eq_of_lt}
use native.Mathlib.Omega.{arith}
use lib.Bits.{bit_or}
use lib.Pow.{pow-lt}
use Rattle.mask.specs.MaskLaws.{with_has}
use Rattle.mask.proofs.with.Goals as goal

one_shifted : (k : ℕ) → k < 64 → (1 * 2 ^ k) % 2 ^ 64 ≡ 2 ^ k
one_shifted k h = ap (λ (x : ℕ). x % 2 ^ 64) (one-mul (2 ^ k)) ∙ mod-eq_of_lt (pow-lt h)

pub returns : goal.returns
returns c =
    ap (bit_or c.args.mask) (one_shifted (63 - c.args.j) (omega arith))
    ∙ with_has c.args.mask c.args.j c.ranges.mask.fits c.requires
