-- put::last_bits meets its contract.
use Prim.Native.Nat.{ℕ, ◌*◌, ◌%◌, ◌^◌, ◌≤◌}
use mathlib.Core.Path.{◌≡◌, refl, ◌∙◌}
use native.Mathlib.Nat.{one-mul, mod-lt}
use native.Mathlib.Omega.{arith}
use lib.Bits.{and_mask}
use lib.Pow.{shl_exact, pow_pos}
use Rattle.put.proofs.last_bits.Goals as goal

one : (n : ℕ) → n ≤ 8 → (1 * 2 ^ n) % 2 ^ 64 ≡ 2 ^ n
one n h = shl_exact 1 n 64 (omega arith) (omega arith) ∙ one-mul (2 ^ n)

pub overflow_sub-result : goal.overflow_sub-result
overflow_sub-result c = rw (one c.args.n c.requires) (pow_pos c.args.n)

pub returns : goal.returns
returns c =
    let n = c.args.n in
    let v = c.args.v in
    rw (one n c.requires, and_mask v n) (refl, mod-lt v (pow_pos n))
