-- put::with_bits meets its contract. The sum is the number with the bits inserted, and that is a byte.
use Prim.Native.Nat.{ℕ, ◌+◌, ◌-◌, ◌*◌, ◌/◌, ◌%◌, ◌^◌, ◌≤◌, ◌<◌}
use mathlib.Core.Path.{◌≡◌, subst}
use native.Mathlib.Nat.{mod-lt, lt_of_le_of_lt}
use native.Mathlib.Omega.{arith}
use lib.Pow.{shl_exact, pow_pos, shr_le}
use Rattle.put.specs.Put.{inserted}
use Rattle.put.specs.PutLaws.{inserted_lt}
use Rattle.put.proofs.with_bits.Goals as goal
use Rattle.put.proofs.with_bits.Goals.{After-last_bits-2}

-- put::with_bits meets its contract. The sum is the number with the bits inserted, and that is a byte.
module _ (b n r v : ℕ) (h : n + r ≤ 8) (l : b < 256) where
  is_inserted : (b / 2 ^ (n + r) * 2 ^ (n + r)) % 2 ^ 64 + (v % 2 ^ n * 2 ^ r) % 2 ^ 64 + b % 2 ^ r ≡ inserted b n r v
  unfolding inserted
  is_inserted =
      rw (shl_exact {a = b / 2 ^ (n + r)} 8 (n + r) 64 (lt_of_le_of_lt (shr_le b (n + r)) l) (omega arith), shl_exact {a = v % 2 ^ n} n r 64 (mod-lt v (pow_pos n)) (omega arith))

  a_byte : inserted b n r v < 256
  a_byte =
      let e : 8 - (n + r) + (n + r) ≡ 8 = omega arith in
      subst (λ z. inserted b n r v < 2 ^ z) e (inserted_lt b n r v (8 - (n + r)) (rw e l))

  -- so is what was added first
  first_fits : (b / 2 ^ (n + r) * 2 ^ (n + r)) % 2 ^ 64 + (v % 2 ^ n * 2 ^ r) % 2 ^ 64 < 2 ^ 64
  first_fits = omega (arith, is_inserted, a_byte)

byte : (c : After-last_bits-2) → inserted c.args.b c.args.n c.args.r c.args.v < 256
byte c = let a = c.args in a_byte a.b a.n a.r a.v c.requires c.ranges.b.fits

pub overflow_add-result-3 : goal.overflow_add-result-3
overflow_add-result-3 c =
    let a = c.args in
    record { fits = rw c.last_bits.ensures.0 (first_fits a.b a.n a.r a.v c.requires c.ranges.b.fits) }

pub returns : goal.returns
returns c =
    let a = c.args in
    rw (c.last_bits.ensures.0, c.last_bits-2.ensures.0)
    (is_inserted a.b a.n a.r a.v c.requires c.ranges.b.fits)

pub overflow_add-result-4 : goal.overflow_add-result-4
overflow_add-result-4 c = record { fits = rw (returns c) (omega (arith, byte (goal.at.overflow_add-result-4 c).After-last_bits-2)) }

pub overflow_cast-result : goal.overflow_cast-result
overflow_cast-result c = record { fits = rw (returns c) (byte (goal.at.overflow_cast-result c).After-last_bits-2) }
