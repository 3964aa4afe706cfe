-- put::put_first meets its contract.
use mathlib.Core.Path.{◌≡◌, sym}
use Prim.Native.Nat.{ℕ, ◌-◌, ◌/◌, ◌%◌, ◌^◌}
use native.Mathlib.Omega.{arith}
use lib.Bits.{bit_and, and_mask}
use Rattle.put.proofs.PutLaws.{put_chunk}
use Rattle.put.proofs.put_first.Goals as goal

mask : (p : ℕ) → bit_and p 7 ≡ p % 8
mask p = and_mask p 3

pub bits_here-n-requires : goal.bits_here-n-requires
bits_here-n-requires c = rw (mask c.args.p) (omega arith)

pub overflow_shr-v : goal.overflow_shr-v
overflow_shr-v c = omega (arith, c.requires.1, c.bits_here-n.ensures.2 c.requires.0)

pub returns : goal.returns
returns c =
    let a = c.args in
    let b = c.bits_here-n in (
      b.ensures.2 c.requires.0,
      b.ensures.0,
      rw (c.put_in.ensures, mask a.p)
          (sym (put_chunk a.s.now a.p b.result (a.v / 2 ^ (a.w - b.result)) (rw (mask a.p) at b.ensures.1))),
    )
