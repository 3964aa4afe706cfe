-- bits::flag meets its contract.
use Prim.Native.Nat.{ℕ, ◌/◌, ◌-◌, ◌^◌}
use mathlib.Core.Path.{ap}
use lib.Bits.{and_mask}
use lib.Dec.{eqb}
use Rattle.bits.proofs.NineBytes.{bit_is}
use Rattle.bits.proofs.flag.Goals as goal

pub returns : goal.returns
returns c =
    let p = c.place-k in
    let a = c.args in
    rw (bit_is a.s.now _, ← p.ensures.0, ← p.ensures.1, ← c.byte.ensures.0)
    (ap (λ (n : ℕ). eqb n 1) (and_mask (c.byte.result / 2 ^ (7 - p.result.bit)) 1))
