-- bits::field meets its contract.
use mathlib.Core.Path.{◌≡◌}
use Prim.Native.Nat.{◌+◌, ◌-◌, ◌/◌, ◌^◌}
use native.Mathlib.Omega.{arith}
use borrow.Author.Rules.{rules}
use Rattle.bits.specs.Field.{field_at, field_lt}
use Rattle.bits.proofs.NineBytes.{first_bits}
use Rattle.bits.proofs.field.Goals as goal

pub returns-then-w-eq0 : goal.returns-then-w-eq0
unfolding field_at
returns-then-w-eq0 c = rw c.if-w-eq0.true (record { is = search rules; small = omega arith })

pub returns : goal.returns
returns c =
    let a = c.args in
    let e : c.window.result / 2 ^ (64 - a.w) ≡ field_at a.s.now (a.at + a.off) a.w =
    rw c.window.ensures (first_bits _ _ a.w (omega arith)) in
    record { is = e; small = rw e (field_lt _ _ _) }
