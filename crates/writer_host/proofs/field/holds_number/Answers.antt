-- writer_host::field::holds_number meets its contract.
use Prim.Native.Nat.{◌/◌, ◌^◌}
use mathlib.Core.Path.{◌≡◌}
use native.Mathlib.Nat.{div-eq_of_lt}
use native.Mathlib.Omega.{arith}
use borrow.Author.Tests.{lt-leb, le-leb}
use Rattle.writer_host.specs.Host.{holds_number}
use Rattle.writer_host.proofs.field.holds_number.Goals as goal

pub returns-then-w-gt64 : goal.returns-then-w-gt64
unfolding holds_number
returns-then-w-gt64 c = rw (lt-leb c.args.w 64 (omega (arith, c.if-w-gt64.true)))

pub returns-then-w-eq64 : goal.returns-then-w-eq64
unfolding holds_number
returns-then-w-eq64 c =
    let a = c.args in
    let none : a.v / 2 ^ 64 ≡ 0 = div-eq_of_lt c.ranges.v.fits in
    rw (c.if-w-eq64.true, none)

pub returns : goal.returns
unfolding holds_number
returns c = rw (le-leb c.args.w 64 (omega (arith, c.if-w-gt64.false)))
