-- writer_host::field::check meets its contract.
use Prim.Native.Nat.{◌+◌, ◌*◌}
use native.Mathlib.Omega.{arith}
use Rattle.writer_host.specs.Host.{field_refusal}
use borrow.Author.Tests.{lt-ltb, le-ltb}
use Rattle.writer_host.proofs.field.check.Goals as goal

pub returns-then-not-holds_number : goal.returns-then-not-holds_number
unfolding field_refusal
returns-then-not-holds_number c = rw (← c.holds_number.ensures, c.if-not-holds_number.true)

pub returns-then-bytes-end : goal.returns-then-bytes-end
unfolding field_refusal
returns-then-bytes-end c =
    let a = c.args in
    rw (← c.holds_number.ensures, c.if-not-holds_number.false, lt-ltb (8 * a.bytes) (a.at + a.w) (omega (arith, c.if-bytes-end.true)))

pub returns : goal.returns
unfolding field_refusal
returns c =
    let a = c.args in
    rw (← c.holds_number.ensures, c.if-not-holds_number.false, le-ltb (8 * a.bytes) (a.at + a.w) (omega (arith, c.if-bytes-end.false)))
