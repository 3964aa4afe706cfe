-- bits::window meets its contract.
use Prim.Native.Nat.{◌+◌, ◌/◌}
use native.Mathlib.Omega.{arith}
use Rattle.bits.specs.Field.{field_64}
use Rattle.bits.proofs.NineBytes.{window_is, window_ends}
use Rattle.bits.proofs.window.Goals as goal

pub returns-then-k-s : goal.returns-then-k-s
returns-then-k-s c =
    let a = c.args in
    let p = c.place-k.ensures in
    rw (c.word_inside.ensures, c.from.ensures, p.0, p.1)
    (window_is a.s.now a.at (c.type_inv.s (a.at / 8 + 8)).fits)

pub overflow_add-result : goal.overflow_add-result
overflow_add-result c = record { fits = rw (returns-then-k-s c) (field_64 _ _ _ (omega arith)) }

pub returns : goal.returns
returns c =
    let a = c.args in
    let p = c.place-k.ensures in
    rw (c.word_past.ensures, p.0, p.1) (window_ends a.s.now a.at (omega arith))
