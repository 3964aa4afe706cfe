-- lists::number meets its contract.
use Prim.Native.Nat.{ℕ, ◌+◌, ◌*◌, ◌^◌, ◌<◌}
use mathlib.Core.Path.{◌≡◌}
use native.Mathlib.Nat.{lt_of_lt_of_le}
use native.Mathlib.Numerals.{add-one}
use native.Mathlib.Omega.{arith}
use borrow.Author.Rules.{rules}
use mathlib.Core.List.{List}
use lib.ListN.{get_or}
use lib.Pow.{pow-add, pow_mono}
use Rattle.lists.specs.Lists.{number}
use Rattle.lists.proofs.number.Goals as goal
use Rattle.lists.proofs.number.Goals.{After-from}

-- there is room for a byte more
room : (r i : ℕ) → i < 8 → r < 2 ^ (8 * i) → r < 2 ^ 56
room r i l h = lt_of_lt_of_le h (pow_mono {i = 8 * i} {j = 56} (omega arith))

grows : (r i b : ℕ) → r < 2 ^ (8 * i) → b < 256 → r * 256 + b < 2 ^ (8 * (i + 1))
grows r i b h l =
    let e : 8 * (i + 1) ≡ 8 * i + 8 = omega arith in
    rw (e, pow-add 2 (8 * i) 8) (omega arith)

next : (s : List ℕ) (at i : ℕ) → number s at (i + 1) ≡ number s at i * 256 + get_or s (at + i) 0
unfolding number
next s at i = rw add-one

-- the byte that is read
byte_lt : (c : After-from) → c.from.result < 256
byte_lt c = let a = c.args in rw c.from.ensures (c.type_inv.s (a.at + c.loop-i.i)).fits

pub loop-i-init : goal.loop-i-init
unfolding number
loop-i-init c = search rules

pub overflow_mul-r : goal.overflow_mul-r
overflow_mul-r c = let l = c.loop-i in omega (arith, room l.r l.i (omega arith) l.invariant.2)

pub overflow_add-r : goal.overflow_add-r
overflow_add-r c = let l = c.loop-i in omega (arith, room l.r l.i (omega arith) l.invariant.2, byte_lt (goal.at.overflow_add-r c).After-from)

pub loop-i-preserved : goal.loop-i-preserved
loop-i-preserved c =
    let l = c.loop-i in
    let a = c.args in
    let b = byte_lt (goal.at.loop-i-preserved c).After-from in
    (search rules, rw (next a.s.now a.at l.i, c.from.ensures, l.invariant.1), grows l.r l.i _ l.invariant.2 b)
