-- covered::with_index meets its contract.
use lib.Dec.{ltb}
use native.Mathlib.Omega.{arith}
use borrow.Author.Tests.{ltb-true}
use Rattle.laws.specs.Bools.{both_right}
use Rattle.covered.proofs.with_index.Goals as goal

pub with-requires : goal.with-requires
with-requires c = let a = c.args in omega (arith, c.requires, ltb-true a.j a.n (both_right a.b (ltb a.j a.n) c.if-b-j.true))

pub returns-then-b-j : goal.returns-then-b-j
returns-then-b-j c = rw c.if-b-j.true c.with.ensures

pub returns-else-b-j : goal.returns-else-b-j
returns-else-b-j c = rw c.if-b-j.false
