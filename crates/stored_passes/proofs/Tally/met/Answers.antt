-- stored_passes::Tally::met meets its contract.
use Rattle.stored_passes.specs.Cases.{apart_no, apart_yes}
use Rattle.stored_passes.specs.Tallies.{met_of}
use borrow.Author.Tests.{eq-eqb, ne_eqb}
use mathlib.Core.Path.{refl}
use native.Mathlib.Omega.{arith}
use Rattle.stored_passes.proofs.Tally.met.Goals as goal

pub returns-then-ours-theirs : goal.returns-then-ours-theirs
unfolding met_of
returns-then-ours-theirs c =
    let a = c.args in
    (rw (eq-eqb _ _ c.if-ours-theirs.true), omega (arith, apart_no a.ours a.theirs c.if-ours-theirs.true))

pub returns : goal.returns
unfolding met_of
returns c =
    let a = c.args in
    (rw (ne_eqb _ _ c.if-ours-theirs.false, c.or.ensures) refl, omega (arith, apart_yes a.ours a.theirs c.if-ours-theirs.false))
