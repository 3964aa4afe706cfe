-- square_root::unpack meets its contract.
use native.Mathlib.Omega.{arith}
use Rattle.rounding.specs.Unpack.{significand_of, significand_lt, exponent_lt}
use Rattle.square_root.specs.Spread.{Spread, spread, evened_up}
use Rattle.square_root.proofs.unpack.Goals as goal
use Rattle.square_root.proofs.unpack.Goals.{After-from-up}

spreads : (c : After-from-up) → Spread c.significand-significand.result c.from-up.result
spreads c =
    rw (c.from-up.ensures, c.significand-significand.ensures) (spread (significand_of c.args.b) c.requires (significand_lt c.args.b))

pub overflow_sub-up : goal.overflow_sub-up
overflow_sub-up c = (spreads c).enough

pub overflow_add-exponent : goal.overflow_add-exponent
overflow_add-exponent c = omega (arith, exponent_lt c.args.b)

pub even-requires : goal.even-requires
even-requires c =
    let s = spreads (goal.at.even-requires c).After-from-up in
    let l = exponent_lt c.args.b in
    (s.least, s.most, omega arith)

pub returns : goal.returns
returns c =
    let r = c.even.result in
    rw (← c.significand-significand.ensures, ← c.exponent.ensures)
    (evened_up c.significand-significand.result c.exponent.result _ _ r.digits r.half (spreads (goal.at.returns c).After-from-up).value
    c.even.ensures)
