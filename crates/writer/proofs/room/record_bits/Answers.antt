-- writer::room::record_bits meets its contract.
use Prim.Native.Nat.{ℕ, ◌+◌, ◌≤◌}
use native.Mathlib.Omega.{arith}
use Rattle.components.specs.declared.Kind.{Kind}
use Rattle.components.specs.declared.Kind.TheVariants.{Policy, Stop, Line, Car, Aboard, Waiting, Demand, Closed, Unknown}
use Rattle.layout.specs.Offsets.{body_length, across_in}
use Rattle.writer.proofs.room.record_bits.Goals as goal
use Rattle.writer.proofs.room.record_bits.Goals.{After-body_length}

body_most : (k : Kind) (w : ℕ) → w ≤ 64 → body_length k + across_in w k ≤ 779
body_most Policy w h = omega arith
body_most Stop w h = omega arith
body_most Line w h = omega arith
body_most Car w h = omega arith
body_most Aboard w h = omega arith
body_most Waiting w h = omega arith
body_most Demand w h = omega arith
body_most Closed w h = omega arith
body_most Unknown w h = omega arith

short : (c : After-body_length) → c.body_length.result ≤ 779
short c = rw c.body_length.ensures (body_most c.args.kind c.args.across c.requires)

pub overflow_cast-result : goal.overflow_cast-result
overflow_cast-result c = record { fits = omega (arith, short (goal.at.overflow_cast-result c).After-body_length) }

pub overflow_add-result : goal.overflow_add-result
overflow_add-result c = record { fits = omega (arith, short (goal.at.overflow_add-result c).After-body_length) }

pub returns : goal.returns
returns c = (omega (arith, c.body_length.ensures), omega (arith, short (goal.at.returns c).After-body_length))
