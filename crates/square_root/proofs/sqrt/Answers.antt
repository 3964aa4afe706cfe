-- square_root::sqrt meets its contract.
use mathlib.Core.Path.{sym, ◌∙◌}
use denote.Floats.{passes}
use lib.Ieee.{of_bits}
use Rattle.square_root.specs.Kept.{some_significand, root_is}
use Rattle.square_root.proofs.Ways.{number_bits, way_infinite, way_zero, way_none}
use Rattle.square_root.proofs.sqrt.Goals as goal
use Rattle.square_root.proofs.sqrt.Goals.{else-x-via-then-x+else-finite, else-x-via-else-x}

pub root_bits-requires : goal.root_bits-requires
root_bits-requires c =
    let s = c in some_significand s.args.x (passes _ s.well_formed.0.1) c.if-x.true (sym c.if-finite.ensures)

pub float_from_bits-result : goal.float_from_bits-result
float_from_bits-result c = number_bits _ c.root_bits.ensures.0

pub returns-then-finite : goal.returns-then-finite
returns-then-finite c =
    let s = c in
    c.root_bits.ensures.1 ∙ root_is s.args.x (passes _ s.well_formed.0.1) c.if-x.true (sym c.if-finite.ensures)

pub returns-then-x-2 : goal.returns-then-x-2
returns-then-x-2 c =
    elim c.else-x.branch [
      | else-x-via-then-x+else-finite w ↦ way_infinite c.args.x w.if-x.true (sym w.finite.ensures ∙ w.if-finite.false)
      | else-x-via-else-x w ↦ way_zero c.args.x w.if-x.false c.if-x-2.true
    ]

pub returns-else-x-2 : goal.returns-else-x-2
unfolding of_bits
returns-else-x-2 c = way_none c.args.x c.if-x-2.false
