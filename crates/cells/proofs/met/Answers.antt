-- cells::met meets its contract.
use Rattle.layout.specs.Records.{waiting_of}
use lib.Ieee.{of_bits, binary64}
use mathlib.Core.Path.{ap, ◌∙◌}
use Rattle.cells.proofs.met.Goals as goal

pub returns : goal.returns
unfolding waiting_of
returns c =
    let weight = c.double-weight.ensures ∙ ap (of_bits binary64) c.field.ensures.is in
    rw (c.field32-dest.ensures, weight, c.field-wait.ensures.is) at c.meet.ensures
