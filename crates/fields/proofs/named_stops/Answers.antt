-- fields::named_stops meets its contract.
use Rattle.laws.specs.Folds.{ended}
use Rattle.mask.specs.Mask.{built}
use Rattle.mask.specs.MaskLaws.{built_room, built_next}
use mathlib.Core.Path.{refl, ◌∙◌}
use native.Mathlib.Omega.{arith}
use Rattle.fields.proofs.named_stops.Goals as goal

pub loop-j-init : goal.loop-j-init
unfolding built
loop-j-init c = (omega arith, refl)

pub pushed-m-requires : goal.pushed-m-requires
pushed-m-requires c = built_room _ _ _ c.loop-j-test.true c.loop-j.invariant.1

pub loop-j-preserved : goal.loop-j-preserved
loop-j-preserved c = (omega arith, c.pushed-m.ensures ∙ built_next _ _ _ _ c.loop-j.invariant.1 c.is_named.ensures)

pub returns : goal.returns
returns c = ended (built _) c.loop-j.invariant.0 c.loop-j-test.false c.loop-j.invariant.1
