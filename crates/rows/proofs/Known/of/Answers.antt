-- rows::Known::of meets its contract.
use mathlib.Core.Path.{refl}
use Rattle.layout.specs.Records.{sheet_of}
use Rattle.rows.proofs.Known.of.Goals as goal

pub invariant_of-result : goal.invariant_of-result
unfolding sheet_of
invariant_of-result c = record { of_sheet = (c.policy_at.ensures, refl, refl) }
