-- weights::weights meets its contract.
use Rattle.weight_store.specs.Passed.{refused_few, refused_within}
use native.Mathlib.Omega.{arith}
use Rattle.weights.proofs.weights.Goals as goal

pub weights_within-requires : goal.weights_within-requires
weights_within-requires c = (refused_within _ 16 c.if-store-le-SMALL_BYTES.true, omega arith)

pub weights_within-requires-else-store-le-SMALL_BYTES : goal.weights_within-requires-else-store-le-SMALL_BYTES
weights_within-requires-else-store-le-SMALL_BYTES c = (refused_few _, omega arith)
