-- pending::stop_masks meets its contract.
use mathlib.Core.Path.{refl}
use Rattle.pending.proofs.stop_masks.Goals as goal

pub returns : goal.returns
returns c = rw (c.demand_masks-m.ensures.0, c.demand_stops-demand.ensures, c.pending_stops-pending.ensures) refl
