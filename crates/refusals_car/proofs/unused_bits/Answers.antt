-- refusals_car::unused_bits meets its contract.
use Rattle.layout.specs.Refusals.{refusal8_car}
use Rattle.refusals_car.proofs.unused_bits.Goals as goal

pub returns : goal.returns
unfolding refusal8_car
returns c =
    let p = c.requires in
    rw (c.unknown_phase.ensures, c.unused_stop-unused.ensures, p.2, p.3, p.4, p.5) cc
