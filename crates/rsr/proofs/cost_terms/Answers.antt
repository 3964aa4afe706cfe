-- rsr::cost_terms meets its contract.
use Rattle.rsr.specs.Rsr.{terms_by_lem}
use Rattle.rsr.proofs.cost_terms.Goals as goal

pub returns : goal.returns
returns c =
    let a = c.args in
    let row = a.row.now in
    terms_by_lem row.policy row.car row.goal a.waiters.waitsum a.call a.p
    c.distance.ensures c.peak_scaling-scaling.ensures c.wrong_direction-wrong.ensures c.with_penalty-reversed.ensures
    c.with_coincident_call-called.ensures c.is_idle.ensures c.with_load-loaded.ensures c.with_bonus-aged.ensures c.max_zero.ensures
