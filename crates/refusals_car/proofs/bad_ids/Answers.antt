-- refusals_car::bad_ids meets its contract.
use Rattle.conditions.specs.Ids.{contains_seen}
use Rattle.layout.specs.Refusals.{refusal9_car}
use mathlib.Core.Path.{◌∙◌}
use Rattle.refusals_car.proofs.bad_ids.Goals as goal

pub returns : goal.returns
unfolding refusal9_car
returns c =
    let p = c.requires in
    let again = c.contains-again.ensures ∙ contains_seen _ _ _ _ _ _ p.5 in
    rw (again, c.is_moving-moving.ensures, p.4, p.3, p.2, p.1, p.0) cc
