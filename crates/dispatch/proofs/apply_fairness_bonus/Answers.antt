-- dispatch::apply_fairness_bonus meets its contract.
use Rattle.dispatch.specs.Waits.{fairness_bonus}
use Rattle.fp.specs.Num.{fma, max_zero}
use lib.Ieee.{neg}
use mathlib.Core.Path.{◌≡◌, ap, ◌∙◌}
use Rattle.dispatch.proofs.apply_fairness_bonus.Goals as goal

pub returns : goal.returns
unfolding fairness_bonus
returns c =
    let a = c.args in
    let sum : c.fma.result ≡ fma a.weight (neg a.term) a.cost = c.fma.ensures in
    c.max_zero.ensures ∙ ap max_zero sum
