-- shown::shows meets its contract.
use mathlib.Core.Path.{ap₂}
use mathlib.Core.Bool.{Bool, ◌&&◌}
use Rattle.shown.specs.Shown.{shown}
use Rattle.shown.proofs.shows.Goals as goal

pub returns : goal.returns
unfolding shown
returns c =
    ap₂ (λ (p q : Bool). p && q) c.never_above-under.ensures
    (ap₂ (λ (p q : Bool). p && q) c.equal_where_chosen-equal.ensures c.columns_priced-priced.ensures)
