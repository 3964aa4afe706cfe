-- candidates::kept_stops meets its contract.
use Prim.Native.Nat.{ℕ, ◌≤◌}
use lib.Ieee.{Float}
use mathlib.Core.List.{List}
use mathlib.Core.Path.{ap, subst, ◌∙◌}
use Rattle.laws.specs.Tables.{tab}
use Rattle.components.specs.declared.Point.{Point}
use Rattle.components.specs.Points.{distance}
use Rattle.manifest.specs.Stops.{point_in}
use Rattle.mask.specs.Mask.{built}
use Rattle.candidates.specs.Cut.{cut}
use Rattle.candidates.specs.CutLaws.{none_cut, few_cut}
use Rattle.candidates.proofs.kept_stops.Goals as goal

abbrev distances : List Float → Point → List Float
distances xs x = tab (λ j. distance x (point_in xs j)) 64

pub returns-then-limit-eq-NO_LIMIT : goal.returns-then-limit-eq-NO_LIMIT
returns-then-limit-eq-NO_LIMIT c = let s = c in let a = s.args in none_cut a.viable (distances a.xs.now a.x) a.limit c.if-limit-eq-NO_LIMIT.true s.ranges.viable.fits

pub returns-then-size-limit : goal.returns-then-size-limit
returns-then-size-limit c =
    let s = c in
    let a = s.args in
    few_cut a.viable (distances a.xs.now a.x) a.limit (subst (λ (n : ℕ). n ≤ a.limit) c.size.ensures c.if-size-limit.true) s.ranges.viable.fits

pub returns : goal.returns
returns c =
    let a = c.args in
    c.cut_stops.ensures ∙ ap (λ (ds : List Float). built (cut a.viable ds a.limit) 64) c.fill_distances.ensures
