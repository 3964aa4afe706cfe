-- covered::covered_stops meets its contract.
use Prim.Native.Nat.{ℕ}
use Rattle.covered.specs.Same.{covered_either}
use Rattle.layout.specs.Records.{sheet_of}
use Rattle.mask.specs.Mask.{has, built}
use mathlib.Core.Bool.{◌&&◌, ◌||◌}
use mathlib.Core.Path.{◌≡◌, ap, ◌∙◌}
use Rattle.covered.proofs.covered_stops.Goals as goal

pub returns : goal.returns
returns c =
    let a = c.args in
    let p = c.requires in
    let cars = c.covered_by_cars-cars in
    let shut : c.both.result ≡ built (λ j. has a.asked j && has a.closed j) 64 = c.both.ensures in
    c.either.ensures
    ∙ ap (λ (x : ℕ). built (λ j. has x j || has cars.result j) 64) shut
    ∙ covered_either (sheet_of a.s.now a.c) a.asked cars.result a.closed a.names.now p.small.2 cars.ensures p.closed_value
