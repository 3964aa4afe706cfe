-- pending::demand_stops meets its contract.
use Prim.Native.Nat.{ℕ}
use Rattle.layout.specs.Records.{sheet_of}
use Rattle.mask.specs.Mask.{has, built}
use Rattle.pending.specs.Same.{demand_mask}
use mathlib.Core.Bool.{◌&&◌, ◌||◌}
use mathlib.Core.Path.{ap, ◌∙◌}
use Rattle.pending.proofs.demand_stops.Goals as goal

pub returns : goal.returns
unfolding sheet_of
returns c =
    let a = c.args in
    let p = c.requires in
    let group = c.line_stops-group in
    let waited = c.waited_stops-waited in
    c.both.ensures
    ∙ ap (λ (x : ℕ). built (λ j. has group.result j && has x j) 64)
    (c.either-2.ensures ∙ ap (λ (x : ℕ). built (λ j. has waited.result j || has x j) 64) c.either.ensures)
    ∙ demand_mask (sheet_of a.s.now a.c) group.result waited.result a.m.ridden a.m.calls
    group.ensures waited.ensures p.calls_value.1 p.calls_value.0
