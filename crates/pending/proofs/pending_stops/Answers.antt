-- pending::pending_stops meets its contract.
use Prim.Native.Nat.{ℕ}
use Rattle.layout.specs.Records.{sheet_of}
use Rattle.mask.specs.Mask.{has, built}
use Rattle.pending.specs.Same.{pending_mask, none_covered, kept_ids}
use mathlib.Core.Bool.{◌&&◌, not}
use mathlib.Core.Path.{◌≡◌, ap, ◌∙◌}
use Rattle.pending.proofs.pending_stops.Goals as goal

pub covered_stops-covered-requires : goal.covered_stops-covered-requires
covered_stops-covered-requires c =
    let a = c.args in
    let p = c.requires in
    let closed = c.closed_stops-closed in
    let kept = c.without-kept in record {
      small = (p.small.0, p.small.2, kept_ids (sheet_of a.s.now a.c) a.names.now a.demand closed.result kept.result p.small.3 p.demand_value kept.ensures);
      closed_value = closed.ensures;
    }

pub returns-then-covered-eq0 : goal.returns-then-covered-eq0
returns-then-covered-eq0 c =
    let a = c.args in
    let p = c.requires in
    let closed = c.closed_stops-closed in
    let kept = c.without-kept in
    let covered = c.covered_stops-covered in
    none_covered (sheet_of a.s.now a.c) a.names.now a.demand closed.result kept.result p.small.3 p.demand_value kept.ensures
    covered.result closed.ensures covered.ensures c.if-covered-eq0.true

pub returns : goal.returns
returns c =
    let a = c.args in
    let p = c.requires in
    let closed = c.closed_stops-closed in
    let kept = c.without-kept in
    let covered = c.covered_stops-covered in
    let bound = c.bound_stops in
    let dropped : c.without.result ≡ built (λ j. has covered.result j && not (has bound.result j)) 64 = c.without.ensures in
    c.without-2.ensures
    ∙ ap (λ (x : ℕ). built (λ j. has kept.result j && not (has x j)) 64) dropped
    ∙ pending_mask (sheet_of a.s.now a.c) a.names.now a.demand closed.result kept.result p.small.3 p.demand_value kept.ensures
    covered.result closed.ensures covered.ensures bound.result bound.ensures
