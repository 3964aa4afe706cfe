-- bench::pending_ids meets its contract.
use Rattle.std.proofs.lemmas.Result.{err_from_is_err_and}
use Rattle.bench.specs.PendingStops.{is_pending, few, enough, at_least}
use mathlib.Core.Path.{refl, sym, ◌∙◌}
use Rattle.bench.proofs.pending_ids.Goals as goal

pub returns-then-few_places : goal.returns-then-few_places
returns-then-few_places c =
    let a = c.args in
    is_pending a.s.now a.stops.now (few a.s.now _ (sym c.few_places.ensures ∙ c.if-few_places.true)) refl

pub list_pending-requires : goal.list_pending-requires
list_pending-requires c =
    let e = sym c.in_ok-counts.was ∙ c.read.ensures in
    (sym e, at_least _ (sym c.few_places.ensures ∙ c.if-few_places.false))

pub returns-in_err-counts : goal.returns-in_err-counts
returns-in_err-counts c =
    let p = err_from_is_err_and c.from_residual.result c.from_residual.ensures.1 in
    let a = c.args in
    let e = sym c.in_err-counts.was ∙ c.read.ensures in
    rw (p.1, p.2) (is_pending a.s.now a.stops.now (enough a.s.now _ (sym c.few_places.ensures ∙ c.if-few_places.false) e) refl)

pub shape_of-stops : goal.shape_of-stops
shape_of-stops c = c.list_pending.ensures.length

pub returns : goal.returns
returns c =
    let a = c.args in
    let e = sym c.in_ok-counts.was ∙ c.read.ensures in
    is_pending a.s.now a.stops.now (enough a.s.now _ (sym c.few_places.ensures ∙ c.if-few_places.false) e) c.list_pending.ensures.done
