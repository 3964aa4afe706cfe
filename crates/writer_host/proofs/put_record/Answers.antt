-- writer_host::put_record meets its contract.
use mathlib.Core.Path.{refl, sym, ◌∙◌}
use Rattle.std.proofs.lemmas.Result.{err_from_is_err_and}
use Rattle.writer_host.specs.Host.{counts_ok, counts_err, refused_left, not_refused, state_long, state_small}
use Rattle.writer_host.proofs.put_record.Goals as goal

pub returns-in_err-c : goal.returns-in_err-c
returns-in_err-c g c =
    let a = c.args in
    let p = err_from_is_err_and c.from_residual.result c.from_residual.ensures.1 in
    rw (p.1, p.2) (refused_left _ _ _ _ _ _ _ (counts_err a.state.now a.known (sym c.in_err-c.was ∙ c.counts.ensures)))

pub put-requires : goal.put-requires
put-requires g c =
    let a = c.args in
    let h = counts_ok a.state.now a.known (sym c.in_ok-c.was ∙ c.counts.ensures) in
    rw h.1 (state_small a.state.now (not_refused a.state.now a.known h.0))

pub returns-in_err-next : goal.returns-in_err-next
returns-in_err-next g c =
    let a = c.args in
    let h = counts_ok a.state.now a.known (sym c.in_ok-c.was ∙ c.counts.ensures) in
    let p = err_from_is_err_and c.from_residual-in_err-next.result c.from_residual-in_err-next.ensures.1 in
    let was = c.in_err-next.was in
    rw (p.1, p.2, h.0, ← h.1, ← c.put.ensures.0, was) (refl, rw was at c.put.ensures.1, refl)

pub store-requires : goal.store-requires
store-requires g c =
    let a = c.args in
    let h = counts_ok a.state.now a.known (sym c.in_ok-c.was ∙ c.counts.ensures) in
    state_long a.state.now (not_refused a.state.now a.known h.0)

pub returns : goal.returns
returns g c =
    let a = c.args in
    let h = counts_ok a.state.now a.known (sym c.in_ok-c.was ∙ c.counts.ensures) in
    let was = c.in_ok-next.was in
    rw (h.0, ← h.1, ← c.put.ensures.0, was) (refl, rw was at c.put.ensures.1, c.store.ensures)
