-- weights::fill_weights meets its contract.
use Rattle.std.proofs.lemmas.Result.{err_from_is_err_and}
use Rattle.weights.specs.Answers.{weights_left}
use Rattle.weights.specs.Places.{few_places, enough_places}
use mathlib.Core.Path.{sym, ap, ◌∙◌}
use Rattle.weights.proofs.fill_weights.Goals as goal

pub returns-then-places-lt6 : goal.returns-then-places-lt6
returns-then-places-lt6 c =
    let a = c.args in
    let e = few_places a.store.now a.day _ c.if-places-lt6.true in record {
      answer = e;
      places = ap (λ x. weights_left x a.places.now) e;
    }

pub returns : goal.returns
returns c =
    let a = c.args in
    let e = enough_places a.store.now a.day _ c.if-places-lt6.false (sym c.in_ok-six.was ∙ c.weights.ensures) in record {
      answer = e;
      places = c.write_six.ensures ∙ ap (λ x. weights_left x a.places.now) e;
    }

pub returns-in_err-six : goal.returns-in_err-six
returns-in_err-six c =
    let p = err_from_is_err_and c.from_residual.result c.from_residual.ensures.1 in
    let a = c.args in
    let e = enough_places a.store.now a.day _ c.if-places-lt6.false (sym c.in_err-six.was ∙ c.weights.ensures) in rw (p.1, p.2) (record {
      answer = e;
      places = ap (λ x. weights_left x a.places.now) e;
    })
