-- why::fill_terms meets its contract.
use Rattle.std.specs.Prelude.{Ok}
use Rattle.std.proofs.lemmas.Result.{err_from_is_err_and}
use Rattle.why.specs.Answers.{terms_left, few_places, enough_places}
use mathlib.Core.Path.{sym, ap, ◌∙◌}
use Rattle.why.proofs.fill_terms.Goals as goal

pub returns-then-places-lt8 : goal.returns-then-places-lt8
returns-then-places-lt8 c =
    let a = c.args in
    let e = few_places a.s.now a.car a.stop _ c.if-places-lt8.true in record {
      answer = e;
      places = ap (λ x. terms_left x a.places.now) e;
    }

pub returns-in_err-why : goal.returns-in_err-why
returns-in_err-why c =
    let p = err_from_is_err_and c.from_residual.result c.from_residual.ensures.1 in
    let a = c.args in
    let e = enough_places a.s.now a.car a.stop _ c.if-places-lt8.false (sym c.in_err-why.was ∙ c.ask.ensures) in rw (p.1, p.2) (record {
      answer = e;
      places = ap (λ x. terms_left x a.places.now) e;
    })

pub returns-in-Ranked : goal.returns-in-Ranked
returns-in-Ranked c =
    let a = c.args in
    let e = enough_places a.s.now a.car a.stop _ c.if-places-lt8.false (sym c.in_ok-why.was ∙ c.ask.ensures) in record {
      answer = ap Ok (sym c.in-Ranked.is) ∙ e;
      places = c.write_terms.ensures ∙ ap (λ x. terms_left (Ok x) a.places.now) (sym c.in-Ranked.is) ∙ ap (λ x. terms_left x a.places.now) e;
    }

pub returns-in-Unranked : goal.returns-in-Unranked
returns-in-Unranked c =
    let a = c.args in
    let e = enough_places a.s.now a.car a.stop _ c.if-places-lt8.false (sym c.in_ok-why.was ∙ c.ask.ensures) in record {
      answer = e;
      places = ap (λ x. terms_left (Ok x) a.places.now) (sym c.in-Unranked.is) ∙ ap (λ x. terms_left x a.places.now) e;
    }
