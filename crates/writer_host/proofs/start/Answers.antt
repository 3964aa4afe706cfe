-- writer_host::start meets its contract.
use mathlib.Core.Path.{refl, sym, ◌∙◌}
use lib.ListN.{length}
use borrow.Author.Tests.{lt-ltb, le-ltb}
use Rattle.std.proofs.lemmas.Result.{err_from_is_err_and}
use Rattle.writer_host.specs.Host.{edition_ok, edition_err, start_refusal}
use Rattle.writer_host.proofs.start.Goals as goal

pub returns-then-state-lt9 : goal.returns-then-state-lt9
unfolding start_refusal
returns-then-state-lt9 c = rw (lt-ltb (length c.args.state.now) 9 c.if-state-lt9.true) (refl, refl, refl)

pub returns-in_err-edition : goal.returns-in_err-edition
unfolding start_refusal
returns-in_err-edition c =
    let long = le-ltb (length c.args.state.now) 9 c.if-state-lt9.false in
    let q = edition_err c.args.edition (sym c.in_err-edition.was ∙ c.edition_of.ensures) in
    let p = err_from_is_err_and c.from_residual.result c.from_residual.ensures.1 in
    rw (p.1, p.2, q.1, long, q.0) (refl, refl, refl)

pub returns-in_err-c : goal.returns-in_err-c
unfolding start_refusal
returns-in_err-c c =
    let long = le-ltb (length c.args.state.now) 9 c.if-state-lt9.false in
    let q = edition_ok c.args.edition (sym c.in_ok-edition.was ∙ c.edition_of.ensures) in
    let p = err_from_is_err_and c.from_residual-in_err-c.result c.from_residual-in_err-c.ensures.1 in
    let was = c.in_err-c.was in
    let start = c.start.ensures in
    rw (p.1, p.2, long, q.0, ← q.1, ← start.0, was) (refl, rw was at start.1, refl)

pub store-requires : goal.store-requires
store-requires c = c.if-state-lt9.false

pub returns : goal.returns
unfolding start_refusal
returns c =
    let long = le-ltb (length c.args.state.now) 9 c.if-state-lt9.false in
    let q = edition_ok c.args.edition (sym c.in_ok-edition.was ∙ c.edition_of.ensures) in
    let was = c.in_ok-c.was in
    let start = c.start.ensures in
    rw (long, q.0, ← q.1, ← start.0, was) (refl, rw was at start.1, c.store.ensures)
