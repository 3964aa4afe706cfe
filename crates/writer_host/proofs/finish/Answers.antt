-- writer_host::finish meets its contract.
use Prim.Native.Nat.{◌<◌, ◌≤◌}
use mathlib.Core.Path.{refl, sym, ◌∙◌}
use mathlib.Core.Bool.{true}
use lib.ListN.{length}
use borrow.Author.Tests.{ne_eqb, lt-ltb, le-ltb}
use Rattle.std.proofs.lemmas.Result.{err_from_is_err_and}
use Rattle.writer.specs.Puts.{sheet_bytes}
use Rattle.writer_host.specs.Host.{counts_in, counts_ok, counts_err, refused_number, refused_some, finish_refusal, finish_refused, not_refused, state_small}
use Rattle.writer_host.proofs.finish.Goals as goal

pub returns-in_err-c : goal.returns-in_err-c
returns-in_err-c c =
    let l = c.args.state.now in
    let r = c.in_err-c.field-0.0 in
    let h = counts_err l true (sym c.in_err-c.was ∙ c.counts.ensures) in
    let p = err_from_is_err_and c.from_residual.result c.from_residual.ensures.1 in
    rw (p.1, p.2, finish_refused l (length c.args.sheet.now) (λ e. refused_some _ (sym h ∙ e)), h, ne_eqb (refused_number r) 0 (refused_some r)) (refl, refl, tt)

pub end_of-requires : goal.end_of-requires
end_of-requires c =
    let l = c.args.state.now in
    let h = counts_ok l true (sym c.in_ok-c.was ∙ c.counts.ensures) in rw h.1 (state_small l (not_refused l true h.0))

pub returns-then-sheet-bytes_for : goal.returns-then-sheet-bytes_for
unfolding finish_refusal
returns-then-sheet-bytes_for c =
    let l = c.args.state.now in
    let s = c.args.sheet.now in
    let h = counts_ok l true (sym c.in_ok-c.was ∙ c.counts.ensures) in
    let short : length s < sheet_bytes (counts_in l) = rw (c.bytes_for.ensures, c.end_of.ensures, h.1) at c.if-sheet-bytes_for.true in
    rw (not_refused l true h.0, lt-ltb (length s) (sheet_bytes (counts_in l)) short) (refl, refl, tt)

pub finish-requires : goal.finish-requires
finish-requires c =
    let l = c.args.state.now in
    let h = counts_ok l true (sym c.in_ok-c.was ∙ c.counts.ensures) in rw h.1 (state_small l (not_refused l true h.0))

pub returns : goal.returns
unfolding finish_refusal
returns c =
    let l = c.args.state.now in
    let s = c.args.sheet.now in
    let h = counts_ok l true (sym c.in_ok-c.was ∙ c.counts.ensures) in
    let room : sheet_bytes (counts_in l) ≤ length s = rw (c.bytes_for.ensures, c.end_of.ensures, h.1) at c.if-sheet-bytes_for.false in
    rw (not_refused l true h.0, le-ltb (length s) (sheet_bytes (counts_in l)) room) (refl, rw h.1 at c.finish.ensures.1, rw h.1 at c.finish.ensures.0)
