-- Document 02, request F-14: with no candidate limit, more bars never lower the total. Assumes nothing.
use Rattle.std.specs.Prelude.{◌≡◌}
use Rattle.std.proofs.Common.{sym, ap, ◌∙◌, arith}
use Rattle.layout.specs.Records.{sheet_of}
use Rattle.accepted.specs.Accepted.{accepted}
use Rattle.assignment.specs.Cells.{answered_total}
use Rattle.bench.specs.Answers.{total_of}
use Rattle.bench.specs.Done.{Lent, Done, pass_of, is_written}
use Rattle.bench.proofs.TwoPasses.{verdict_of}
use Rattle.bars.proofs.Barred.{limit_same, total_grows}
use Rattle.bars.specs.NeverCheaper.{NeverCheaper}

pub never_cheaper : (first second : Lent) {x y : Done} → x ≡ pass_of first → y ≡ pass_of second → NeverCheaper first second x y
never_cheaper first second h k =
    record {
      holds = λ c d p.
          let e = verdict_of first c p.first_accepted in
          let f = verdict_of second d p.second_accepted in
          let s = sheet_of first.bytes c in
          let t = sheet_of second.bytes d in
          let two = sym (limit_same first.bytes second.bytes c p.agree (accepted first.bytes c e).one_policy) ∙ p.no_limit_lem in
          omega (
            arith,
            ap (λ (z : Done). total_of z.answer) (is_written first h c p.first_accepted),
            ap (λ (z : Done). total_of z.answer) (is_written second k d p.second_accepted),
            ap (answered_total s) p.no_limit_lem,
            ap (answered_total t) two,
            total_grows first.bytes second.bytes c p.agree d e f,
          );
    }
