-- plain_matcher::choose meets its contract.
use Rattle.std.specs.Prelude.{◌≡◌, false, [], Some, None}
use Rattle.std.proofs.Common.{sym, ◌∙◌, arith}
use lib.ListN.{get_or-replicate}
use Rattle.plain_matcher.specs.Held.{choice_some, never_none}
use Rattle.plain_matcher.proofs.choose.Goals as goal

pub returns-in_err-best : goal.returns-in_err-best
returns-in_err-best c =
    let none : c.best.result ≡ None = grind (arith, c.ok_or.ensures.value, c.in_err-best.was) in
    absurd (never_none c.requires (sym none ∙ c.best.ensures.is [] (λ j l. get_or-replicate 5 j false false l)))

pub returns : goal.returns
returns c =
    let some : c.best.result ≡ Some c.in_ok-best.best = grind (arith, c.ok_or.ensures.value, c.in_ok-best.was) in
    choice_some c.requires (sym some ∙ c.best.ensures.is [] (λ j l. get_or-replicate 5 j false false l))
