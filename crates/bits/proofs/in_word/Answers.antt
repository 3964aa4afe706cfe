-- bits::in_word meets its contract.
use native.Mathlib.Omega.{arith}
use borrow.Author.Rules.{rules}
use Rattle.bits.specs.Field.{field_lt}
use Rattle.bits.proofs.NineBytes.{word_is}
use Rattle.bits.proofs.in_word.Goals as goal

pub returns : goal.returns
returns c =
    let a = c.args in
    let p = c.place-k.ensures in
    let w = word_is a.s.now a.at a.w (omega arith) in
    rw (c.word.ensures, p.0, p.1, w) (record { is = search rules; small = field_lt _ _ _ })
