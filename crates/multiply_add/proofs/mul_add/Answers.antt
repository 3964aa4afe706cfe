-- multiply_add::mul_add meets its contract.
use Rattle.std.proofs.Common.{sym, ◌∙◌}
use Rattle.multiply_add.proofs.SumLaws.{first_not_finite, second_not_finite, third_not_finite}
use Rattle.multiply_add.proofs.mul_add.Goals as goal
use Rattle.multiply_add.proofs.mul_add.Goals.{else-finite-via-then-finite+else-finite-2, else-finite-via-else-finite}

pub fused-requires : goal.fused-requires
fused-requires c = (
  sym c.finite.ensures ∙ c.if-finite.true,
  sym c.finite-then-finite.ensures ∙ c.if-finite-2.true,
  sym c.finite-then-finite-2.ensures ∙ c.if-finite-3.true,
)

pub returns-then-finite-3 : goal.returns-then-finite-3
returns-then-finite-3 c = c.fused.ensures

pub returns-else-finite-3 : goal.returns-else-finite-3
returns-else-finite-3 c =
    let a = c.args in third_not_finite a.a a.b a.c
    (sym c.finite.ensures ∙ c.if-finite.true)
    (sym c.finite-then-finite.ensures ∙ c.if-finite-2.true) (sym c.finite-then-finite-2.ensures ∙ c.if-finite-3.false)

pub returns-else-finite : goal.returns-else-finite
returns-else-finite c =
    let a = c.args in
    let f = sym c.finite.ensures in
    elim c.else-finite.branch [
      | else-finite-via-then-finite+else-finite-2 w ↦
          second_not_finite a.a a.b a.c (f ∙ w.if-finite.true) (sym w.finite-then-finite.ensures ∙ w.if-finite-2.false)
      | else-finite-via-else-finite w ↦ first_not_finite a.a a.b a.c (f ∙ w.if-finite.false)
    ]
